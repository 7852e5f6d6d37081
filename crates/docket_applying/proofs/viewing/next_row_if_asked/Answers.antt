use Rattle.std.proofs.Common.{◌∙◌, ap, sym}
use Rattle.docket_history.specs.Actions.{if_asked}
use Rattle.docket_tables.specs.Contents.{rows_in}
use Rattle.docket_tables.proofs.ReadLemmas.{err_given}
use Rattle.docket_tables.proofs.AskLemmas.{asked, asked_err, unasked}
use Rattle.docket_applying.proofs.viewing.next_row_if_asked.Goals as goal

pub returns-then-not-asked-clause-read : goal.returns-then-not-asked-clause-read
returns-then-not-asked-clause-read g c court t orderly holds =
    (holds, λ clean. ap (λ asked. if_asked asked t.next_row) (sym c.if-not-asked.true))

pub returns-in_err-court-clause-read : goal.returns-in_err-court-clause-read
returns-in_err-court-clause-read g c court t orderly holds =
    err_given g.S.Store c.court.new.conn (rows_in court t) _ c.in_err-court.field-0.0 c.from_residual.result c.from_residual.ensures.1 (c.in_err-court.ensures.read court t orderly holds)

pub returns-clause-read : goal.returns-clause-read
returns-clause-read g c court t orderly holds =
    let read = c.in_ok-court.ensures.read court t orderly holds in
    (read.0, λ clean. ap (λ r. r.next_row) (read.1 clean) ∙ ap (λ asked. if_asked asked t.next_row) (sym c.if-not-asked.false))

pub returns-then-not-asked-clause-only : goal.returns-then-not-asked-clause-only
returns-then-not-asked-clause-only g c = unasked

pub returns-in_err-court-clause-only : goal.returns-in_err-court-clause-only
returns-in_err-court-clause-only g c = asked_err c.from_residual.result c.from_residual.ensures.1 c.in_err-court.ensures.only

pub returns-clause-only : goal.returns-clause-only
returns-clause-only g c = asked c.in_ok-court.ensures.only
