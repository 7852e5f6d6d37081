use Rattle.std.proofs.Common.{◌∙◌, sym, arith}
use Rattle.sqlite.specs.Held.{state}
use Rattle.sqlite.specs.State.{HasCleanDisk}
use Rattle.docket_tables.specs.Contents.{rows_in}
use Rattle.docket_tables.proofs.ReadLemmas.{err_given}
use Rattle.docket_applying.proofs.ViewLemmas.{no_deadline, one_deadline}
use Rattle.docket_tables.proofs.AskLemmas.{asked, asked_err, asked_then}
use Rattle.docket_applying.proofs.viewing.deadline_view.Goals as goal

pub returns-in_err-row-clause-read : goal.returns-in_err-row-clause-read
returns-in_err-row-clause-read g c court t orderly holds =
    err_given g.S.Store c.deadline.new.conn (rows_in court t) _ c.in_err-row.field-0.0 c.from_residual.result c.from_residual.ensures.1 (c.in_err-row.ensures.read court t orderly holds)

pub returns-in_default-clause-read : goal.returns-in_default-clause-read
returns-in_default-clause-read g c court t orderly holds =
    let read0 = c.in_ok-row.ensures.read court t orderly holds in (
      read0.0,
      λ clean. sym (no_deadline t c.args.case c.args.number (sym (read0.1 clean) ∙ c.in_default.is)),
    )

pub returns-in_err-acts-clause-read : goal.returns-in_err-acts-clause-read
returns-in_err-acts-clause-read g c court t orderly holds =
    let read0 = c.in_ok-row.ensures.read court t orderly holds in
    err_given g.S.Store c.acts_of_deadline.new.conn (rows_in court t) _ c.in_err-acts.field-0.0 c.from_residual-in_err-acts.result c.from_residual-in_err-acts.ensures.1 (c.in_err-acts.ensures.read court t orderly read0.0)

pub returns-clause-read : goal.returns-clause-read
returns-clause-read g c court t orderly holds =
    let read0 = c.in_ok-row.ensures.read court t orderly holds in
    let read1 = c.in_ok-acts.ensures.read court t orderly read0.0 in (
      read1.0,
      λ clean1.
          let clean0 : HasCleanDisk (state g.S.Store c.deadline.new.conn) = omega (arith, c.acts_of_deadline.ensures.only.writes_nothing.clean) in
          sym (one_deadline t c.args.case c.args.number c.in-Some.row _ (sym (read0.1 clean0) ∙ c.in-Some.is) (c.new.ensures ∙ read1.1 clean1)),
    )

pub returns-in_err-row-clause-only : goal.returns-in_err-row-clause-only
returns-in_err-row-clause-only g c = asked_err c.from_residual.result c.from_residual.ensures.1 c.in_err-row.ensures.only

pub returns-in_default-clause-only : goal.returns-in_default-clause-only
returns-in_default-clause-only g c = asked c.in_ok-row.ensures.only

pub returns-in_err-acts-clause-only : goal.returns-in_err-acts-clause-only
returns-in_err-acts-clause-only g c = asked_err c.from_residual-in_err-acts.result c.from_residual-in_err-acts.ensures.1 (asked_then c.in_ok-row.ensures.only c.in_err-acts.ensures.only)

pub returns-clause-only : goal.returns-clause-only
returns-clause-only g c = asked (asked_then c.in_ok-row.ensures.only c.in_ok-acts.ensures.only)
