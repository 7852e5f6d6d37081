use Rattle.std.proofs.Common.{◌∙◌, length, ap, sym}
use Rattle.docket_history.specs.Actions.{if_asked}
use Rattle.docket_tables.specs.Contents.{rows_in}
use Rattle.docket_tables.proofs.ReadLemmas.{gives_weaker}
use Rattle.docket_tables.proofs.AskLemmas.{unasked}
use Rattle.docket_applying.proofs.viewing.cases_if_asked.Goals as goal

pub returns-then-not-asked-clause-read : goal.returns-then-not-asked-clause-read
returns-then-not-asked-clause-read g c court t orderly holds =
    (holds, λ clean. ap (λ asked. if_asked asked (length t.cases)) (sym c.if-not-asked.true))

pub returns-clause-read : goal.returns-clause-read
returns-clause-read g c court t orderly holds =
    gives_weaker g.S.Store c.cases.new.conn (rows_in court t) _ _ c.cases.result
    (λ found is. is ∙ ap (λ asked. if_asked asked (length t.cases)) (sym c.if-not-asked.false)) (c.cases.ensures.read court t orderly holds)

pub returns-then-not-asked-clause-only : goal.returns-then-not-asked-clause-only
returns-then-not-asked-clause-only g c = unasked
