use Rattle.std.proofs.Common.{◌∙◌, ap, sym}
use Rattle.std.specs.Option.{option_and_then}
use Rattle.docket_history.specs.declared.subject.Subject.{Subject}
use Rattle.docket_decisions.specs.Tables.{case_in}
use Rattle.docket_tables.specs.Contents.{rows_in}
use Rattle.docket_tables.proofs.ReadLemmas.{gives_weaker}
use Rattle.docket_tables.proofs.AskLemmas.{unasked}
use Rattle.docket_applying.proofs.viewing.case_asked.Goals as goal

pub returns-in-Some-clause-read : goal.returns-in-Some-clause-read
returns-in-Some-clause-read g c court t orderly holds =
    gives_weaker g.S.Store c.case_view.new.conn (rows_in court t) _ _ c.case_view.result
    (λ found is. is ∙ ap (option_and_then (case_in t c.args.action.now)) (sym c.in-Some.is ∙ ap (λ (s : Subject). s.case) c.requires)) (c.case_view.ensures.read court t orderly holds)

pub returns-in-None-clause-only : goal.returns-in-None-clause-only
returns-in-None-clause-only g c = unasked
