use Rattle.std.proofs.Common.{◌∙◌, ap, sym}
use Rattle.std.specs.Option.{option_and_then}
use Rattle.docket_decisions.specs.Tables.{deadlines_in}
use Rattle.docket_history.specs.Views.{deadline_at}
use Rattle.docket_tables.specs.Contents.{rows_in}
use Rattle.docket_tables.proofs.ReadLemmas.{gives_weaker}
use Rattle.docket_tables.proofs.AskLemmas.{unasked}
use Rattle.docket_applying.proofs.viewing.deadline_asked.Goals as goal

pub returns-in-Some-clause-read : goal.returns-in-Some-clause-read
returns-in-Some-clause-read g c court t orderly holds =
    gives_weaker g.S.Store c.deadline_view.new.conn (rows_in court t) _ _ c.deadline_view.result
    (λ found is. is ∙ ap (option_and_then (deadline_at (deadlines_in t c.args.case))) (sym c.in-Some.is)) (c.deadline_view.ensures.read court t orderly holds)

pub returns-in-None-clause-only : goal.returns-in-None-clause-only
returns-in-None-clause-only g c = unasked
