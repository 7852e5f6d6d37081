use Rattle.std.proofs.Common.{◌∙◌, ap, sym, if◌then◌else◌, []}
use Rattle.docket_history.specs.Histories.{items_of, standing_rows}
use Rattle.docket_applying.specs.Applying.{docket_rows}
use Rattle.docket_tables.proofs.ReadLemmas.{gives_weaker}
use Rattle.docket_tables.proofs.AskLemmas.{unasked}
use Rattle.docket_applying.proofs.judging.calendar_asked.Goals as goal

pub returns-clause-read : goal.returns-clause-read
returns-clause-read g c court h stands =
    gives_weaker g.S.Store c.take_calendar.new.conn (docket_rows court h) _ _ c.take_calendar.result
    (λ found is. is ∙ ap (λ b. if b then items_of (standing_rows h) else []) (sym c.if-not-asked.false))
    (c.take_calendar.ensures.read court h stands)

pub returns-then-not-asked-clause-only : goal.returns-then-not-asked-clause-only
returns-then-not-asked-clause-only g c = unasked
