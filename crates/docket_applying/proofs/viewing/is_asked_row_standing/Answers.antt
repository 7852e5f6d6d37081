use Rattle.std.proofs.Common.{◌∙◌, ap, sym}
use Rattle.docket_decisions.specs.Outcomes.{is_row_standing}
use Rattle.docket_tables.specs.Contents.{rows_in}
use Rattle.docket_tables.proofs.ReadLemmas.{gives_weaker}
use Rattle.docket_applying.proofs.viewing.is_asked_row_standing.Goals as goal

pub returns-in-WithdrawCalendar-clause-read : goal.returns-in-WithdrawCalendar-clause-read
returns-in-WithdrawCalendar-clause-read g c court t orderly holds =
    gives_weaker g.S.Store c.is_row_standing.new.conn (rows_in court t) _ _ c.is_row_standing.result
    (λ found is. is ∙ ap (λ a. is_row_standing a t.calendar) (sym c.in-WithdrawCalendar.is)) (c.is_row_standing.ensures.read court t orderly holds)
