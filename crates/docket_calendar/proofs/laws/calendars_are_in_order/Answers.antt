use Rattle.docket_calendar.proofs.HistoryLemmas.{is_calendar}
use Rattle.docket_calendar.proofs.laws.calendars_are_in_order.Goals as goal

pub returns : goal.returns
returns c = is_calendar
