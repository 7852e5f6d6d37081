use Rattle.std.proofs.Common.{◌≡◌, ◌≤◌, drop}
use Rattle.court_days.specs.Calendar.{rows_of}
use Rattle.docket_history.specs.CalendarItems.{entered_with, calendar_of}
use Rattle.docket_history.proofs.calendar_rows.calendar_of.Given as goal

abbrev pub invariant-loop-item : goal.invariant-loop-item
invariant-loop-item l = record {
  rest : entered_with l.calendar (drop l.item-index l.items) ≡ calendar_of l.items;
  few : rows_of l.calendar ≤ l.item-index;
}
