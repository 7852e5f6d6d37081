use Rattle.std.proofs.Common.{◌≡◌, ◌++◌, drop, filter, string_bytes}
use Rattle.std.specs.List.{flat_map}
use Rattle.docket_text.specs.CourtCalendar.{calendar_row_line, touches}
use Rattle.docket_text.proofs.court_calendar.push_rows.Given as goal

abbrev pub invariant-loop-row : goal.invariant-loop-row
invariant-loop-row l =
    string_bytes l.text ++ flat_map (calendar_row_line l.court) (filter (touches l.court l.from l.to) (drop l.row-index l.rows))
    ≡ string_bytes l.initial.text ++ flat_map (calendar_row_line l.court) (filter (touches l.court l.from l.to) l.rows)
