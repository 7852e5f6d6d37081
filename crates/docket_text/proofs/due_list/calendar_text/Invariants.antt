use Rattle.std.proofs.Common.{◌≡◌, ◌++◌, drop, string_bytes}
use Rattle.std.specs.List.{flat_map}
use Rattle.docket_text.specs.CalendarTexts.{calendar_line}
use Rattle.docket_text.proofs.due_list.calendar_text.Given as goal

abbrev pub invariant-loop-row : goal.invariant-loop-row
invariant-loop-row l = string_bytes l.text ++ flat_map (calendar_line l.court) (drop l.row-index l.rows) ≡ flat_map (calendar_line l.court) l.rows
