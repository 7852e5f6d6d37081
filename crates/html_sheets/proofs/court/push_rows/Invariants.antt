use Rattle.std.proofs.Common.{◌≡◌, ◌++◌, drop, string_bytes}
use Rattle.std.specs.List.{flat_map}
use Rattle.html_sheets.specs.Sites.{calendar_row}
use Rattle.html_sheets.proofs.court.push_rows.Given as goal

abbrev pub invariant-loop-row : goal.invariant-loop-row
invariant-loop-row l = string_bytes l.text ++ flat_map (calendar_row l.court) (drop l.row-index l.rows) ≡ string_bytes l.initial.text ++ flat_map (calendar_row l.court) l.rows
