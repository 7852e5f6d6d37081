use Rattle.std.proofs.Common.{◌≡◌, ◌++◌, drop, string_bytes}
use Rattle.std.specs.List.{flat_map}
use Rattle.html_sheets.specs.Sheets.{deadline_row}
use Rattle.html_sheets.proofs.sheet.push_deadlines.Given as goal

abbrev pub invariant-loop-deadline : goal.invariant-loop-deadline
invariant-loop-deadline l = string_bytes l.text ++ flat_map (deadline_row l.links l.court l.case) (drop l.deadline-index l.deadlines) ≡ string_bytes l.initial.text ++ flat_map (deadline_row l.links l.court l.case) l.deadlines
