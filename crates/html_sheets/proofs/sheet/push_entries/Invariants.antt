use Rattle.std.proofs.Common.{◌≡◌, ◌++◌, drop, string_bytes}
use Rattle.std.specs.List.{flat_map}
use Rattle.html_sheets.specs.Sheets.{entry_row}
use Rattle.html_sheets.proofs.sheet.push_entries.Given as goal

abbrev pub invariant-loop-entry : goal.invariant-loop-entry
invariant-loop-entry l = string_bytes l.text ++ flat_map entry_row (drop l.entry-index l.entries) ≡ string_bytes l.initial.text ++ flat_map entry_row l.entries
