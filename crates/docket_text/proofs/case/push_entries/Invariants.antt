use Rattle.std.proofs.Common.{◌≡◌, ◌++◌, drop, string_bytes}
use Rattle.std.specs.List.{flat_map}
use Rattle.docket_text.specs.CaseTexts.{entry_line}
use Rattle.docket_text.proofs.case.push_entries.Given as goal

abbrev pub invariant-loop-entry : goal.invariant-loop-entry
invariant-loop-entry l = string_bytes l.text ++ flat_map entry_line (drop l.entry-index l.entries) ≡ string_bytes l.initial.text ++ flat_map entry_line l.entries
