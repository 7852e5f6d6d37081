use Rattle.std.proofs.Common.{◌≡◌, ◌++◌, drop, string_bytes}
use Rattle.std.specs.List.{flat_map}
use Rattle.html_sheets.specs.Pages.{case_row}
use Rattle.html_sheets.proofs.site.push_rows.Given as goal

abbrev pub invariant-loop-case : goal.invariant-loop-case
invariant-loop-case l = string_bytes l.text ++ flat_map case_row (drop l.case-index l.cases) ≡ string_bytes l.initial.text ++ flat_map case_row l.cases
