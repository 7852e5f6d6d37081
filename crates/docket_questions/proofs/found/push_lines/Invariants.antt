use Rattle.std.proofs.Common.{◌≡◌, ◌++◌, drop, string_bytes}
use Rattle.std.specs.List.{flat_map}
use Rattle.docket_text.specs.CaseLists.{case_list_line}
use Rattle.docket_questions.proofs.found.push_lines.Given as goal

abbrev pub invariant-loop-case : goal.invariant-loop-case
invariant-loop-case l = string_bytes l.text ++ flat_map case_list_line (drop l.case-index l.cases) ≡ string_bytes l.initial.text ++ flat_map case_list_line l.cases
