use Rattle.std.proofs.Common.{◌≡◌, ◌∙◌, ◌++◌, ◌≤◌, List, ℕ, Some, ap, length, arith}
use Rattle.std.proofs.lemmas.Bool.Decides.{nat_tests}
use Rattle.std.specs.List.{flat_map}
use Rattle.docket_text.specs.CaseLists.{case_list_line}
use Rattle.docket_questions.proofs.NewestLemmas.{no_lines, some_lines}
use Rattle.docket_questions.proofs.found.lines_found.Goals as goal

pub returns-then-is_empty : goal.returns-then-is_empty
returns-then-is_empty c =
    let none : length c.args.cases.now ≡ 0 = grind (arith, nat_tests, c.is_empty.ensures, c.if-is_empty.true) in
    no_lines c.args.cases.now none

pub returns : goal.returns
returns c =
    let some : 1 ≤ length c.args.cases.now = grind (arith, nat_tests, c.is_empty.ensures, c.if-is_empty.false) in
    ap Some (c.in_ok-push_lines.ensures ∙ ap (λ (text : List ℕ). text ++ flat_map case_list_line c.args.cases.now) c.new-text.ensures.bytes)
    ∙ some_lines c.args.cases.now some
