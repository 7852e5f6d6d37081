use Rattle.std.proofs.Common.{◌≡◌, ◌∙◌, ℕ, List, IfOk, ap, length, nat_lt, subst, take}
use Rattle.std.proofs.Math.Nat.{min_comm}
use Rattle.std.proofs.lemmas.List.{take_min}
use Rattle.std.specs.Prelude.{string_bytes}
use Rattle.docket_history.specs.declared.row.CaseRow.{CaseRow}
use Rattle.html_sheets.specs.Sites.{search_page}
use Rattle.docket_questions.proofs.search.page_of_found.Goals as goal

pub returns : goal.returns
returns c =
    let found = c.args.found.now in
    let shown : take c.min-shown.result found ≡ take 100 found = ap (λ (n : ℕ). take n found) (c.min-shown.ensures ∙ min_comm (length found) 100) ∙ take_min 100 found in
    subst (λ (cases : List CaseRow). IfOk c.search_page.result (λ page. string_bytes page ≡ search_page c.args.words.now cases (nat_lt 100 (length found)) c.args.day)) shown c.search_page.ensures
