use Rattle.std.proofs.Common.{◌++◌, List, ℕ, ◌∙◌, ap}
use Rattle.std.specs.Prelude.{codes, string_bytes}
use Rattle.std.proofs.lemmas.Result.{on_ok_weaker}
use Rattle.html_sheets.specs.Sites.{cases_link}
use Rattle.html_sheets.proofs.ElementLemmas.{one_more_part, two_more_parts}
use Rattle.html_sheets.proofs.site.push_more.Goals as goal

pub returns-in-None-Some : goal.returns-in-None-Some
returns-in-None-Some c =
    let parts = one_more_part (cases_link c.in-None-Some.before (codes "Older cases")) in
    rw (c.in-None-Some.is-0, c.in-None-Some.is-1) (on_ok_weaker c.write.result (λ is. is ∙ ap (λ (bytes : List ℕ). string_bytes c.args.text.now ++ bytes) parts) c.write.ensures.bytes)

pub returns-in-Some-None : goal.returns-in-Some-None
returns-in-Some-None c =
    let parts = one_more_part (cases_link c.in-Some-None.before (codes "Newer cases")) in
    rw (c.in-Some-None.is-0, c.in-Some-None.is-1) (on_ok_weaker c.write-in-Some-None.result (λ is. is ∙ ap (λ (bytes : List ℕ). string_bytes c.args.text.now ++ bytes) parts) c.write-in-Some-None.ensures.bytes)

pub returns-in-Some-Some : goal.returns-in-Some-Some
returns-in-Some-Some c =
    let parts = two_more_parts (cases_link c.in-Some-Some.above (codes "Newer cases")) (cases_link c.in-Some-Some.below (codes "Older cases")) in
    rw (c.in-Some-Some.is-0, c.in-Some-Some.is-1) (on_ok_weaker c.write-in-Some-Some.result (λ is. is ∙ ap (λ (bytes : List ℕ). string_bytes c.args.text.now ++ bytes) parts) c.write-in-Some-Some.ensures.bytes)
