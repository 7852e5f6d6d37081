use Rattle.std.proofs.Common.{◌++◌, List, ℕ, ◌∙◌, ap, refl, string_bytes}
use Rattle.std.specs.Prelude.{codes}
use Rattle.std.specs.List.{flat_map}
use Rattle.html_sheets.specs.Entering.{enter_line, enter_nav}
use Rattle.html_sheets.proofs.ElementLemmas.{added, enter_parts, three_joined}
use Rattle.html_sheets.proofs.entering.push_enter_nav.Goals as goal

pub returns : goal.returns
unfolding enter_nav
returns c =
    let old = string_bytes c.args.text.now in
    let links = flat_map (enter_line c.args.about) c.args.kinds.now in
    let so_far = added c.in_ok-push_kinds.ensures c.in_ok-push_str.ensures.bytes refl in
    added c.in_ok-push_str-2.ensures.bytes so_far refl
    ∙ three_joined old (codes "<nav aria-label=\"Enter\">\n") links (codes "</nav>\n")
    ∙ ap (λ (bytes : List ℕ). old ++ bytes) (enter_parts links)
