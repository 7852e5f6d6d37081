use Rattle.std.proofs.Common.{◌++◌, List, ℕ, ◌∙◌, ap, string_bytes}
use Rattle.std.specs.Prelude.{decimal}
use Rattle.std.proofs.lemmas.Result.{on_ok_weaker}
use Rattle.html_sheets.specs.Elements.{told}
use Rattle.html_sheets.specs.Sites.{calendar_told}
use Rattle.html_sheets.proofs.ElementLemmas.{calendar_parts}
use Rattle.html_sheets.proofs.court.push_told.Goals as goal

pub returns : goal.returns
unfolding calendar_told
returns c =
    let row = c.args.row.now in
    let parts = calendar_parts (decimal row.number) (told c.args.item.now) (told c.as_str.result.now) in
    rw (c.as_str.ensures) at (on_ok_weaker c.write.result (λ is. is ∙ ap (λ (bytes : List ℕ). string_bytes c.args.text.now ++ bytes) parts) c.write.ensures.bytes)
