use Rattle.std.proofs.Common.{◌++◌, List, ℕ, ◌∙◌, ap, string_bytes}
use Rattle.std.specs.Prelude.{codes}
use Rattle.std.proofs.lemmas.Result.{on_ok_weaker}
use Rattle.html_sheets.specs.Sites.{export_link}
use Rattle.html_sheets.proofs.ElementLemmas.{exports_parts}
use Rattle.html_sheets.proofs.exports.push_exports.Goals as goal

pub returns : goal.returns
returns c =
    let from = c.args.from in
    let to = c.args.to in
    let parts = exports_parts (export_link (codes "due.csv") from to (codes "CSV")) (export_link (codes "due.json") from to (codes "JSON")) in
    on_ok_weaker c.write.result (λ is. is ∙ ap (λ (bytes : List ℕ). string_bytes c.args.page.now ++ bytes) parts) c.write.ensures.bytes
