use Rattle.std.proofs.Common.{◌++◌, List, ℕ, ◌∙◌, ap, string_bytes}
use Rattle.std.proofs.lemmas.Result.{on_ok_weaker}
use Rattle.entry_pages.proofs.KindLemmas.{head_parts}
use Rattle.entry_pages.proofs.form.push_head.Goals as goal

pub returns : goal.returns
returns c =
    let parts = head_parts c.args.kind c.args.fresh c.word-word.result.now c.word-word.ensures in
    on_ok_weaker c.write.result (λ is. is ∙ ap (λ (bytes : List ℕ). string_bytes c.args.text.now ++ bytes) parts) c.write.ensures.bytes
