use Rattle.std.proofs.Common.{◌++◌, List, ℕ, ◌∙◌, ap, string_bytes}
use Rattle.std.proofs.lemmas.Result.{on_ok_weaker}
use Rattle.html_sheets.specs.Elements.{told}
use Rattle.html_sheets.proofs.ElementLemmas.{words_parts}
use Rattle.html_sheets.proofs.search.push_words.Goals as goal

pub returns : goal.returns
returns c =
    on_ok_weaker c.write.result (λ is. is ∙ ap (λ (bytes : List ℕ). string_bytes c.args.page.now ++ bytes) (words_parts (told c.args.words.now))) c.write.ensures.bytes
