use Rattle.std.proofs.Common.{◌++◌, List, ℕ, ◌∙◌, ap, string_bytes}
use Rattle.std.proofs.lemmas.Result.{on_ok_weaker}
use Rattle.html_sheets.specs.Elements.{case_link}
use Rattle.html_sheets.proofs.ElementLemmas.{back_parts}
use Rattle.html_sheets.proofs.text.push_back.Goals as goal

pub returns : goal.returns
returns c =
    on_ok_weaker c.write.result (λ is. is ∙ ap (λ (bytes : List ℕ). string_bytes c.args.page.now ++ bytes) (back_parts (case_link c.args.case))) c.write.ensures.bytes
