use Rattle.std.proofs.Common.{◌∙◌}
use Rattle.std.proofs.lemmas.Result.{IfOk-weaker}
use Rattle.html_sheets.specs.Elements.{told}
use Rattle.html_sheets.specs.Escapes.{escaped}
use Rattle.html_sheets.proofs.ElementLemmas.{page_parts}
use Rattle.html_sheets.proofs.page.page_head.Goals as goal

pub returns : goal.returns
returns c =
    let title = c.args.title.now in
    let parts = page_parts (escaped title) c.style_text-style.result.now (told title) in
    rw (c.style_text-style.ensures) at (IfOk-weaker c.format.result _ _ (λ text is. is ∙ parts) c.format.ensures.ok)
