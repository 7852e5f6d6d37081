use Rattle.std.proofs.Common.{◌∙◌, ap}
use Rattle.std.proofs.lemmas.Result.{IfOk-weaker}
use Rattle.html_sheets.specs.Pages.{page_head}
use Rattle.html_sheets.proofs.text.reasons_head.Goals as goal

pub returns : goal.returns
returns c = IfOk-weaker c.page_head.result _ _ (λ text is. is ∙ ap page_head (c.deref.ensures ∙ c.in_ok-title.ensures)) c.page_head.ensures
