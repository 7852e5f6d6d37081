use Rattle.std.proofs.Common.{◌∙◌}
use Rattle.std.proofs.lemmas.Result.{IfOk-weaker}
use Rattle.html_sheets.specs.Elements.{told, day_told, case_link}
use Rattle.html_sheets.specs.Pages.{case_row}
use Rattle.html_sheets.proofs.ElementLemmas.{case_parts}
use Rattle.html_sheets.proofs.cases.case_row.Goals as goal

pub returns : goal.returns
unfolding case_row
returns c =
    let case = c.args.case.now in
    let parts = case_parts (case_link case.number) (told c.as_str-label.result.now) (day_told case.filed) (told c.as_str-caption.result.now) in
    rw (c.as_str-label.ensures, c.as_str-caption.ensures) at (IfOk-weaker c.format.result _ _ (λ text is. is ∙ parts) c.format.ensures.ok)
