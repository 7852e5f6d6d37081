use Rattle.std.proofs.Common.{◌∙◌, List, ℕ, ◌++◌, append_assoc, ap, ap₂}
use Rattle.html_sheets.specs.Pages.{page_foot, page_head}
use Rattle.html_sheets.specs.Sheets.{case_sheet}
use Rattle.html_sheets.specs.declared.links.Links.TheVariants.{None}
use Rattle.docket_questions.proofs.sheets.sheet_page.Goals as goal

pub returns : goal.returns
returns c =
    let head = page_head c.args.case.now.label in
    let sheet = case_sheet None c.args.court.now c.args.case.now c.args.lines.now in
    c.in_ok-push_str-2.ensures.bytes
    ∙ ap₂ (λ (a b : List ℕ). a ++ b) (c.in_ok-push_str.ensures.bytes ∙ ap₂ (λ (a b : List ℕ). a ++ b) (c.in_ok-page.ensures ∙ ap page_head c.as_str.ensures) (c.deref.ensures ∙ c.in_ok-sheet.ensures)) c.page_foot.ensures
    ∙ append_assoc head sheet page_foot
