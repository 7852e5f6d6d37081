use Rattle.std.proofs.Common.{◌∙◌, ap, refl}
use Rattle.html_sheets.specs.Pages.{page_head}
use Rattle.html_sheets.specs.Sheets.{case_sheet}
use Rattle.html_sheets.specs.Sites.{site_foot, site_nav}
use Rattle.html_sheets.specs.declared.links.Links.TheVariants.{Pages}
use Rattle.html_sheets.proofs.ElementLemmas.{added, four_joined}
use Rattle.html_sheets.proofs.site.case_page.Goals as goal

pub returns : goal.returns
returns c =
    let head = c.in_ok-text.ensures ∙ ap page_head c.as_str.ensures in
    let nav = added c.in_ok-push_str.ensures.bytes head c.site_nav.ensures in
    let sheet = added c.in_ok-push_str-2.ensures.bytes nav (c.deref.ensures ∙ c.in_ok-sheet.ensures) in
    added c.in_ok-push_site_foot.ensures sheet refl
    ∙ four_joined (page_head c.args.case.now.label) site_nav (case_sheet Pages c.args.court.now c.args.case.now c.args.deadlines.now) (site_foot c.args.day)
