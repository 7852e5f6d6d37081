use Rattle.std.proofs.Common.{◌∙◌, ap, refl}
use Rattle.html_sheets.specs.Entering.{enter_nav, deadline_kinds}
use Rattle.html_sheets.specs.Pages.{page_head}
use Rattle.html_sheets.specs.Sites.{site_foot, site_nav, case_back, filed_told, reasons_title, text_told}
use Rattle.html_sheets.specs.declared.about.About.TheVariants.{Deadline}
use Rattle.html_sheets.proofs.ElementLemmas.{added, seven_joined}
use Rattle.html_sheets.proofs.text.reasons_page.Goals as goal

pub returns : goal.returns
returns c =
    let case = c.args.case in
    let about = Deadline case c.args.deadline in
    let nav = added c.in_ok-push_str.ensures.bytes c.in_ok-page.ensures c.site_nav.ensures in
    let back = added c.in_ok-push_back.ensures nav refl in
    let filed = added c.in_ok-push_str-2.ensures.bytes back c.filed_told.ensures in
    let forms = added c.in_ok-push_enter_nav.ensures filed (ap (enter_nav about) c.deadline_kinds.ensures) in
    let text = added c.in_ok-push_lines.ensures forms refl in
    added c.in_ok-push_site_foot.ensures text refl
    ∙ seven_joined (page_head (reasons_title case c.args.deadline)) site_nav (case_back case) (filed_told c.args.filed) (enter_nav about deadline_kinds) (text_told c.args.text.now) (site_foot c.args.day)
