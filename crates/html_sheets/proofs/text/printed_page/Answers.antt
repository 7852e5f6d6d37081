use Rattle.std.proofs.Common.{◌∙◌, refl}
use Rattle.html_sheets.specs.Pages.{page_head}
use Rattle.html_sheets.specs.Sites.{site_foot, site_nav, text_told}
use Rattle.html_sheets.proofs.ElementLemmas.{added, four_joined}
use Rattle.html_sheets.proofs.text.printed_page.Goals as goal

pub returns : goal.returns
returns c =
    let nav = added c.in_ok-push_str.ensures.bytes c.in_ok-page.ensures c.site_nav.ensures in
    let text = added c.in_ok-push_lines.ensures nav refl in
    added c.in_ok-push_site_foot.ensures text refl
    ∙ four_joined (page_head c.args.title.now) site_nav (text_told c.args.text.now) (site_foot c.args.day)
