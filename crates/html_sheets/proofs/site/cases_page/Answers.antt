use Rattle.std.proofs.Common.{◌∙◌, refl}
use Rattle.std.specs.Prelude.{codes}
use Rattle.std.specs.List.{flat_map}
use Rattle.html_sheets.specs.Pages.{page_head, cases_head, case_row, cases_foot}
use Rattle.html_sheets.specs.Sites.{site_foot, site_nav, more_cases}
use Rattle.html_sheets.proofs.ElementLemmas.{added, seven_joined}
use Rattle.html_sheets.proofs.site.cases_page.Goals as goal

pub returns : goal.returns
returns c =
    let nav = added c.in_ok-push_str.ensures.bytes c.in_ok-text.ensures c.site_nav.ensures in
    let head = added c.in_ok-push_str-2.ensures.bytes nav c.cases_head.ensures in
    let rows = added c.in_ok-push_rows.ensures head refl in
    let foot = added c.in_ok-push_str-3.ensures.bytes rows c.cases_foot.ensures in
    let more = added c.in_ok-push_more.ensures foot refl in
    added c.in_ok-push_site_foot.ensures more refl
    ∙ seven_joined (page_head (codes "Cases")) site_nav cases_head (flat_map case_row c.args.cases.now) cases_foot (more_cases c.args.newer c.args.older) (site_foot c.args.day)
