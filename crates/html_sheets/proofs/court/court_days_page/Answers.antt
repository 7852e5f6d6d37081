use Rattle.std.proofs.Common.{◌∙◌, ap, refl}
use Rattle.std.specs.Prelude.{codes}
use Rattle.std.specs.List.{flat_map}
use Rattle.html_sheets.specs.Elements.{table_foot}
use Rattle.html_sheets.specs.Entering.{enter_nav, calendar_kinds}
use Rattle.html_sheets.specs.Pages.{page_head}
use Rattle.html_sheets.specs.Sites.{site_foot, site_nav, calendar_head, calendar_row}
use Rattle.html_sheets.specs.declared.about.About.TheVariants.{Nothing}
use Rattle.html_sheets.proofs.ElementLemmas.{added, seven_joined}
use Rattle.html_sheets.proofs.court.court_days_page.Goals as goal

pub returns : goal.returns
returns c =
    let nav = added c.in_ok-push_str.ensures.bytes c.in_ok-text.ensures c.site_nav.ensures in
    let forms = added c.in_ok-push_enter_nav.ensures nav (ap (enter_nav Nothing) c.calendar_kinds.ensures) in
    let head = added c.in_ok-push_str-2.ensures.bytes forms c.calendar_head.ensures in
    let rows = added c.in_ok-push_rows.ensures head refl in
    let foot = added c.in_ok-push_str-3.ensures.bytes rows c.table_foot.ensures in
    added c.in_ok-push_site_foot.ensures foot refl
    ∙ seven_joined (page_head (codes "Court days")) site_nav (enter_nav Nothing calendar_kinds) calendar_head (flat_map (calendar_row c.args.court.now) c.args.rows.now) table_foot (site_foot c.args.day)
