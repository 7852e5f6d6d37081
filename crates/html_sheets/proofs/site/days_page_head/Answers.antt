use Rattle.std.proofs.Common.{◌∙◌, ap, append_assoc}
use Rattle.html_sheets.specs.Pages.{page_head}
use Rattle.html_sheets.specs.Sites.{site_nav}
use Rattle.html_sheets.specs.Weeks.{list_title, week_head}
use Rattle.html_sheets.proofs.ElementLemmas.{added}
use Rattle.html_sheets.proofs.site.days_page_head.Goals as goal

pub returns : goal.returns
returns c =
    added c.in_ok-push_str-2.ensures.bytes (added c.in_ok-push_str.ensures.bytes (c.in_ok-text.ensures ∙ ap page_head c.title.ensures) c.site_nav.ensures) (c.deref.ensures ∙ c.in_ok-week.ensures)
    ∙ append_assoc (page_head (list_title c.args.list)) site_nav (week_head c.args.list c.args.court.now c.args.from c.args.to)
