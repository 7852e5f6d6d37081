use Rattle.std.proofs.Common.{◌++◌, ◌∙◌, ap, append_assoc, refl}
use Rattle.html_sheets.specs.Pages.{page_head}
use Rattle.html_sheets.specs.Sites.{site_nav}
use Rattle.entry_pages.specs.Pages.{entry_head}
use Rattle.entry_pages.specs.Saying.{saying_of, said_head, said_told}
use Rattle.entry_pages.proofs.KindLemmas.{added}
use Rattle.entry_pages.proofs.page.entry_head.Goals as goal

pub returns : goal.returns
unfolding entry_head
returns c =
    let head = c.in_ok-text.ensures ∙ ap page_head (c.as_str.ensures.value ∙ c.in_ok-title.ensures) in
    let nav = added c.in_ok-push_str.ensures.bytes head c.site_nav.ensures in
    added c.in_ok-push_said.ensures nav refl ∙ append_assoc (page_head (said_head (saying_of c.args.said) ++ c.args.title.now)) site_nav (said_told (saying_of c.args.said))
