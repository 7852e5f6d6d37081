use Rattle.std.proofs.Common.{◌∙◌, refl}
use Rattle.std.specs.Prelude.{codes}
use Rattle.html_sheets.specs.Pages.{page_head}
use Rattle.html_sheets.specs.Sites.{site_foot, site_nav, words_told, found_told, more_told}
use Rattle.html_sheets.proofs.ElementLemmas.{added, six_joined}
use Rattle.html_sheets.proofs.search.search_page.Goals as goal

pub returns : goal.returns
returns c =
    let nav = added c.in_ok-push_str.ensures.bytes c.in_ok-page.ensures c.site_nav.ensures in
    let words = added c.in_ok-push_words.ensures nav refl in
    let found = added c.in_ok-push_found.ensures words refl in
    let more = added c.in_ok-push_str-2.ensures.bytes found c.more_told.ensures in
    added c.in_ok-push_site_foot.ensures more refl
    ∙ six_joined (page_head (codes "Search")) site_nav (words_told c.args.words.now) (found_told c.args.cases.now) (more_told c.args.more) (site_foot c.args.day)
