use Rattle.std.proofs.Common.{◌∙◌, refl, append_assoc}
use Rattle.html_sheets.specs.Elements.{table_foot}
use Rattle.html_sheets.specs.Sites.{exports_nav, site_foot}
use Rattle.html_sheets.proofs.ElementLemmas.{added}
use Rattle.html_sheets.proofs.exports.days_page_foot.Goals as goal

pub returns : goal.returns
returns c =
    let foot = added c.in_ok-push_str.ensures.bytes c.new-text.ensures.bytes c.table_foot.ensures in
    let exports = added c.in_ok-push_exports.ensures foot refl in
    added c.in_ok-push_site_foot.ensures exports refl
    ∙ append_assoc table_foot (exports_nav c.args.from c.args.to) (site_foot c.args.day)
