use Rattle.std.proofs.Common.{◌∙◌}
use Rattle.std.proofs.lemmas.Result.{IfOk-weaker}
use Rattle.html_sheets.specs.Elements.{weekday_told}
use Rattle.html_sheets.specs.Weeks.{weeks_nav, zone_told}
use Rattle.html_sheets.proofs.ElementLemmas.{week_parts}
use Rattle.html_sheets.proofs.week.week_head.Goals as goal

pub returns : goal.returns
returns c =
    let parts = week_parts (weekday_told c.args.from) (weekday_told c.args.to) (zone_told c.args.court.now) (weeks_nav c.has_weeks.result c.args.from c.args.to) c.due_columns-columns.result.now in
    rw (c.has_weeks.ensures, c.due_columns-columns.ensures) at (IfOk-weaker c.format.result _ _ (λ text is. is ∙ parts) c.format.ensures.ok)
