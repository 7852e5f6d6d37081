use Rattle.std.proofs.Common.{sym, ◌∙◌}
use Rattle.court_days.specs.Holiday.{is_fixed_date}
use Rattle.civil_time.proofs.Dates.{falls_on, falls_on_from}
use Rattle.court_days.proofs.holiday.is_fixed_holiday.Goals as goal

pub returns : goal.returns
returns c =
    let e = c.is_fixed_date.ensures in (
      λ t. falls_on_from is_fixed_date c.args.number _ _ _ c.ymd_of-month.ensures (sym e ∙ t),
      λ f. e ∙ falls_on is_fixed_date c.args.number _ _ _ c.ymd_of-month.ensures f,
    )
