use Rattle.std.proofs.Common.{sym}
use Rattle.civil_time.proofs.MonthsAway.{month_of-ymd, day_of_month-ymd}
use Rattle.court_reasons.proofs.statutory.date_of.Goals as goal

pub returns-clause-month : goal.returns-clause-month
returns-clause-month c = sym (month_of-ymd c.args.number _ _ _ c.ymd_of-month.ensures)

pub returns-clause-day : goal.returns-clause-day
returns-clause-day c = sym (day_of_month-ymd c.args.number _ _ _ c.ymd_of-month.ensures)
