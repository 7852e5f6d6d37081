use Rattle.std.proofs.Common.{arith, rules}
use Rattle.court_reasons.specs.Statutory.{statutory_holiday}
use Rattle.court_reasons.proofs.WhichHoliday.{had_holiday-tells}
use Rattle.court_reasons.proofs.statutory.statutory_holiday.Goals as goal

pub returns-clause-means : goal.returns-clause-means
unfolding statutory_holiday
returns-clause-means c = had_holiday-tells c.args.day _ (omega (arith, c.epoch_day.ensures)) (search rules)
