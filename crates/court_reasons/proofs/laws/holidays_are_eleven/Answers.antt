use Rattle.court_reasons.proofs.WhichHoliday.{statutory_days-had, statutory_holiday-once}
use Rattle.court_reasons.proofs.laws.holidays_are_eleven.Goals as goal

pub returns : goal.returns
returns c = record { some = statutory_days-had; one = statutory_holiday-once }
