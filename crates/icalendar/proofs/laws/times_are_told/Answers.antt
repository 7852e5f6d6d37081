use Rattle.std.proofs.Common.{arith}
use Rattle.icalendar.proofs.TimeLemmas.{date_means, utc_means, told-same}
use Rattle.icalendar.proofs.laws.times_are_told.Goals as goal

pub returns-clause-date : goal.returns-clause-date
returns-clause-date c = λ day limits. date_means day (omega (arith, limits.1))

pub returns-clause-utc : goal.returns-clause-utc
returns-clause-utc c = utc_means

pub returns-clause-told : goal.returns-clause-told
returns-clause-told c = told-same
