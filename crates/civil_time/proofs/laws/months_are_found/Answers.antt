use Rattle.civil_time.proofs.MonthsAway.{months_later-only, months_earlier-only}
use Rattle.civil_time.proofs.laws.months_are_found.Goals as goal

pub returns : goal.returns
returns c = record { later = months_later-only; earlier = months_earlier-only }
