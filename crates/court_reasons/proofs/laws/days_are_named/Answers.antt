use Rattle.court_reasons.proofs.PassedDays.{names_on, names_back_to, names_hours}
use Rattle.court_reasons.proofs.laws.days_are_named.Goals as goal

pub returns : goal.returns
returns c = record { on = names_on; back = names_back_to; hours = names_hours }
