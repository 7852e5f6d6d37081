use Rattle.court_reasons.proofs.TrueCauses.{day_causes-true, back_causes-true, hour_causes-true}
use Rattle.court_reasons.proofs.laws.causes_are_true.Goals as goal

pub returns : goal.returns
returns c = record { day = day_causes-true; back = back_causes-true; hours = hour_causes-true }
