use Rattle.court_reasons.proofs.PassedDays.{day_causes-tell, back_causes-tell, hour_causes-tell}
use Rattle.court_reasons.proofs.laws.causes_tell_of_ends.Goals as goal

pub returns : goal.returns
returns c = record {
  day = λ entered direction day causes are. day_causes-tell causes entered direction day are;
  back = λ entered direction day causes are. back_causes-tell causes entered direction day are;
  hours = λ entered zone direction instant day causes are. hour_causes-tell causes entered zone direction instant day are;
}
