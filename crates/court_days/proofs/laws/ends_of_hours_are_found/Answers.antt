use Rattle.court_days.proofs.Accessible.{is_accessible-means, near_entered_day}
use Rattle.court_days.proofs.EndsOfHours.{end_of_hours-only, end_of_hours-near}
use Rattle.court_days.proofs.laws.ends_of_hours_are_found.Goals as goal

pub returns : goal.returns
returns c = record {
  one = end_of_hours-only;
  near = end_of_hours-near;
  accessible = λ entered zone end limits is. is_accessible-means entered zone is end limits;
  day = near_entered_day;
}
