use Rattle.court_days.proofs.CourtLemmas.{zone_of-is_zone}
use Rattle.court_days.proofs.laws.courts_have_zones.Goals as goal

pub returns : goal.returns
returns c = zone_of-is_zone
