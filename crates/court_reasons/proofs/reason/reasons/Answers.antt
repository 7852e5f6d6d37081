use Rattle.court_days.specs.Court.{zone_of}
use Rattle.court_days.proofs.CourtLemmas.{zone_of-is_zone}
use Rattle.court_reasons.proofs.Acts.{explained}
use Rattle.court_reasons.proofs.ToldActs.{told}
use Rattle.court_reasons.proofs.reason.reasons.Goals as goal

pub returns-clause-acts : goal.returns-clause-acts
returns-clause-acts c =
    told (zone_of c.args.court.now) c.args.calendar.now c.args.acts.now _ c.requires c.steps_of_acts.ensures

pub returns-clause-means : goal.returns-clause-means
returns-clause-means c =
    explained c.args.calendar.now c.len-rows.ensures.limits (zone_of c.args.court.now) (zone_of-is_zone c.args.court.now) c.args.acts.now _ c.requires c.steps_of_acts.ensures
