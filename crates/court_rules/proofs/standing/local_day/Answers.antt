use Rattle.std.proofs.Common.{rules}
use Rattle.court_days.specs.LocalTime.{seconds}
use Rattle.court_days.specs.Court.{zone_of}
use Rattle.court_days.proofs.Accessible.{near_entered_day}
use Rattle.court_days.proofs.CourtLemmas.{zone_of-is_zone}
use Rattle.court_rules.proofs.standing.local_day.Goals as goal

pub returns-clause-near : goal.returns-clause-near
returns-clause-near c =
    let zone = zone_of c.args.court.now in
    let near = near_entered_day zone (seconds c.args.at) (zone_of-is_zone c.args.court.now) c.requires in
    search (rules, near.0, near.1)
