use Rattle.std.proofs.Common.{◌≤◌, rules, arith}
use Rattle.civil_time.specs.LocalTime.{seconds, local_day}
use Rattle.civil_time.proofs.LocalTimeLemmas.{local_near}
use Rattle.court_days.specs.Court.{zone_of}
use Rattle.court_days.proofs.Accessible.{near_entered_day}
use Rattle.court_days.proofs.CourtLemmas.{zone_of-is_zone}
use Rattle.court_reasons.proofs.local.local_day.Goals as goal

pub returns-clause-near : goal.returns-clause-near
returns-clause-near c =
    let zone = zone_of c.args.court.now in
    let near = near_entered_day zone (seconds c.args.at) (zone_of-is_zone c.args.court.now) c.requires in
    search (rules, near.0, near.1)

pub returns-clause-nearer : goal.returns-clause-nearer
returns-clause-nearer c = λ within.
    let zone = zone_of c.args.court.now in
    let late : 43_200 ≤ seconds c.args.at = omega (arith, c.requires) in
    let near = local_near zone (zone_of-is_zone c.args.court.now) (seconds c.args.at) late in
    let low : 10_588 ≤ local_day zone (seconds c.args.at) = omega (arith, near, within) in
    let high : local_day zone (seconds c.args.at) ≤ 47_849 = omega (arith, near, within) in
    search (rules, low, high)
