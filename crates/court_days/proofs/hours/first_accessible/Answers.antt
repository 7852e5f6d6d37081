use Rattle.std.proofs.Common.{arith, subst}
use Rattle.civil_time.specs.LocalTime.{seconds}
use Rattle.civil_time.specs.Zone.{IsZone}
use Rattle.court_days.specs.Court.{zone_of}
use Rattle.court_days.proofs.EndsOfHours.{first_accessible-is}
use Rattle.court_days.proofs.Instants.{at_is}
use Rattle.court_days.proofs.hours.first_accessible.Goals as goal

pub returns-clause-value : goal.returns-clause-value
returns-clause-value c =
    let is = at_is c.args.at c.ranges.at (omega (arith, c.requires.instant)) in
    let zone : IsZone (zone_of c.args.court.now) = subst IsZone c.zone.ensures.value c.zone.ensures.limits in
    let first = rw (c.zone.ensures.value, is) at c.first_accessible_day.ensures.first in
    first_accessible-is c.args.calendar.now c.first_accessible_day.ensures.limits (zone_of c.args.court.now) zone c.args.direction (seconds c.args.at) c.args.start c.requires.instant (omega (arith, c.requires.start)) (omega (arith, c.requires.start)) _ first
