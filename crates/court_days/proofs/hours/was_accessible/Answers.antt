use Rattle.std.proofs.Common.{◌-◌, arith, subst}
use Rattle.civil_time.specs.LocalTime.{seconds, IsInstant}
use Rattle.civil_time.specs.Zone.{IsZone}
use Rattle.court_days.specs.Court.{zone_of}
use Rattle.court_days.proofs.Accessible.{is_accessible-means}
use Rattle.court_days.proofs.TestLaws.{same_test}
use Rattle.court_days.proofs.Instants.{at_is}
use Rattle.court_days.proofs.hours.was_accessible.Goals as goal

pub returns-clause-means : goal.returns-clause-means
returns-clause-means c =
    let is = at_is c.args.end c.ranges.end (omega (arith, c.requires)) in
    rw (c.zone.ensures.value, is) at c.is_accessible.ensures.means

pub returns-clause-value : goal.returns-clause-value
returns-clause-value c =
    let zone : IsZone (zone_of c.args.court.now) = subst IsZone c.zone.ensures.value c.zone.ensures.limits in
    let low : IsInstant (seconds c.args.end - 3600) = (omega (arith, c.requires), omega (arith, c.requires)) in
    let high : IsInstant (seconds c.args.end) = (omega (arith, c.requires), omega (arith, c.requires)) in
    same_test _ _ _ (returns-clause-means c) (is_accessible-means c.args.calendar.now (zone_of c.args.court.now) zone (seconds c.args.end) c.is_accessible.ensures.limits low high)
