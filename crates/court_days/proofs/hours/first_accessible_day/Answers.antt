use Rattle.std.proofs.Common.{arith, ◌+◌, max}
use Rattle.std.proofs.lemmas.Bool.{both_ways}
use Rattle.court_days.specs.Hours.{IsAccessibleDay}
use Rattle.court_days.proofs.Accessible.{accessible_near}
use Rattle.court_days.proofs.Search.{none_next, next_within, first_is}
use Rattle.court_days.proofs.hours.first_accessible_day.Goals as goal

pub days-preserved : goal.days-preserved
days-preserved c =
    let P = IsAccessibleDay c.args.calendar.now c.args.zone.now c.args.direction c.args.instant in
    let no : ¬ (P c.days.day) = λ p. both_ways _ c.days-test.true (c.is_accessible_day.ensures.means.1 p) in
    let near = accessible_near c.args.calendar.now c.is_accessible_day.ensures.limits c.args.zone.now c.is_accessible_day.ensures.zone c.args.direction c.args.instant c.requires.instant c.args.start (omega (arith, c.requires.start)) in
    rw c.plus-day.ensures (record {
      reached = omega arith;
      near = next_within P c.args.start c.days.day (max c.args.start 47_484 + 7) c.days.invariant.none no near;
      none = none_next P c.args.start c.days.day c.days.invariant.none no;
    })

pub returns-clause-first : goal.returns-clause-first
returns-clause-first c =
    let P = IsAccessibleDay c.args.calendar.now c.args.zone.now c.args.direction c.args.instant in
    first_is P c.args.start c.days.day c.days.invariant.reached (c.is_accessible_day.ensures.means.0 c.days-test.false) c.days.invariant.none
