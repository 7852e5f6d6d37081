use Rattle.std.proofs.Common.{◌≤◌, ◌-◌, arith}
use Rattle.std.proofs.lemmas.Bool.{both_ways, not-true, not_from_false, false_from_ne_true}
use Rattle.civil_time.specs.LocalTime.{local_day}
use Rattle.court_days.specs.Calendar.{Holds}
use Rattle.court_days.specs.declared.calendar.DayKind.TheVariants.{Closed}
use Rattle.court_days.proofs.Accessible.{accessible_from, accessible_spans}
use Rattle.court_days.proofs.hours.is_accessible.Goals as goal

pub returns-clause-means : goal.returns-clause-means
returns-clause-means c =
    let first : ¬ (Holds c.args.calendar.now Closed (local_day c.args.zone.now (c.args.end - 3600))) =
    λ h. both_ways _ c.if-holds_day.false (c.holds_day.ensures.means.1 (rw c.local_day.ensures.value h)) in
    let last : ¬ (Holds c.args.calendar.now Closed (local_day c.args.zone.now (c.args.end - 1))) =
    λ h. both_ways _ c.if-holds_day-2.false (c.holds_day-2.ensures.means.1 (rw c.local_day-2.ensures.value h)) in
    let low : 3600 ≤ c.args.end = omega (arith, c.requires.low) in (
      λ t. accessible_from c.args.calendar.now c.args.zone.now c.local_day.ensures.zone c.args.end c.requires.low c.requires.high first last
          (λ met. both_ways _ (not-true _ t) (c.is_closed_between-is_met.ensures.means.1 met)),
      λ free. not_from_false _ (false_from_ne_true _ (λ t. accessible_spans c.args.calendar.now c.args.zone.now c.local_day.ensures.zone c.args.end c.holds_day.ensures.limits low free (c.is_closed_between-is_met.ensures.means.0 t))),
    )
