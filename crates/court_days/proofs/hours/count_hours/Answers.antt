use Rattle.std.proofs.Common.{◌≡◌, ℕ, ◌≤◌, ℤ, pos, to_z, of_z, w64, FitsSigned, arith, ap, sym, ◌∙◌, subst}
use Rattle.std.proofs.lemmas.Int.{ints, to_z_pos}
use Rattle.civil_time.specs.LocalTime.{local_day, seconds}
use Rattle.civil_time.specs.Zone.{ZoneRules, IsZone}
use Rattle.court_days.specs.Calendar.{Entered, IsWithinLimits}
use Rattle.court_days.specs.Civil.{IsEnteredDay}
use Rattle.court_days.specs.Court.{zone_of}
use Rattle.court_days.specs.HourEnds.{end_of_hours}
use Rattle.court_days.specs.Hours.{IsEndOfHours, IsNearEntered}
use Rattle.court_days.specs.declared.calendar.Direction.{Direction}
use Rattle.court_days.proofs.Accessible.{entered_start}
use Rattle.court_days.proofs.EndsOfHours.{end_of_hours-only, end_of_hours-near}
use Rattle.court_days.proofs.Instants.{at_is}
use Rattle.court_days.proofs.hours.count_hours.Goals as goal

-- the instant as the code holds it
start_is : (zone given : ZoneRules) (at : ℤ) → IsZone given → given ≡ zone → FitsSigned w64 at → IsEnteredDay (local_day zone (seconds at)) → (to_z w64 (of_z w64 at) ≡ pos (seconds at)) × (946_598_400 ≤ seconds at) × (seconds at ≤ 4_102_531_200)
start_is zone given at is same fits h =
    let begins = entered_start zone (subst IsZone same is) (seconds at) h.0 h.1 in
    (at_is at fits (omega (arith, begins)), begins.0, begins.1)

-- the end as the code returns it
record Gives (entered : Entered) (zone : ZoneRules) (direction : Direction) (at : ℤ) (hours n : ℕ) : Type 0 where
  ends : IsEndOfHours entered zone direction (seconds at) hours n
  number : to_z w64 n ≡ pos n
  value : n ≡ end_of_hours entered zone direction (seconds at) hours
  near : IsNearEntered n

gives : (entered : Entered) (zone : ZoneRules) (direction : Direction) (at : ℤ) (hours n : ℕ) → IsWithinLimits entered → IsZone zone → IsEnteredDay (local_day zone (seconds at)) → hours ≤ 8760
    → IsEndOfHours entered zone direction (seconds at) hours n → Gives entered zone direction at hours n
gives entered zone direction at hours n limits is day few ends =
    let same = (end_of_hours-only entered zone direction (seconds at) hours n limits is day few).0 ends in
    let near = end_of_hours-near entered zone direction (seconds at) hours limits is day few in
    let lies : IsNearEntered n = subst IsNearEntered (sym same) near in
    record { ends = ends; number = to_z_pos w64 n (omega (arith, lies)); value = same; near = lies }

given : (c : goal.After-end_of_hours) → Gives c.args.calendar.now (zone_of c.args.court.now) c.args.direction c.args.at c.args.hours c.end_of_hours.result
given c =
    let is = start_is _ _ c.args.at c.zone.ensures.limits c.zone.ensures.value c.ranges.at c.requires.start in
    let ends = rw (c.zone.ensures.value, is.0) at c.end_of_hours.ensures.means in
    gives c.args.calendar.now (zone_of c.args.court.now) c.args.direction c.args.at c.args.hours c.end_of_hours.result
    c.end_of_hours.ensures.limits (subst IsZone c.zone.ensures.value c.zone.ensures.limits) c.requires.start c.requires.hours ends

pub overflow_cast-at : goal.overflow_cast-at
overflow_cast-at c =
    let is = start_is _ _ c.args.at c.zone.ensures.limits c.zone.ensures.value c.ranges.at c.requires.start in
    rw is.0 (tt, omega (arith, ints, is.2))

pub end_of_hours-requires-clause-start : goal.end_of_hours-requires-clause-start
end_of_hours-requires-clause-start c =
    let is = start_is _ _ c.args.at c.zone.ensures.limits c.zone.ensures.value c.ranges.at c.requires.start in
    rw is.0 (is.1, is.2)

pub overflow_cast-result : goal.overflow_cast-result
overflow_cast-result c = let near = (given c).near in omega (arith, ints, near)

pub returns-clause-value : goal.returns-clause-value
returns-clause-value c = (given c).number ∙ ap pos (given c).value

pub returns-clause-means : goal.returns-clause-means
returns-clause-means c = rw (given c).number (given c).ends

pub returns-clause-near : goal.returns-clause-near
returns-clause-near c = rw (given c).number (given c).near
