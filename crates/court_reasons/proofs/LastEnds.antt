-- The steps of an act that counts a period end in its end.
use Rattle.std.proofs.Common.{◌≡◌, ℕ, ◌+◌, ◌-◌, ◌*◌, Bool, true, false, inl, inr, List, [], ◌∷◌, ◌++◌, pos, refl, sym, ap, ◌∙◌, append_assoc, append-nil, subst}
use Rattle.std.proofs.lemmas.Bool.{cases_Bool}
use Rattle.civil_time.specs.LocalTime.{local_day, seconds}
use Rattle.civil_time.specs.Zone.{ZoneRules}
use Rattle.court_days.specs.Calendar.{Entered}
use Rattle.court_days.specs.Ends.{first_open, last_business, open_from, end_from}
use Rattle.court_days.specs.HourEnds.{is_accessible, forward_end, moved_end, end_of_hours}
use Rattle.court_days.specs.Hours.{same_time_on}
use Rattle.court_days.specs.Legal.{is_open}
use Rattle.court_days.specs.declared.calendar.Direction.{Direction}
use Rattle.court_days.specs.declared.calendar.Direction.TheVariants.{Forward, Backward}
use Rattle.court_days.specs.declared.filing.End.{End}
use Rattle.court_days.specs.declared.filing.End.TheVariants.{LastDay, Moment}
use Rattle.court_rules.specs.Ends.{end_of_period, end_after_service}
use Rattle.court_rules.specs.Standings.{last_day, end_of_start, extended_by, resumed_end}
use Rattle.court_rules.specs.declared.act.Start.{Start}
use Rattle.court_rules.specs.declared.act.Start.TheVariants as start
use Rattle.court_rules.specs.declared.act.Standing.{Standing}
use Rattle.court_rules.specs.declared.act.Standing.TheVariants.{Running}
use Rattle.court_rules.specs.declared.table.Period.{Period}
use Rattle.court_rules.specs.declared.table.Period.TheVariants as period
use Rattle.court_reasons.specs.Causes.{business_causes, day_causes}
use Rattle.court_reasons.specs.Steps.{passed, passed_back, way_on, from_last, counted_to, way, three_more, hours_on, from_last_hour, hours_from, hours_away, extended, steps_of_start, steps_of_resumed}
use Rattle.court_reasons.specs.declared.step.Step.{Step}
use Rattle.court_reasons.specs.declared.step.Step.TheVariants as step

-- the last of the steps is that end
abbrev pub EndsIn : End → List Step → Type 0
EndsIn end steps = (front : List Step) × (steps ≡ front ++ step.Ends end ∷ [])

more : (end : End) (before steps : List Step) → EndsIn end steps → EndsIn end (before ++ steps)
more end before steps (front, is) =
    (before ++ front, ap (λ s. before ++ s) is ∙ sym (append_assoc before front (step.Ends end ∷ [])))

way_on-ends : (entered : Entered) (direction : Direction) (from : ℕ) → EndsIn (LastDay (first_open entered direction from)) (way_on entered direction from)
way_on-ends entered direction from = (passed (day_causes entered direction) from (first_open entered direction from), refl)

from_last-ends : (entered : Entered) (last : ℕ) → EndsIn (LastDay (open_from entered last)) (from_last entered last)
unfolding open_from
from_last-ends entered last =
    elim (cases_Bool (is_open entered last)) [
      | inl opens ↦ rw opens ([], refl)
      | inr fails ↦ rw fails (more (LastDay (first_open entered Backward (last + 1))) (step.Moved (LastDay last) ∷ []) (way_on entered Backward (last + 1)) (way_on-ends entered Backward (last + 1)))
    ]

way-ends : (entered : Entered) (direction : Direction) (from : ℕ) → EndsIn (LastDay (end_from entered direction from)) (way entered direction from)
unfolding end_from
way-ends entered Forward from = more (LastDay (first_open entered Forward from)) (step.Counted (LastDay from) ∷ []) (way_on entered Forward from) (way_on-ends entered Forward from)
way-ends entered Backward from =
    let last = last_business entered from in
    more (LastDay (open_from entered last)) (step.Counted (LastDay from) ∷ passed_back (business_causes entered Backward) from last) (from_last entered last) (from_last-ends entered last)

-- with the three days that service adds
three-ends : (entered : Entered) (three : Bool) (end : ℕ) (steps : List Step) → EndsIn (LastDay end) steps → EndsIn (LastDay (end_after_service entered three end)) (steps ++ three_more entered three end)
unfolding end_from
three-ends entered true end steps ends =
    more (LastDay (first_open entered Forward (end + 3))) steps (step.ThreeAdded (end + 3) ∷ way_on entered Forward (end + 3))
    (more (LastDay (first_open entered Forward (end + 3))) (step.ThreeAdded (end + 3) ∷ []) (way_on entered Forward (end + 3)) (way_on-ends entered Forward (end + 3)))
three-ends entered false end steps ends = subst (EndsIn (LastDay end)) (sym (append-nil steps)) ends

counted-ends : (entered : Entered) (direction : Direction) (trigger : ℕ) (lasts : Period) → end_of_period entered direction trigger lasts ≡ end_from entered direction (counted_to direction trigger lasts)
counted-ends entered direction trigger (period.Days count) = refl
counted-ends entered direction trigger (period.Months count) = refl

hours_on-ends : (entered : Entered) (zone : ZoneRules) (direction : Direction) (instant from : ℕ) → EndsIn (Moment (pos (forward_end entered zone direction instant from))) (hours_on entered zone direction instant from)
unfolding forward_end
hours_on-ends entered zone direction instant from = (_, refl)

from_last_hour-ends : (entered : Entered) (zone : ZoneRules) (instant last : ℕ) → EndsIn (Moment (pos (moved_end entered zone instant last))) (from_last_hour entered zone instant last)
unfolding moved_end
from_last_hour-ends entered zone instant last =
    elim (cases_Bool (is_accessible entered zone (same_time_on zone instant last))) [
      | inl passes ↦ rw passes ([], refl)
      | inr fails ↦ rw fails (more (Moment (pos (forward_end entered zone Backward instant (last + 1)))) (step.Moved (Moment (pos (same_time_on zone instant last))) ∷ []) (hours_on entered zone Backward instant (last + 1)) (hours_on-ends entered zone Backward instant (last + 1)))
    ]

hours-end : (entered : Entered) (zone : ZoneRules) (direction : Direction) (start hours : ℕ) → EndsIn (Moment (pos (end_of_hours entered zone direction start hours))) (hours_from entered zone direction (hours_away direction start hours))
unfolding end_of_hours
hours-end entered zone Forward start hours = hours_on-ends entered zone Forward (start + 3600 * hours) (local_day zone (start + 3600 * hours))
hours-end entered zone Backward start hours =
    let instant = start - 3600 * hours in
    let last = last_business entered (local_day zone instant) in
    more (Moment (pos (moved_end entered zone instant last))) (passed_back (business_causes entered Backward) (local_day zone instant) last) (from_last_hour entered zone instant last) (from_last_hour-ends entered zone instant last)

pub start-ends : (zone : ZoneRules) (entered : Entered) (begins : Start) → EndsIn (end_of_start zone entered begins) (steps_of_start zone entered begins)
start-ends zone entered (start.Days days) =
    let from = counted_to days.direction days.trigger days.period in
    let end = end_of_period entered days.direction days.trigger days.period in
    let ends = subst (λ e. EndsIn (LastDay e) (way entered days.direction from)) (sym (counted-ends entered days.direction days.trigger days.period)) (way-ends entered days.direction from) in
    more (LastDay (end_after_service entered days.three_days end)) (step.Period days ∷ []) (way entered days.direction from ++ three_more entered days.three_days end)
    (three-ends entered days.three_days end (way entered days.direction from) ends)
start-ends zone entered (start.Hours hours) =
    more (end_of_start zone entered (start.Hours hours)) (step.Hours hours ∷ step.Counted (Moment (pos (hours_away hours.direction (seconds hours.at) hours.hours))) ∷ []) (hours_from entered zone hours.direction (hours_away hours.direction (seconds hours.at) hours.hours))
    (hours-end entered zone hours.direction (seconds hours.at) hours.hours)

abbrev running : Standing → End → End
running (Running time) end = time
running _ end = end

pub extension-ends : (zone : ZoneRules) (entered : Entered) (days : ℕ) (time end : End) → extended_by zone entered days (Running time) ≡ Running end → EndsIn end (extended zone entered days (Running time))
extension-ends zone entered days time end is =
    let from = last_day zone time + days in
    subst (λ e. EndsIn e (extended zone entered days (Running time))) (ap (λ s. running s end) is)
    (more (LastDay (end_from entered Forward from)) (step.Extended (last_day zone time) days ∷ []) (way entered Forward from) (way-ends entered Forward from))

pub resumed-ends : (entered : Entered) (day : ℕ) (three : Bool) → EndsIn (LastDay (resumed_end entered day three)) (steps_of_resumed entered day three)
resumed-ends entered day three =
    let end = end_from entered Forward (day + 14) in
    more (LastDay (resumed_end entered day three)) (step.Resumed day three ∷ []) (way entered Forward (day + 14) ++ three_more entered three end)
    (three-ends entered three end (way entered Forward (day + 14)) (way-ends entered Forward (day + 14)))
