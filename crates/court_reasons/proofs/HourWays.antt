-- The steps of periods of hours explain their ends.
use Rattle.std.proofs.Common.{◌≡◌, ℕ, ◌+◌, ◌-◌, ◌*◌, ◌≤◌, inl, inr, refl, subst, arith}
use Rattle.std.proofs.lemmas.Bool.{cases_Bool, both_ways}
use Rattle.civil_time.specs.LocalTime.{local_day, seconds, IsInstant}
use Rattle.civil_time.specs.Zone.{ZoneRules, IsZone}
use Rattle.civil_time.proofs.LocalTimeLemmas.{local_near}
use Rattle.court_days.specs.Calendar.{Entered, IsWithinLimits}
use Rattle.court_days.specs.Ends.{last_business}
use Rattle.court_days.specs.HourEnds.{is_accessible, first_accessible, forward_end, moved_end, end_of_hours}
use Rattle.court_days.specs.Hours.{IsAccessibleDay, same_time_on}
use Rattle.court_days.specs.Period.{IsFirstFrom}
use Rattle.court_days.specs.declared.calendar.Direction.{Direction}
use Rattle.court_days.specs.declared.calendar.Direction.TheVariants.{Forward, Backward}
use Rattle.court_days.proofs.Accessible.{is_accessible-means, same_time_on-near}
use Rattle.court_days.proofs.Ends.{last_business-finds}
use Rattle.court_days.proofs.EndsOfHours.{forward_end-finds, first_accessible-is}
use Rattle.court_rules.specs.declared.act.HourPeriod.{HourPeriod}
use Rattle.court_reasons.specs.Causes.{business_causes, hour_causes}
use Rattle.court_reasons.specs.Explains.{HoursGoOn, HoursGoFromLast, HoursGo, ExplainsHours}
use Rattle.court_reasons.specs.Steps.{passed, passed_back, hours_on, from_last_hour, hours_from, hours_away, steps_of_hours}
use Rattle.court_reasons.proofs.PassedDays.{names_back_to, names_hours}

module _ (entered : Entered) (limits : IsWithinLimits entered) (zone : ZoneRules) (is : IsZone zone) where
  -- the first accessible business day, and near
  found_accessible : (direction : Direction) (instant from : ℕ) → IsInstant instant → 3660 ≤ from → from ≤ 690_000
      → IsFirstFrom (IsAccessibleDay entered zone direction instant) from (first_accessible entered zone direction instant from)
      × (first_accessible entered zone direction instant from ≤ 741_000)
  unfolding forward_end
  found_accessible direction instant from moment low high =
      let found = forward_end-finds entered limits zone is direction instant from moment low (omega arith) in
      let day = first_accessible entered zone direction instant from in
      let same : found.0.0 ≡ day = first_accessible-is entered limits zone is direction instant from moment low (omega arith) found.0.0 found.0.1 in
      let first : IsFirstFrom (IsAccessibleDay entered zone direction instant) from day = subst (λ d. IsFirstFrom (IsAccessibleDay entered zone direction instant) from d) same found.0.1 in
      (first, omega (arith, found.2, high, same_time_on-near zone is instant day moment (omega (arith, first.reached, low))))

  goes_on : (direction : Direction) (instant from : ℕ) → IsInstant instant → 3660 ≤ from → from ≤ 690_000
      → HoursGoOn entered zone direction instant from (forward_end entered zone direction instant from) (hours_on entered zone direction instant from)
  unfolding forward_end
  goes_on direction instant from moment low high =
      let found = found_accessible direction instant from moment low high in
      let day = first_accessible entered zone direction instant from in record {
        day = day;
        days = passed (hour_causes entered zone direction instant) from day;
        named = names_hours entered zone direction instant from day limits is moment low found.1 found.0;
        first = found.0;
        ends = refl;
        are = refl;
      }

  goes_from_last : (instant last : ℕ) → IsInstant instant → 3660 ≤ last → last ≤ 689_000
      → HoursGoFromLast entered zone instant last (moved_end entered zone instant last) (from_last_hour entered zone instant last)
  unfolding moved_end
  goes_from_last instant last moment low high =
      let near = same_time_on-near zone is instant last moment low in
      let means = is_accessible-means entered zone is (same_time_on zone instant last) limits (omega arith) (omega arith) in
      elim (cases_Bool (is_accessible entered zone (same_time_on zone instant last))) [
        | inl passes ↦ rw passes (inl (means.0 passes, refl, refl))
        | inr fails ↦ rw fails (inr (λ free. both_ways _ fails (means.1 free), (hours_on entered zone Backward instant (last + 1), goes_on Backward instant (last + 1) moment (omega arith) (omega arith), refl)))
      ]

  day_near : (instant : ℕ) → 900_000_000 ≤ instant → (86_400 * local_day zone instant ≤ instant + 46_800) × (instant ≤ 86_400 * local_day zone instant + 129_600)
  day_near instant low = omega (arith, local_near zone is instant (omega arith))

  module _ (start hours : ℕ) (low : 946_598_400 ≤ start) (high : start ≤ 4_102_531_200) (few : hours ≤ 8760) where
    -- the way from the moment to which hours are counted leads to their end
    hours_go : (direction : Direction) → HoursGo entered zone direction (hours_away direction start hours) (end_of_hours entered zone direction start hours) (hours_from entered zone direction (hours_away direction start hours))
    unfolding end_of_hours
    hours_go Forward =
        let instant = start + 3600 * hours in
        let near = day_near instant (omega arith) in
        goes_on Forward instant (local_day zone instant) (omega arith) (omega arith) (omega arith)
    hours_go Backward =
        let instant = start - 3600 * hours in
        let near = day_near instant (omega arith) in
        let last = last_business entered (local_day zone instant) in
        let found = last_business-finds entered limits (local_day zone instant) (omega arith) (omega arith) in record {
          last = last;
          days = passed_back (business_causes entered Backward) (local_day zone instant) last;
          on = from_last_hour entered zone instant last;
          is_last = found.0;
          named = names_back_to entered (local_day zone instant) last (omega arith) found.0;
          goes = goes_from_last instant last (omega arith) (omega (arith, found.1)) (omega (arith, found.0.reached));
          are = refl;
        }

  pub explains_hours : (hours : HourPeriod) → 946_598_400 ≤ seconds hours.at → seconds hours.at ≤ 4_102_531_200 → hours.hours ≤ 8760
      → ExplainsHours entered zone hours (end_of_hours entered zone hours.direction (seconds hours.at) hours.hours) (steps_of_hours entered zone hours)
  explains_hours hours low high few = record {
    way = hours_from entered zone hours.direction (hours_away hours.direction (seconds hours.at) hours.hours);
    goes = hours_go (seconds hours.at) hours.hours low high few hours.direction;
    are = refl;
  }
