-- The functions of specs/ return the ends of periods of hours that the relations define.
use Rattle.std.proofs.Common.{◌≡◌, ℕ, ◌+◌, ◌-◌, ◌*◌, ◌≤◌, max, ◌↔◌, true, inl, inr, refl, sym, ap, ◌∙◌, arith, subst}
use Rattle.std.proofs.lemmas.Bool.{cases_Bool, both_ways, false_from_ne_true}
use Rattle.civil_time.specs.LocalTime.{local_day, IsInstant}
use Rattle.civil_time.specs.Zone.{ZoneRules, IsZone}
use Rattle.civil_time.proofs.LocalTimeLemmas.{local_near}
use Rattle.court_days.specs.Calendar.{Entered, IsWithinLimits}
use Rattle.court_days.specs.Civil.{IsEnteredDay}
use Rattle.court_days.specs.Ends.{first_day, last_business}
use Rattle.court_days.specs.HourEnds.{is_accessible, is_accessible_day, first_accessible, forward_end, moved_end, end_of_hours}
use Rattle.court_days.specs.Hours.{IsAccessible, IsAccessibleDay, same_time_on, RunsForward, MovesIfShut, IsEndOfHours, IsNearEntered}
use Rattle.court_days.specs.Period.{IsFirstFrom}
use Rattle.court_days.specs.declared.calendar.Direction.{Direction}
use Rattle.court_days.specs.declared.calendar.Direction.TheVariants.{Forward, Backward}
use Rattle.court_days.proofs.Accessible.{entered_start, is_accessible-means, is_accessible_day-means, same_time_on-near, accessible_near}
use Rattle.court_days.proofs.Ends.{last_business-finds, last_business-is}
use Rattle.court_days.proofs.Search.{first_day-finds, finds-first_within, first_once}

module _ (entered : Entered) (limits : IsWithinLimits entered) (zone : ZoneRules) (is : IsZone zone) where
  -- forward
  pub forward_end-finds : (direction : Direction) (instant start : ℕ) → IsInstant instant → 3660 ≤ start → start ≤ 690_001
      → RunsForward entered zone direction instant start (forward_end entered zone direction instant start)
      × (86_400 * start ≤ forward_end entered zone direction instant start + 46_800)
      × (forward_end entered zone direction instant start ≤ 86_400 * (max start 47_484 + 7) + 129_600)
  unfolding forward_end
  forward_end-finds direction instant start moment low high =
      let near = accessible_near entered limits zone is direction instant moment start (omega arith) in
      let means = is_accessible_day-means entered limits zone is direction instant moment in
      let test = is_accessible_day entered zone direction instant in
      let passes = (means near.0 (omega (arith, near.1)) (omega (arith, near.2))).1 near.3 in
      let found = first_day-finds test 50_000 start near.0 near.1 (omega (arith, near.2)) passes in
      let first = finds-first_within (IsAccessibleDay entered zone direction instant) test start near.0 (first_day test 50_000 start) (λ day a b. means day (omega arith) (omega (arith, near.2))) found in
      let lies = same_time_on-near zone is instant (first_day test 50_000 start) moment (omega (arith, found.reached)) in (
        (first_day test 50_000 start, first, refl),
        omega (arith, lies.0, found.reached),
        omega (arith, lies.1, found.within, near.2),
      )

  pub first_accessible-is : (direction : Direction) (instant start : ℕ) → IsInstant instant → 3660 ≤ start → start ≤ 690_001
      → (day : ℕ) → IsFirstFrom (IsAccessibleDay entered zone direction instant) start day → day ≡ first_accessible entered zone direction instant start
  unfolding forward_end-finds
  first_accessible-is direction instant start moment low high day first =
      first_once (IsAccessibleDay entered zone direction instant) start day _ first (forward_end-finds direction instant start moment low high).0.1

  pub forward_end-is : (direction : Direction) (instant start end : ℕ) → IsInstant instant → 3660 ≤ start → start ≤ 690_001
      → RunsForward entered zone direction instant start end → end ≡ forward_end entered zone direction instant start
  forward_end-is direction instant start end moment low high runs =
      let found = forward_end-finds direction instant start moment low high in
      let same : runs.0 ≡ found.0.0 = first_once (IsAccessibleDay entered zone direction instant) start runs.0 found.0.0 runs.1 found.0.1 in
      runs.2 ∙ ap (same_time_on zone instant) same ∙ sym found.0.2

  -- from the last business day
  accessible_then : (instant last : ℕ) → IsInstant instant → 3660 ≤ last → last ≤ 690_000 → (is_accessible entered zone (same_time_on zone instant last) ≡ true) ↔ IsAccessible entered zone (same_time_on zone instant last)
  accessible_then instant last moment low high =
      let lies = same_time_on-near zone is instant last moment low in
      is_accessible-means entered zone is (same_time_on zone instant last) limits (omega arith) (omega arith)

  moved_end-is : (instant last end : ℕ) → IsInstant instant → 3660 ≤ last → last ≤ 690_000 → MovesIfShut entered zone instant last end → end ≡ moved_end entered zone instant last
  unfolding moved_end
  moved_end-is instant last end moment low high (inl (free, e)) =
      let passes = (accessible_then instant last moment low high).1 free in rw passes e
  moved_end-is instant last end moment low high (inr (shut, runs)) =
      let fails = false_from_ne_true _ (λ t. shut ((accessible_then instant last moment low high).0 t)) in
      rw fails (forward_end-is Backward instant (last + 1) end moment (omega arith) (omega arith) runs)

  moved_end-finds : (instant last : ℕ) → IsInstant instant → 3660 ≤ last → last ≤ 690_000
      → MovesIfShut entered zone instant last (moved_end entered zone instant last)
      × (86_400 * last ≤ moved_end entered zone instant last + 46_800)
      × (moved_end entered zone instant last ≤ 86_400 * (max (last + 1) 47_484 + 7) + 129_600)
  unfolding moved_end
  moved_end-finds instant last moment low high =
      let means = accessible_then instant last moment low high in
      let lies = same_time_on-near zone is instant last moment low in
      let later = forward_end-finds Backward instant (last + 1) moment (omega arith) (omega arith) in
      elim (cases_Bool (is_accessible entered zone (same_time_on zone instant last))) [
        | inl passes ↦ rw passes (inl (means.0 passes, refl), omega arith, omega arith)
        | inr fails ↦ rw fails (inr (λ free. both_ways _ fails (means.1 free), later.0), omega (arith, later.1), omega (arith, later.2))
      ]

  day_near : (instant : ℕ) → IsInstant instant → (86_400 * local_day zone instant ≤ instant + 46_800) × (instant ≤ 86_400 * local_day zone instant + 129_600)
  day_near instant moment = omega (arith, local_near zone is instant (omega arith))

  module _ (start hours : ℕ) (low : 946_598_400 ≤ start) (high : start ≤ 4_102_531_200) (few : hours ≤ 8760) where
    -- one end, and near the days that may be entered
    pub end_of_hours-is : (direction : Direction) (end : ℕ) → IsEndOfHours entered zone direction start hours end → end ≡ end_of_hours entered zone direction start hours
    unfolding end_of_hours
    end_of_hours-is Forward end runs =
        let instant = start + 3600 * hours in
        let near = day_near instant (omega arith) in
        forward_end-is Forward instant (local_day zone instant) end (omega arith) (omega arith) (omega arith) runs
    end_of_hours-is Backward end (last, is_last, moves) =
        let instant = start - 3600 * hours in
        let near = day_near instant (omega arith) in
        let found = last_business-finds entered limits (local_day zone instant) (omega arith) (omega arith) in
        let same = last_business-is entered limits (local_day zone instant) last (omega arith) (omega arith) is_last in
        moved_end-is instant last end (omega arith) (omega (arith, same, found.1)) (omega (arith, is_last.reached)) moves ∙ ap (moved_end entered zone instant) same

    pub end_of_hours-finds : (direction : Direction) → IsEndOfHours entered zone direction start hours (end_of_hours entered zone direction start hours) × IsNearEntered (end_of_hours entered zone direction start hours)
    unfolding end_of_hours
    end_of_hours-finds Forward =
        let instant = start + 3600 * hours in
        let near = day_near instant (omega arith) in
        let found = forward_end-finds Forward instant (local_day zone instant) (omega arith) (omega arith) (omega arith) in
        (found.0, (omega (arith, found.1), omega (arith, found.2)))
    end_of_hours-finds Backward =
        let instant = start - 3600 * hours in
        let near = day_near instant (omega arith) in
        let last = last_business-finds entered limits (local_day zone instant) (omega arith) (omega arith) in
        let found = moved_end-finds instant (last_business entered (local_day zone instant)) (omega arith) (omega (arith, last.1)) (omega (arith, last.0.reached)) in
        ((last_business entered (local_day zone instant), last.0, found.0), (omega (arith, found.1, last.1), omega (arith, found.2, last.0.reached)))

-- a period of hours has one end
pub end_of_hours-only : (entered : Entered) (zone : ZoneRules) (direction : Direction) (start hours end : ℕ) → IsWithinLimits entered → IsZone zone → IsEnteredDay (local_day zone start) → hours ≤ 8760 → IsEndOfHours entered zone direction start hours end ↔ (end ≡ end_of_hours entered zone direction start hours)
end_of_hours-only entered zone direction start hours end limits is day few =
    let begins = entered_start zone is start day.0 day.1 in (
      λ ends. end_of_hours-is entered limits zone is start hours begins.0 begins.1 few direction end ends,
      λ e. subst (λ (n : ℕ). IsEndOfHours entered zone direction start hours n) (sym e) (end_of_hours-finds entered limits zone is start hours begins.0 begins.1 few direction).0,
    )

pub end_of_hours-near : (entered : Entered) (zone : ZoneRules) (direction : Direction) (start hours : ℕ) → IsWithinLimits entered → IsZone zone → IsEnteredDay (local_day zone start) → hours ≤ 8760 → IsNearEntered (end_of_hours entered zone direction start hours)
end_of_hours-near entered zone direction start hours limits is day few =
    let begins = entered_start zone is start day.0 day.1 in
    (end_of_hours-finds entered limits zone is start hours begins.0 begins.1 few direction).1
