-- When an hour is free of closures.
use Rattle.std.proofs.Common.{◌≡◌, ℕ, true, ◌+◌, ◌-◌, ◌*◌, ◌%◌, ◌<◌, ◌≤◌, inl, inr, max, subst, arith, nat_eq, ◌↔◌}
use Rattle.std.proofs.lemmas.Bool.{cases_Bool, both_ways}
use Rattle.civil_time.specs.LocalTime.{local_time, local_day, IsInstant}
use Rattle.civil_time.specs.Zone.{ZoneRules, IsZone}
use Rattle.civil_time.proofs.HourDays.{hour_days}
use Rattle.civil_time.proofs.LocalTimeLemmas.{local_near, instant_of-near, not_early}
use Rattle.court_days.specs.Calendar.{Entered, Holds, IsWithinLimits}
use Rattle.court_days.specs.HourEnds.{is_accessible, is_accessible_day}
use Rattle.court_days.specs.Hours.{IsAccessible, IsAccessibleDay, IsNearEntered, same_time_on}
use Rattle.court_days.specs.Legal.{is_business_day}
use Rattle.court_days.specs.Spans.{Meets}
use Rattle.court_days.specs.declared.calendar.DayKind.TheVariants.{Closed}
use Rattle.court_days.specs.declared.calendar.Direction.{Direction}
use Rattle.court_days.proofs.Gaps.{tuesday_from, tuesday_from_is, midweek_business}
use Rattle.court_days.proofs.SpanSets.{meets-means}
use Rattle.court_days.proofs.TestLaws.{tells-and, tells-not, is_business_day-means}

-- a period that begins on a day that may be entered begins at these instants
pub entered_start : (zone : ZoneRules) (is : IsZone zone) (n : ℕ) → 10_957 ≤ local_day zone n → local_day zone n ≤ 47_481 → (946_598_400 ≤ n) × (n ≤ 4_102_531_200)
entered_start zone is n a b =
    let late : 43_200 ≤ n = not_early zone is n (omega arith) in
    omega (arith, local_near zone is n late)

-- the local days of instants near them
pub near_entered_day : (zone : ZoneRules) (instant : ℕ) → IsZone zone → IsNearEntered instant → (10_578 ≤ local_day zone instant) × (local_day zone instant ≤ 47_871)
near_entered_day zone instant is near = omega (arith, near, local_near zone is instant (omega arith))

module _ (entered : Entered) (zone : ZoneRules) (is : IsZone zone) (end : ℕ) where
  pub accessible_from : IsInstant (end - 3600) → IsInstant end
      → ¬ (Holds entered Closed (local_day zone (end - 3600))) → ¬ (Holds entered Closed (local_day zone (end - 1)))
      → ¬ (Meets entered.spans (end - 3600) end) → IsAccessible entered zone end
  accessible_from low high first last spans instant a b (inl closed) =
      elim (hour_days zone is end instant low high a b) [
        | inl e ↦ first (subst (λ (d : ℕ). Holds entered Closed d) e closed)
        | inr e ↦ last (subst (λ (d : ℕ). Holds entered Closed d) e closed)
      ]
  accessible_from low high first last spans instant a b (inr inside) =
      spans (inside.0, inside.1, omega (arith, inside.2), omega (arith, inside.3))

  pub accessible_spans : IsWithinLimits entered → 3600 ≤ end → IsAccessible entered zone end → ¬ (Meets entered.spans (end - 3600) end)
  accessible_spans limits low free met =
      let some = limits.spans met.0.start met.0.end met.1 in
      free (max met.0.start (end - 3600)) (omega arith) (omega (arith, met.2)) (inr (met.0, met.1, omega arith, omega (arith, some, met.3)))

  pub accessible_days : (instant : ℕ) → end - 3600 ≤ instant → instant < end → IsAccessible entered zone end → ¬ (Holds entered Closed (local_day zone instant))
  accessible_days instant a b free closed = free instant a b (inl closed)

  -- the test passes just where the fact holds
  pub is_accessible-means : IsWithinLimits entered → IsInstant (end - 3600) → IsInstant end → (is_accessible entered zone end ≡ true) ↔ IsAccessible entered zone end
  unfolding is_accessible
  is_accessible-means limits low high =
      let parts = tells-and (tells-and (tells-not {P = Holds entered Closed (local_day zone (end - 3600))} (λ e. e, λ e. e)) (tells-not {P = Holds entered Closed (local_day zone (end - 1))} (λ e. e, λ e. e))) (tells-not (meets-means entered.spans (end - 3600) end)) in (
        λ t. let free = parts.0 t in accessible_from low high free.0.0 free.0.1 free.1,
        λ free. parts.1 ((accessible_days (end - 3600) (omega arith) (omega (arith, low)) free, accessible_days (end - 1) (omega arith) (omega (arith, low)) free), accessible_spans limits (omega (arith, low)) free),
      )

-- the same time on a day lies near that day
pub same_time_on-near : (zone : ZoneRules) (is : IsZone zone) (instant day : ℕ) → IsInstant instant → 3660 ≤ day → (86_400 * day ≤ same_time_on zone instant day + 46_800) × (same_time_on zone instant day ≤ 86_400 * day + 129_600)
unfolding same_time_on
same_time_on-near zone is instant day h k =
    let near = local_near zone is instant (omega arith) in
    let other = instant_of-near zone is (86_400 * day + local_time zone instant % 86_400) (omega arith) in
    elim (cases_Bool (nat_eq day (local_day zone instant))) [
      | inl test ↦ let e : day ≡ local_day zone instant = grind arith in rw test (omega arith)
      | inr test ↦ rw test (omega (arith, other))
    ]

module _ (entered : Entered) (limits : IsWithinLimits entered) (zone : ZoneRules) (is : IsZone zone) (direction : Direction) (instant : ℕ) (moment : IsInstant instant) where
  pub is_accessible_day-means : (day : ℕ) → 3660 ≤ day → day ≤ 741_000 → (is_accessible_day entered zone direction instant day ≡ true) ↔ IsAccessibleDay entered zone direction instant day
  unfolding is_accessible_day
  is_accessible_day-means day low high =
      let near = same_time_on-near zone is instant day moment low in
      tells-and (is_business_day-means entered direction day (omega arith)) (is_accessible-means entered zone is (same_time_on zone instant day) limits (omega arith) (omega arith))

  -- after the last instant that may be entered nothing is closed
  accessible_after : (end : ℕ) → 4_102_534_800 ≤ end → IsAccessible entered zone end
  accessible_after end h other a b (inl closed) = omega (arith, limits.days Closed (local_day zone other) closed, local_near zone is other (omega arith))
  accessible_after end h other a b (inr inside) = omega (arith, limits.spans inside.0.start inside.0.end inside.1, inside.2, inside.3)

  late_day : (day : ℕ) → 47_484 ≤ day → day ≤ 741_000 → is_business_day entered direction day ≡ true → IsAccessibleDay entered zone direction instant day
  late_day day h k passes = (
    (is_business_day-means entered direction day (omega arith)).0 passes,
    accessible_after (same_time_on zone instant day) (omega (arith, same_time_on-near zone is instant day moment (omega arith))),
  )

  -- so an accessible business day is near
  pub accessible_near : (start : ℕ) → start ≤ 700_000 → (day : ℕ) × (start ≤ day) × (day ≤ max start 47_484 + 7) × IsAccessibleDay entered zone direction instant day
  accessible_near start h =
      let tuesday = tuesday_from (max start 47_484) in
      let near = tuesday_from_is (max start 47_484) in
      elim (cases_Bool (is_business_day entered direction tuesday)) [
        | inl passes ↦ (tuesday, omega arith, omega arith, late_day tuesday (omega arith) (omega arith) passes)
        | inr fails ↦ elim (cases_Bool (is_business_day entered direction (tuesday + 1))) [
          | inl passes ↦ (tuesday + 1, omega arith, omega arith, late_day (tuesday + 1) (omega arith) (omega arith) passes)
          | inr neither ↦ absurd (midweek_business entered limits direction tuesday near.2 (λ e. omega arith) (λ e. omega arith)
              (λ q. both_ways _ fails ((is_business_day-means entered direction tuesday (omega arith)).1 q))
              (λ q. both_ways _ neither ((is_business_day-means entered direction (tuesday + 1) (omega arith)).1 q)))
        ]
      ]
