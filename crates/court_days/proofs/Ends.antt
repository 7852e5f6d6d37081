-- The functions of specs/ return the ends that the relations define.
use Rattle.std.proofs.Common.{◌≡◌, ℕ, ◌+◌, ◌≤◌, max, min, ◌↔◌, true, false, inl, inr, refl, sym, arith, subst}
use Rattle.std.proofs.lemmas.Bool.{cases_Bool, both_ways, false_from_ne_true}
use Rattle.court_days.specs.Calendar.{Entered, IsWithinLimits}
use Rattle.court_days.specs.Legal.{IsBusinessDay, is_business_day, is_open, IsOpenBusinessDay, is_open_business_day}
use Rattle.court_days.specs.Period.{IsFirstFrom, IsLastUpTo, MovesIfClosed, IsEndFrom, IsEndOfDays, IsTrigger, IsInReach, days_away}
use Rattle.court_days.specs.Ends.{first_open, last_business, open_from, end_from, end_of_days}
use Rattle.court_days.specs.declared.calendar.Direction.{Direction}
use Rattle.court_days.specs.declared.calendar.Direction.TheVariants.{Forward, Backward}
use Rattle.court_days.proofs.Gaps.{tuesday_from, tuesday_from_is, tuesday_before, tuesday_before_is, midweek_open, midweek_business}
use Rattle.court_days.proofs.Search.{first_day-finds, last_day-finds, finds-first, finds-last, first_once, last_once}
use Rattle.court_days.proofs.TestLaws.{is_business_day-means, is_open-means, is_open_business_day-means}

module _ (entered : Entered) (limits : IsWithinLimits entered) where
  -- beyond the days that may be entered, an open business day lies in the middle of each week
  open_near : (direction : Direction) (start : ℕ) → start ≤ 720_000 → (day : ℕ) × (start ≤ day) × (day ≤ max start 47_482 + 7) × (is_open_business_day entered direction day ≡ true)
  open_near direction start h =
      let tuesday = tuesday_from (max start 47_482) in
      let is = tuesday_from_is (max start 47_482) in
      elim (cases_Bool (is_open_business_day entered direction tuesday)) [
        | inl passes ↦ (tuesday, omega arith, omega arith, passes)
        | inr fails ↦ elim (cases_Bool (is_open_business_day entered direction (tuesday + 1))) [
          | inl passes ↦ (tuesday + 1, omega arith, omega arith, passes)
          | inr neither ↦ absurd (midweek_open entered limits direction tuesday is.2 (λ e. omega arith) (λ e. omega arith)
              (λ q. both_ways _ fails ((is_open_business_day-means entered direction tuesday (omega arith)).1 q))
              (λ q. both_ways _ neither ((is_open_business_day-means entered direction (tuesday + 1) (omega arith)).1 q)))
        ]
      ]

  business_near : (start : ℕ) → 7_000 ≤ start → start ≤ 720_000 → (day : ℕ) × (day ≤ start) × (min start 10_956 ≤ day + 7) × (is_business_day entered Backward day ≡ true)
  business_near start low h =
      let tuesday = tuesday_before (min start 10_956) in
      let is = tuesday_before_is (min start 10_956) (omega arith) in
      elim (cases_Bool (is_business_day entered Backward tuesday)) [
        | inl passes ↦ (tuesday, omega arith, omega arith, passes)
        | inr fails ↦ elim (cases_Bool (is_business_day entered Backward (tuesday + 1))) [
          | inl passes ↦ (tuesday + 1, omega arith, omega arith, passes)
          | inr neither ↦ absurd (midweek_business entered limits Backward tuesday is.2 (λ e. omega arith) (λ e. omega arith)
              (λ q. both_ways _ fails ((is_business_day-means entered Backward tuesday (omega arith)).1 q))
              (λ q. both_ways _ neither ((is_business_day-means entered Backward (tuesday + 1) (omega arith)).1 q)))
        ]
      ]

  -- the search forward finds the first, and near its start
  pub first_open-finds : (direction : Direction) (start : ℕ) → start ≤ 720_000 → IsFirstFrom (IsOpenBusinessDay entered direction) start (first_open entered direction start) × (first_open entered direction start ≤ max start 47_482 + 7)
  unfolding first_open
  first_open-finds direction start h =
      let near = open_near direction start h in
      let test = is_open_business_day entered direction in
      let found = first_day-finds test 50_000 start near.0 near.1 (omega (arith, near.2)) near.3 in (
        finds-first (IsOpenBusinessDay entered direction) test (λ day k. is_open_business_day-means entered direction day k) start near.0 _ (omega (arith, near.2)) found,
        omega (arith, found.within, near.2),
      )

  pub first_open-is : (direction : Direction) (start day : ℕ) → start ≤ 720_000 → IsFirstFrom (IsOpenBusinessDay entered direction) start day → day ≡ first_open entered direction start
  first_open-is direction start day h is = first_once (IsOpenBusinessDay entered direction) start _ _ is (first_open-finds direction start h).0

  -- and the search backward the last
  pub last_business-finds : (start : ℕ) → 7_000 ≤ start → start ≤ 55_000 → IsLastUpTo (IsBusinessDay entered Backward) start (last_business entered start) × (min start 10_956 ≤ last_business entered start + 7)
  unfolding last_business
  last_business-finds start low h =
      let near = business_near start low (omega arith) in
      let test = is_business_day entered Backward in
      let found = last_day-finds test 50_000 start near.0 near.1 (omega (arith, near.2)) near.3 in (
        finds-last (IsBusinessDay entered Backward) test (λ day k. is_business_day-means entered Backward day k) start near.0 _ (omega arith) found,
        omega (arith, found.within, near.2),
      )

  pub last_business-is : (start day : ℕ) → 7_000 ≤ start → start ≤ 55_000 → IsLastUpTo (IsBusinessDay entered Backward) start day → day ≡ last_business entered start
  last_business-is start day low h is = last_once (IsBusinessDay entered Backward) start _ _ is (last_business-finds start low h).0

  moved : (last day : ℕ) → 6_990 ≤ last → last ≤ 55_000 → MovesIfClosed entered last day → day ≡ open_from entered last
  unfolding open_from
  moved last day low high (inl (opens, e)) = let passes : is_open entered last ≡ true = (is_open-means entered last).1 opens in rw passes e
  moved last day low high (inr (shut, first)) =
      let fails : is_open entered last ≡ false = false_from_ne_true _ (λ t. shut ((is_open-means entered last).0 t)) in
      rw fails (first_open-is Backward (last + 1) day (omega arith) first)

  -- the end is the function's value
  pub end_from-is : (direction : Direction) (from day : ℕ) → IsInReach direction from → IsEndFrom entered direction from day → day ≡ end_from entered direction from
  unfolding end_from
  end_from-is Forward from day h is = first_open-is Forward from day (omega (arith, h)) is
  end_from-is Backward from day h is =
      let found = last_business-finds from h.0 (omega (arith, h.1)) in
      let same = last_business-is from is.0 h.0 (omega (arith, h.1)) is.1 in
      rw same at (moved is.0 day (omega (arith, same, found.1)) (omega (arith, is.1.reached, h.1)) is.2)

  settles : (last : ℕ) → last ≤ 55_000 → MovesIfClosed entered last (open_from entered last) × (open_from entered last ≤ max (last + 1) 47_482 + 7)
  unfolding open_from
  settles last h =
      elim (cases_Bool (is_open entered last)) [
        | inl opens ↦ rw opens (inl ((is_open-means entered last).0 opens, refl), omega arith)
        | inr fails ↦ let found = first_open-finds Backward (last + 1) (omega arith) in
            rw fails (inr (λ o. both_ways _ fails ((is_open-means entered last).1 o), found.0), omega (arith, found.1))
      ]

  -- the function's value is an end, and not far beyond the day, or beyond the last day that may be entered
  pub end_from-finds : (direction : Direction) (from : ℕ) → IsInReach direction from → IsEndFrom entered direction from (end_from entered direction from) × (end_from entered direction from ≤ max from 47_482 + 7)
  unfolding end_from
  end_from-finds Forward from h = first_open-finds Forward from (omega (arith, h))
  end_from-finds Backward from h =
      let found = last_business-finds from h.0 (omega (arith, h.1)) in
      let rest = settles (last_business entered from) (omega (arith, found.0.reached, h.1)) in
      ((last_business entered from, found.0, rest.0), omega (arith, rest.1, found.0.reached))

-- the days that a period of days runs to
away_in_reach : (direction : Direction) (trigger count : ℕ) → IsTrigger direction trigger → count ≤ 3650 → IsInReach direction (days_away direction trigger count) × (days_away direction trigger count ≤ trigger + count)
away_in_reach Forward trigger count h k = (omega arith, omega arith)
away_in_reach Backward trigger count h k = ((omega (arith, h), omega (arith, h)), omega arith)

-- a period of days has one end
pub end_of_days-only : (entered : Entered) (direction : Direction) (trigger count day : ℕ) → IsWithinLimits entered → IsTrigger direction trigger → count ≤ 3650 → IsEndOfDays entered direction trigger count day ↔ (day ≡ end_of_days entered direction trigger count)
end_of_days-only entered direction trigger count day limits h k =
    let reach = away_in_reach direction trigger count h k in
    let from = days_away direction trigger count in (
      λ is. end_from-is entered limits direction from day reach.0 is,
      λ e. subst (λ d. IsEndFrom entered direction from d) (sym e) (end_from-finds entered limits direction from reach.0).0,
    )

pub end_of_days-near : (entered : Entered) (direction : Direction) (trigger count : ℕ) → IsWithinLimits entered → IsTrigger direction trigger → count ≤ 3650 → end_of_days entered direction trigger count ≤ max (trigger + count) 47_482 + 7
end_of_days-near entered direction trigger count limits h k =
    let reach = away_in_reach direction trigger count h k in
    omega (arith, reach.1, (end_from-finds entered limits direction (days_away direction trigger count) reach.0).1)
