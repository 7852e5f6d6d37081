-- No two days in the middle of a week are both holidays, where no day is entered.
use Rattle.std.proofs.Common.{◌≡◌, ◌≢◌, ℕ, ◌+◌, ◌-◌, ◌≤◌, ◌<◌, ◌%◌, inl, inr, true, arith}
use Rattle.std.proofs.lemmas.Bool.Decides.{nat_tests}
use Rattle.civil_time.proofs.Dates.{falls_on_next}
use Rattle.civil_time.specs.Civil.{weekday}
use Rattle.court_days.specs.Civil.{IsEnteredDay}
use Rattle.court_days.specs.Holiday.{is_fixed_date, IsFixedHoliday, IsStatutory, fixed, monday, thursday, before_saturday, after_sunday}
use Rattle.court_days.specs.Calendar.{Entered, IsWithinLimits}
use Rattle.court_days.specs.Legal.{IsWeekend, IsStateHoliday, IsBusinessDay, IsOpenBusinessDay}
use Rattle.court_days.specs.declared.calendar.Direction.{Direction}
use Rattle.court_days.specs.declared.calendar.Direction.TheVariants.{Forward, Backward}
use Rattle.court_days.specs.declared.calendar.DayKind.TheVariants.{Federal, State, Closed}

fixed_bound : (month day : ℕ) → is_fixed_date month day ≡ true → day ≤ 25
fixed_bound month day h = grind (arith, nat_tests)

fixed_next : (month day : ℕ) → is_fixed_date month day ≡ true → is_fixed_date month (day + 1) ≡ true → ⊥
fixed_next month day h k = grind (arith, nat_tests)

-- two days in a row are not both holidays of a fixed date
fixed_apart : (day : ℕ) → IsFixedHoliday day → IsFixedHoliday (day + 1) → ⊥
fixed_apart day (date, e, f) next =
    let bound = fixed_bound date.month date.day f in
    fixed_next date.month date.day f (falls_on_next is_fixed_date day date e (omega arith) next)

-- a statutory holiday on a Tuesday or a Wednesday is one of a fixed date
by_date : (day : ℕ) → weekday day ≢ 1 → weekday day ≢ 4 → weekday day ≢ 5 → IsStatutory day → IsFixedHoliday day
by_date day m t f (fixed h) = h
by_date day m t f (monday w h) = absurd (m w)
by_date day m t f (thursday w h) = absurd (t w)
by_date day m t f (before_saturday w h) = absurd (f w)
by_date day m t f (after_sunday w h) = absurd (m w)

-- a Tuesday or the day after it is no statutory holiday
midweek : (day : ℕ) → weekday day ≡ 2 → IsStatutory day → IsStatutory (day + 1) → ⊥
midweek day w s t =
    fixed_apart day (by_date day (λ e. omega arith) (λ e. omega arith) (λ e. omega arith) s)
    (by_date (day + 1) (λ e. omega arith) (λ e. omega arith) (λ e. omega arith) t)

module _ (entered : Entered) (limits : IsWithinLimits entered) where
  -- outside the days that may be entered, a day that is no weekend and no statutory holiday is a business day
  business : (direction : Direction) (day : ℕ) → ¬ (IsEnteredDay day) → ¬ (IsWeekend day) → ¬ (IsStatutory day) → IsBusinessDay entered direction day
  business direction day out weekend no_statute = (
    weekend,
    λ l. elim l [
      | inl s ↦ no_statute s
      | inr (inl f) ↦ out (limits.days Federal day f)
      | inr (inr s) ↦ state direction s
    ],
  )
    where
      state : (direction : Direction) → IsStateHoliday entered direction day → ⊥
      state Forward s = out (limits.days State day s)
      state Backward s = s

  -- so beyond the days that may be entered a Tuesday or the day after it is a business day
  pub midweek_business : (direction : Direction) (day : ℕ) → weekday day ≡ 2 → ¬ (IsEnteredDay day) → ¬ (IsEnteredDay (day + 1)) → ¬ (IsBusinessDay entered direction day) → ¬ (IsBusinessDay entered direction (day + 1)) → ⊥
  midweek_business direction day w out out_next no_first no_second =
      no_first (business direction day out (λ e. elim e [ inl a ↦ omega arith | inr a ↦ omega arith ]) (λ s.
      no_second (business direction (day + 1) out_next (λ e. elim e [ inl a ↦ omega arith | inr a ↦ omega arith ]) (λ t.
      midweek day w s t))))

  -- and an open one
  pub midweek_open : (direction : Direction) (day : ℕ) → weekday day ≡ 2 → ¬ (IsEnteredDay day) → ¬ (IsEnteredDay (day + 1)) → ¬ (IsOpenBusinessDay entered direction day) → ¬ (IsOpenBusinessDay entered direction (day + 1)) → ⊥
  midweek_open direction day w out out_next no_first no_second =
      midweek_business direction day w out out_next
      (λ b. no_first (b, λ c. out (limits.days Closed day c)))
      (λ b. no_second (b, λ c. out_next (limits.days Closed (day + 1) c)))

-- the first Tuesday from a day on
abbrev pub tuesday_from : ℕ → ℕ
tuesday_from day = day + (9 - weekday day) % 7

pub tuesday_from_is : (day : ℕ) → (day ≤ tuesday_from day) × (tuesday_from day ≤ day + 6) × (weekday (tuesday_from day) ≡ 2)
tuesday_from_is day = omega arith

-- the last Tuesday before a day
abbrev pub tuesday_before : ℕ → ℕ
tuesday_before day = day - 1 - (weekday day + 4) % 7

pub tuesday_before_is : (day : ℕ) → 7 ≤ day → (tuesday_before day < day) × (day ≤ tuesday_before day + 7) × (weekday (tuesday_before day) ≡ 2)
tuesday_before_is day h = omega arith
