-- The names of holidays, by their dates.
use Rattle.std.proofs.Common.{◌≡◌, ℕ, ◌+◌, ◌-◌, ◌≤◌, ◌++◌, ◌==◌, List, Bool, true, false, ℤ, pos, IsTrue, inl, inr, refl, sym, ap, ◌∙◌, arith}
use Rattle.std.specs.Prelude.{codes, nat_eq}
use Rattle.std.specs.List.{ends_with}
use Rattle.std.proofs.lemmas.Bool.{cond_both, cases_Bool, both_ways}
use Rattle.std.proofs.lemmas.Bool.Decides.{nat_tests}
use Rattle.jiff_core.specs.declared.civil.date.Date.{Date}
use Rattle.jiff_core.specs.Date.{epoch_day}
use Rattle.jiff_core.proofs.SignedLemmas.{signed_arith}
use Rattle.jiff_core.proofs.DateLemmas.{days_from_civil-day}
use Rattle.civil_time.specs.Civil.{HasYmd, weekday, month_of, falls_on, FallsOn}
use Rattle.civil_time.proofs.DateOf.{falls_on-is, falls_on-means, falls_on-ymd}
use Rattle.civil_time.proofs.MonthsAway.{month_of-ymd}
use Rattle.civil_time.proofs.Years.{long_month}
use Rattle.court_days.specs.Holiday.{is_fixed_date, is_monday_date, is_thursday_date, is_fixed_holiday, IsFixedHoliday, IsStatutory, fixed, monday, thursday, before_saturday, after_sunday}
use Rattle.docket_text.specs.HolidayNames.{IsObserved, fixed_name, monday_name, observed_name, holiday_name}

-- no fixed date lies late in its month, and none is the day after another, or one of a Monday or a Thursday
fixed_early : (m d : ℕ) → is_fixed_date m d ≡ true → d ≤ 25
fixed_early m d h = grind (arith, nat_tests)

fixed_apart : (m d : ℕ) → is_fixed_date m d ≡ true → is_fixed_date m (d + 1) ≡ false
fixed_apart m d h = grind (arith, nat_tests)

monday_apart : (m d : ℕ) → is_fixed_date m d ≡ true → is_monday_date m (d + 1) ≡ false
monday_apart m d h = grind (arith, nat_tests)

fixed_monday : (m d : ℕ) → is_monday_date m d ≡ true → is_fixed_date m d ≡ false
fixed_monday m d h = grind (arith, nat_tests)

fixed_thursday : (m d : ℕ) → is_thursday_date m d ≡ true → is_fixed_date m d ≡ false
fixed_thursday m d h = grind (arith, nat_tests)

-- the date of the day after a holiday of a fixed date
record IsDayAfterFixed (day : ℕ) : Type 0 where
  month : ℕ
  day_of_month : ℕ
  is_fixed : is_fixed_date month day_of_month ≡ true
  falls : (test : ℕ → ℕ → Bool) → falls_on test day ≡ test month (day_of_month + 1)

day_after : (day : ℕ) → IsFixedHoliday day → IsDayAfterFixed (day + 1)
day_after day (date, is, is_fixed) =
    let early = fixed_early date.month date.day is_fixed in
    let next : Date = record { year = date.year; month = date.month; day = date.day + 1; year_in = date.year_in; month_in = date.month_in; day_in = (omega arith, omega (arith, long_month date.year date.month)) } in
    let at : epoch_day next ≡ pos (day + 1) = omega (arith, signed_arith, is, days_from_civil-day date.year date.month date.day (date.day + 1) date.day_in.0 (omega arith)) in
    record { month = date.month; day_of_month = date.day; is_fixed = is_fixed; falls = λ test. falls_on-is next (day + 1) at test }

-- which is no such holiday itself, and no date of a Monday
after_fixed : (day : ℕ) → IsDayAfterFixed day → is_fixed_holiday day ≡ false
unfolding is_fixed_holiday
after_fixed day h = h.falls is_fixed_date ∙ fixed_apart h.month h.day_of_month h.is_fixed

after_monday : (day : ℕ) → IsDayAfterFixed day → falls_on is_monday_date day ≡ false
after_monday day h = h.falls is_monday_date ∙ monday_apart h.month h.day_of_month h.is_fixed

is_holiday : (day : ℕ) → IsFixedHoliday day → is_fixed_holiday day ≡ true
unfolding is_fixed_holiday
is_holiday day (date, is, is_fixed) = falls_on-is date day is is_fixed_date ∙ is_fixed

on_date : (day : ℕ) (year : ℤ) (month dom : ℕ) → HasYmd day year month dom → is_fixed_holiday day ≡ is_fixed_date month dom
unfolding is_fixed_holiday
on_date day year month dom h = falls_on-ymd is_fixed_date day year month dom h

-- a day is no such holiday where the next one is, or where what follows one does not fall on it
not_holiday : (day : ℕ) → day ≤ 1_000_000 → (IsFixedHoliday day → ⊥) → is_fixed_holiday day ≡ false
unfolding is_fixed_holiday
not_holiday day limit never =
    elim (cases_Bool (falls_on is_fixed_date day)) [
      | inl passes ↦ absurd (never ((falls_on-means is_fixed_date day (omega arith)).0 passes))
      | inr fails ↦ fails
    ]

-- the names
pub fixed_day : (day : ℕ) (year : ℤ) (month dom : ℕ) → HasYmd day year month dom → is_fixed_date month dom ≡ true → holiday_name day ≡ fixed_name month
fixed_day day year month dom ymd is_fixed =
    let here : is_fixed_holiday day ≡ true = on_date day year month dom ymd ∙ is_fixed in
    rw here (ap fixed_name (month_of-ymd day year month dom ymd))

fixed_holiday : (day : ℕ) → IsFixedHoliday day → holiday_name day ≡ fixed_name (month_of day)
fixed_holiday day h = rw (is_holiday day h) refl

pub monday_day : (day : ℕ) (year : ℤ) (month dom : ℕ) → day ≤ 1_000_000 → HasYmd day year month dom → weekday day ≡ 1 → is_monday_date month dom ≡ true → holiday_name day ≡ monday_name month
monday_day day year month dom limit ymd on_monday is_monday =
    let here : is_fixed_holiday day ≡ false = on_date day year month dom ymd ∙ fixed_monday month dom is_monday in
    let some : day - 1 + 1 ≡ day = omega arith in
    let falls : falls_on is_monday_date day ≡ true = falls_on-ymd is_monday_date day year month dom ymd ∙ is_monday in
    let before : is_fixed_holiday (day - 1) ≡ false = not_holiday (day - 1) (omega arith) (λ h.
    both_ways _ (after_monday day (rw some at (day_after (day - 1) h))) falls) in
    rw (here, on_monday, before) (ap monday_name (month_of-ymd day year month dom ymd))

pub thursday_day : (day : ℕ) → weekday day ≡ 4 → FallsOn is_thursday_date day → holiday_name day ≡ codes "Thanksgiving Day"
thursday_day day on_thursday (date, is, is_thursday) =
    let here : is_fixed_holiday day ≡ false = on_date day date.year date.month date.day (date, is, refl, refl, refl) ∙ fixed_thursday date.month date.day is_thursday in
    rw (here, on_thursday) refl

on_friday : (day : ℕ) → weekday day ≡ 5 → is_fixed_holiday day ≡ false → holiday_name day ≡ observed_name (day + 1)
on_friday day w here = rw (here, w) refl

pub friday_before : (day : ℕ) → day ≤ 1_000_000 → weekday day ≡ 5 → IsFixedHoliday (day + 1) → holiday_name day ≡ holiday_name (day + 1) ++ codes " (observed)"
friday_before day limit w h =
    let here = not_holiday day limit (λ f. both_ways _ (after_fixed (day + 1) (day_after day f)) (is_holiday (day + 1) h)) in
    on_friday day w here ∙ ap (λ (name : List ℕ). name ++ codes " (observed)") (sym (fixed_holiday (day + 1) h))

on_monday : (day : ℕ) → weekday day ≡ 1 → is_fixed_holiday day ≡ false → is_fixed_holiday (day - 1) ≡ true → holiday_name day ≡ observed_name (day - 1)
on_monday day w here before = rw (here, w, before) refl

pub monday_after : (day : ℕ) → weekday day ≡ 1 → IsFixedHoliday (day - 1) → holiday_name day ≡ holiday_name (day - 1) ++ codes " (observed)"
monday_after day w h =
    let some : day - 1 + 1 ≡ day = omega arith in
    let here = after_fixed day (rw some at (day_after (day - 1) h)) in
    on_monday day w here (is_holiday (day - 1) h) ∙ ap (λ (name : List ℕ). name ++ codes " (observed)") (sym (fixed_holiday (day - 1) h))

-- the other names end otherwise
abbrev IsPlain : List ℕ → Type 0
IsPlain name = ends_with nat_eq name (codes " (observed)") ≡ false

fixed_plain : (month : ℕ) → IsPlain (fixed_name month)
fixed_plain month =
    cond_both (month == 1) _ _ IsPlain (λ _. refl)
    (λ _. cond_both (month == 6) _ _ IsPlain (λ _. refl)
    (λ _. cond_both (month == 7) _ _ IsPlain (λ _. refl)
    (λ _. cond_both (month == 11) _ _ IsPlain (λ _. refl) (λ _. refl))))

monday_plain : (month : ℕ) → IsPlain (monday_name month)
monday_plain month =
    cond_both (month == 1) _ _ IsPlain (λ _. refl)
    (λ _. cond_both (month == 2) _ _ IsPlain (λ _. refl)
    (λ _. cond_both (month == 5) _ _ IsPlain (λ _. refl)
    (λ _. cond_both (month == 9) _ _ IsPlain (λ _. refl) (λ _. refl))))

plain : (day : ℕ) (name : List ℕ) → holiday_name day ≡ name → IsPlain name → IsTrue (ends_with nat_eq (holiday_name day) (codes " (observed)")) → ⊥
plain day name is otherwise told = both_ways _ otherwise (rw is at told)

pub no_other : (day : ℕ) → day ≤ 1_000_000 → IsStatutory day → IsTrue (ends_with nat_eq (holiday_name day) (codes " (observed)")) → IsObserved day
no_other day limit (fixed f) told = absurd (plain day _ (fixed_holiday day f) (fixed_plain (month_of day)) told)
no_other day limit (monday w (date, is, h)) told =
    absurd (plain day _ (monday_day day date.year date.month date.day limit (date, is, refl, refl, refl) w h) (monday_plain date.month) told)
no_other day limit (thursday w h) told = absurd (plain day _ (thursday_day day w h) refl told)
no_other day limit (before_saturday w f) told = inl (w, f)
no_other day limit (after_sunday w f) told = inr (w, f)
