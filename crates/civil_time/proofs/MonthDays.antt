-- Where months, and the dates of clock changes in them, lie in their year.
use Rattle.std.proofs.Common.{◌≡◌, ℕ, zero, suc, ◌+◌, ◌-◌, ◌*◌, ◌<◌, ◌≤◌, inl, inr, true, false, Bool, nat_eq, pos, int_le, refl, arith}
use Rattle.std.proofs.lemmas.Bool.{cases_order, both_ways}
use Rattle.jiff_core.specs.Calendar.{days_from_civil, days_in_month, days_in_year, days_of_months, day_count}
use Rattle.jiff_core.proofs.SignedLemmas.{signed_arith, one_part}
use Rattle.jiff_core.proofs.CalendarLemmas.{days_from_civil-day_count, day_count-day_of_year, day_count-later_year, day_count-next_year, day_count-epoch, days_of_months_table, days_of_months_mono, days_of_months_more, days_of_months_all, days_of_months-zero, days_in_month_bounds}
use Rattle.civil_time.specs.Civil.{greatest, year_of}
use Rattle.civil_time.specs.LocalTime.{change_day, first_of_month, last_of_month, weekday_from, weekday_up_to}
use Rattle.civil_time.specs.Zone.{IsChangeDate}
use Rattle.civil_time.specs.declared.zone.ChangeDate.{ChangeDate}
use Rattle.civil_time.proofs.NewYears.{new_year-1970, new_year-4000, int_le-true}

-- the years from 1970 on begin no earlier than it
pub year_from : (y : ℕ) → 1970 ≤ y → 4_371_953 ≤ day_count (pos y) 1 1
year_from y h =
    elim (cases_order y 1970) [
      | inl e ↦ rw e (omega (arith, day_count-epoch))
      | inr (inl lt) ↦ absurd (omega arith)
      | inr (inr gt) ↦ omega (arith, day_count-epoch, day_count-later_year (pos 1970) (pos y) (omega (arith, signed_arith)) (omega (arith, signed_arith)))
    ]

first_is : (y m : ℕ) → 1970 ≤ y → 1 ≤ m → first_of_month y m + 4_371_953 ≡ day_count (pos y) 1 1 + days_of_months (pos y) (m - 1)
first_is y m h k =
    omega (arith, signed_arith, one_part (days_from_civil (pos y) m 1), days_from_civil-day_count (pos y) m 1, day_count-day_of_year (pos y) m 1 (omega arith), year_from y h)

next_is : (y : ℕ) → 1970 ≤ y → day_count (pos (y + 1)) 1 1 ≡ day_count (pos y) 1 1 + days_in_year (pos y)
next_is y h = day_count-next_year (pos y) (pos (y + 1)) (omega (arith, signed_arith)) (omega (arith, signed_arith))

-- the months from February to November lie a month away from the year's ends
pub month_within : (y m : ℕ) → 1970 ≤ y → 2 ≤ m → m ≤ 11 → (first_of_month y 1 + 31 ≤ first_of_month y m) × (last_of_month y m + 32 ≤ first_of_month (y + 1) 1)
month_within y m h low high =
    let a = first_is y m h (omega arith) in
    let b = first_is y 1 h (omega arith) in
    let c = first_is (y + 1) 1 (omega arith) (omega arith) in
    let n = next_is y h in
    let january : days_of_months (pos y) 1 ≡ 31 = days_of_months_table (pos y) 1 (omega arith) in
    let later = days_of_months_mono (pos y) 1 (m - 1) (omega arith) in
    let length = days_of_months_more (pos y) m (omega arith) in
    let before = days_of_months_mono (pos y) m 11 high in
    let december = days_of_months_more (pos y) 12 (omega arith) in
    let all = days_of_months_all (pos y) in
    let z = days_of_months-zero (pos y) in
    let z' = days_of_months-zero (pos (y + 1)) in
    let some = days_in_month_bounds (pos y) m in
    (omega arith, omega (arith, days_in_month_bounds (pos y) 12))

-- and each month ends before the later ones begin
pub month_before : (y m later : ℕ) → 1970 ≤ y → 1 ≤ m → m < later → last_of_month y m < first_of_month y later
month_before y m later h low lt =
    let a = first_is y m h low in
    let b = first_is y later h (omega arith) in
    let length = days_of_months_more (pos y) m low in
    let mono = days_of_months_mono (pos y) m (later - 1) (omega arith) in
    let some = days_in_month_bounds (pos y) m in
    omega arith

-- a date of a change lies in its month
nth_in : (F length wd week : ℕ) → 28 ≤ length → wd ≤ 6 → 1 ≤ week → week ≤ 4 → (F ≤ weekday_from wd F + 7 * (week - 1)) × (weekday_from wd F + 7 * (week - 1) ≤ F + length - 1)
nth_in F length wd week a b c d = omega arith

last_in : (F length wd : ℕ) → 28 ≤ length → wd ≤ 6 → (F ≤ weekday_up_to wd (F + length - 1)) × (weekday_up_to wd (F + length - 1) ≤ F + length - 1)
last_in F length wd a b = omega arith

pub change_day-in : (date : ChangeDate) (is : IsChangeDate date) (y : ℕ) → (first_of_month y date.month ≤ change_day date y) × (change_day date y ≤ last_of_month y date.month)
change_day-in date is y =
    let length = (days_in_month_bounds (pos y) date.month).1 in
    elim (cases_order date.week 5) [
      | inl e ↦ rw e (last_in (first_of_month y date.month) (days_in_month (pos y) date.month) date.weekday length is.weekday)
      | inr (inl lt) ↦ let apart : ¬ (date.week ≡ 5) = omega arith in
          let test : nat_eq date.week 5 ≡ false = grind arith in
          rw test (nth_in (first_of_month y date.month) (days_in_month (pos y) date.month) date.weekday date.week length is.weekday is.week.0 (omega arith))
      | inr (inr gt) ↦ absurd (omega (arith, is.week))
    ]

-- the greatest number that passes a test, where one does
abbrev IsGreatest : (ℕ → Bool) → ℕ → ℕ → ℕ → Type 0
IsGreatest test n k g = (test g ≡ true) × (k ≤ g) × (g ≤ n) × ((j : ℕ) → g < j → j ≤ n → test j ≡ false)

greatest_step : (test : ℕ → Bool) (n k : ℕ) (b : Bool) → test (suc n) ≡ b → k ≤ suc n → test k ≡ true → (k ≤ n → IsGreatest test n k (greatest test n)) → IsGreatest test (suc n) k (greatest test (suc n))
unfolding greatest
greatest_step test n k true e le h before = rw e (e, le, omega arith, λ j a b. absurd (omega arith))
greatest_step test n k false e le h before =
    elim (cases_order k (suc n)) [
      | inl same ↦ absurd (both_ways (test (suc n)) e (rw same at h))
      | inr (inl lt) ↦ let found = before (omega arith) in
          rw e (
            found.0,
            found.1,
            omega (arith, found.2),
            λ j a b. elim (cases_order j (suc n)) [
              | inl same ↦ rw same e
              | inr (inl less) ↦ found.3 j a (omega arith)
              | inr (inr more) ↦ absurd (omega arith)
            ],
          )
      | inr (inr gt) ↦ absurd (omega arith)
    ]

pub greatest_found : (test : ℕ → Bool) (n k : ℕ) → k ≤ n → test k ≡ true → IsGreatest test n k (greatest test n)
unfolding greatest
greatest_found test zero k le h = let e : k ≡ 0 = omega arith in (rw e at h, omega arith, omega arith, λ j a b. absurd (omega arith))
greatest_found test (suc n) k le h = greatest_step test n k (test (suc n)) refl le h (λ less. greatest_found test n k less h)

-- a later year begins no earlier than the next
pub first_mono : (y later : ℕ) → 1970 ≤ y → y < later → first_of_month (y + 1) 1 ≤ first_of_month later 1
first_mono y later h lt =
    omega (arith, first_is (y + 1) 1 (omega arith) (omega arith), first_is later 1 (omega arith) (omega arith), next_is y h, day_count-later_year (pos y) (pos later) (omega (arith, signed_arith)) (omega (arith, signed_arith)), days_of_months-zero (pos (y + 1)), days_of_months-zero (pos later))

year_begun : (y day : ℕ) → 1970 ≤ y → int_le (days_from_civil (pos y) 1 1) (pos day) ≡ true → first_of_month y 1 ≤ day
year_begun y day h e = omega (arith, signed_arith, one_part (days_from_civil (pos y) 1 1), days_from_civil-day_count (pos y) 1 1, year_from y h)

year_not_begun : (y day : ℕ) → 1970 ≤ y → int_le (days_from_civil (pos y) 1 1) (pos day) ≡ false → day < first_of_month y 1
year_not_begun y day h e = omega (arith, signed_arith, one_part (days_from_civil (pos y) 1 1), days_from_civil-day_count (pos y) 1 1, year_from y h)

-- a year that has begun by 3999-12-31 is no later than 3999
year_up_to_3999 : (year day : ℕ) → first_of_month year 1 ≤ day → day ≤ 741_441 → year ≤ 3999
year_up_to_3999 year day begun h =
    elim (cases_order year 4000) [
      | inl e ↦ let last : first_of_month 4000 1 ≤ day = rw e at begun in absurd (omega (arith, signed_arith, new_year-4000))
      | inr (inl lt) ↦ omega arith
      | inr (inr gt) ↦ absurd (omega (arith, signed_arith, new_year-4000, first_mono 3999 year (omega arith) (omega arith)))
    ]

-- the year of a day has begun by it, and the next has not
pub year_bounds : (day : ℕ) → day ≤ 741_441 → (1970 ≤ year_of day) × (year_of day ≤ 3999) × (first_of_month (year_of day) 1 ≤ day) × (day < first_of_month (year_of day + 1) 1)
unfolding year_of
year_bounds day h =
    let begun : ℕ → Bool = λ y. int_le (days_from_civil (pos y) 1 1) (pos day) in
    let found = greatest_found begun 9999 1970 (omega arith) (int_le-true (days_from_civil (pos 1970) 1 1) (pos day) (omega (arith, signed_arith, new_year-1970))) in
    let year = greatest begun 9999 in
    let begins : first_of_month year 1 ≤ day = year_begun year day found.1 found.0 in
    let high : year ≤ 3999 = year_up_to_3999 year day begins h in
    (found.1, high, begins, year_not_begun (year + 1) day (omega (arith, found.1)) (found.3 (year + 1) (omega arith) (omega arith)))
