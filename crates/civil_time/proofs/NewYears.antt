-- The days on which years begin.
use Rattle.std.proofs.Common.{◌≡◌, ℕ, ◌≤◌, inl, true, ℤ, pos, ◌≤ℤ◌, ◌<ℤ◌, int_le, refl, ap, ◌∙◌, arith, rules}
use Rattle.std.proofs.lemmas.Int.{ints, by_lt_z}
use Rattle.jiff_core.specs.declared.civil.date.Date.{Date}
use Rattle.jiff_core.specs.Calendar.{days_from_civil}
use Rattle.jiff_core.specs.Date.{epoch_day}
use Rattle.jiff_core.proofs.SignedLemmas.{signed_arith}
use Rattle.jiff_core.proofs.MarchLemmas.{day_count-early}
use Rattle.jiff_core.proofs.DateLemmas.{epoch_day-lt, epoch_day-ordinal}
use Rattle.jiff_core.proofs.CalendarLemmas.{days_from_civil-day_count, day_count-epoch}

-- 1 January
new_year_date : (year : ℕ) → year ≤ 9999 → Date
new_year_date year h = record { year = pos year; month = 1; day = 1; year_in = omega (arith, signed_arith); month_in = search rules; day_in = search rules }

new_year_date-epoch_day : (year : ℕ) (h : year ≤ 9999) → epoch_day (new_year_date year h) ≡ days_from_civil (pos year) 1 1
unfolding new_year_date
new_year_date-epoch_day year h = refl

new_year_date-year : (year : ℕ) (h : year ≤ 9999) → (new_year_date year h).year ≡ pos year
unfolding new_year_date
new_year_date-year year h = refl

-- two of those days
pub new_year-4000 : days_from_civil (pos 4000) 1 1 ≡ pos 741_442
new_year-4000 = omega (arith, signed_arith, days_from_civil-day_count, day_count-early (pos 4000) 13999 1 1 refl (omega arith) (omega arith) (omega arith))

pub new_year-1970 : days_from_civil (pos 1970) 1 1 ≡ pos 0
new_year-1970 = omega (arith, signed_arith, days_from_civil-day_count, day_count-epoch)

-- the year begins with or before its dates, and no later year does
begun : (date : Date) → days_from_civil date.year 1 1 ≤ℤ epoch_day date
begun date = omega (arith, signed_arith, epoch_day-ordinal date, date.day_in)

not_begun : (date : Date) (year : ℕ) → year ≤ 9999 → date.year <ℤ pos year → epoch_day date <ℤ days_from_civil (pos year) 1 1
not_begun date year h lt =
    let earlier : date.year <ℤ (new_year_date year h).year = rw (new_year_date-year year h) lt in
    let before = epoch_day-lt date (new_year_date year h) (inl earlier) in
    rw (new_year_date-epoch_day year h) at before

-- the order as a test
pub int_le-true : (a b : ℤ) → a ≤ℤ b → int_le a b ≡ true
int_le-true a b h = grind (arith, ints)

-- a date of a year from this one on is no earlier than its beginning
new_year_mono : (year : ℕ) (date : Date) → pos year ≤ℤ date.year → year ≤ 9999 → days_from_civil (pos year) 1 1 ≤ℤ epoch_day date
new_year_mono year date le h =
    by_lt_z (pos year) date.year
    (λ lt. let before = epoch_day-lt (new_year_date year h) date (inl (rw (new_year_date-year year h) lt)) in
    let shown = rw (new_year_date-epoch_day year h) at before in omega (arith, signed_arith))
    (λ ge. let same : pos year ≡ date.year = omega (arith, signed_arith) in rw same (begun date))

-- a date's year is from 1970 to 3999 where its day number is
pub year_within : (date : Date) (day : ℕ) → epoch_day date ≡ pos day → day ≤ 741_441 → (pos 1970 ≤ℤ date.year) × (date.year <ℤ pos 4000)
year_within date day e h = (
  by_lt_z date.year (pos 1970)
      (λ lt. absurd (omega (arith, signed_arith, not_begun date 1970 (omega arith) lt, new_year-1970)))
      (λ ge. ge),
  by_lt_z date.year (pos 4000) (λ lt. lt)
      (λ ge. absurd (omega (arith, signed_arith, new_year_mono 4000 date ge (omega arith), new_year-4000))),
)

-- the first of a date's month
first_of : Date → Date
first_of d = record { year = d.year; month = d.month; day = 1; year_in = d.year_in; month_in = d.month_in; day_in = (omega arith, omega (arith, d.day_in)) }

first_of-epoch_day : (d : Date) → epoch_day (first_of d) ≡ days_from_civil d.year d.month 1
unfolding first_of
first_of-epoch_day d = refl

first_of-year : (d : Date) → (first_of d).year ≡ d.year
unfolding first_of
first_of-year d = refl

-- the months after January 1970 have no negative day numbers
pub not_negative : (first : Date) (year : ℕ) → first.year ≡ pos year → 1970 ≤ year → year ≤ 3999 → 2 ≤ first.month → pos 0 ≤ℤ days_from_civil (pos year) first.month 1
not_negative first year y low high month =
    let at : first.year ≡ pos year → pos 1970 ≤ℤ first.year = λ e. omega (arith, signed_arith) in
    let begins = new_year_mono 1970 (first_of first) (rw (first_of-year first) (at y)) (omega arith) in
    let is : epoch_day (first_of first) ≡ days_from_civil (pos year) first.month 1 = first_of-epoch_day first ∙ ap (λ (z : ℤ). days_from_civil z first.month 1) y in
    let low : pos 0 ≤ℤ epoch_day (first_of first) = omega (arith, signed_arith, begins, new_year-1970) in
    rw is at low
