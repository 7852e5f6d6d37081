-- The days of a year are those whose date has that year.
use Rattle.std.proofs.Common.{◌≡◌, ◌↔◌, ℕ, ◌+◌, ◌-◌, ◌<◌, ◌≤◌, ℤ, pos, unsigned_abs, refl, sym, ap, ◌∙◌, arith, Contains}
use Rattle.std.proofs.lemmas.List.FromFn.{length-range_with_len, get_or-range_with_len}
use Rattle.std.specs.List.Sorted.{IsStrictlyIncreasing}
use Rattle.jiff_core.specs.Calendar.{day_count, days_from_civil, days_in_year}
use Rattle.jiff_core.proofs.SignedLemmas.{signed_arith}
use Rattle.jiff_core.proofs.CalendarLemmas.{days_from_civil-day_count, day_count-later_year, day_count-next_year, day_count-day_of_year, day_of_year_bound, day_count-year_is, day_count-year_bounds}
use Rattle.jiff_core.proofs.MarchLemmas.{day_count-early}
use Rattle.civil_time.specs.Civil.{day_at}
use Rattle.civil_time.proofs.DateOf.{date_of_day}
use Rattle.civil_time.proofs.MonthDays.{year_from}
use Rattle.docket_text.specs.HolidayTexts.{days_of_year, IsOfYear}

whole : (z : ℤ) (n : ℕ) → z ≡ pos n → unsigned_abs z ≡ n
whole z n e = ap unsigned_abs e

new_year : (year : ℕ) → 1970 ≤ year → day_at year 1 1 + 4_371_953 ≡ day_count (pos year) 1 1
unfolding day_at
new_year year low =
    let count = days_from_civil-day_count (pos year) 1 1 in
    let enough = year_from year low in
    let is : days_from_civil (pos year) 1 1 ≡ pos (day_count (pos year) 1 1 - 4_371_953) = omega (arith, signed_arith, count, enough) in
    omega (arith, whole _ _ is, enough)

module _ (year : ℕ) (low : 1970 ≤ year) (high : year ≤ 9998) where
  -- a year ends where the next begins
  ends : day_at (year + 1) 1 1 ≡ day_at year 1 1 + days_in_year (pos year)
  ends =
      omega (arith, new_year year low, new_year (year + 1) (omega arith), day_count-next_year (pos year) (pos (year + 1)) (omega (arith, signed_arith)) (omega (arith, signed_arith)))

  within : (day : ℕ) → IsOfYear year day → (day_at year 1 1 ≤ day) × (day < day_at (year + 1) 1 1)
  within day (month, dom, (date, is, same, _, _)) =
      let y = date.year in
      let count : day + 4_371_953 ≡ day_count y date.month date.day = omega (arith, signed_arith, is, days_from_civil-day_count y date.month date.day) in
      let place = day_count-day_of_year y date.month date.day date.day_in.0 in
      let bound = day_of_year_bound y date.month date.day (date.year_in, date.month_in, date.day_in) in
      let first : day_at year 1 1 + 4_371_953 ≡ day_count y 1 1 = rw same (new_year year low) in
      let next : day_at (year + 1) 1 1 ≡ day_at year 1 1 + days_in_year y = rw same ends in
      (omega (arith, count, place, first, date.day_in.0), omega (arith, count, place, bound, first, next))

  -- and it ends before 9999-12-31
  last_day : day_at (year + 1) 1 1 ≤ 2_932_897
  last_day = omega (arith, new_year (year + 1) (omega arith), day_count-year_bounds (pos (year + 1)) (omega (arith, signed_arith)))

  among : (day : ℕ) → day_at year 1 1 ≤ day → day < day_at (year + 1) 1 1 → IsOfYear year day
  among day le lt =
      let begins = new_year year low in
      let length = ends in
      let late : day ≤ 2_932_896 = omega (arith, lt, last_day) in
      let found = date_of_day day late in
      let date = found.0 in
      let count : day + 4_371_953 ≡ day_count date.year date.month date.day = omega (arith, signed_arith, found.1, days_from_civil-day_count date.year date.month date.day) in
      let same = day_count-year_is (pos year) date.year date.month date.day (omega (arith, signed_arith)) (date.year_in, date.month_in, date.day_in) (omega arith) (omega arith) in
      (date.month, date.day, (date, found.1, same, refl, refl))

  -- the list of them
  pub days : (day : ℕ) → Contains (days_of_year year) day ↔ IsOfYear year day
  days day =
      let first = day_at year 1 1 in
      let count = day_at (year + 1) 1 1 - first in (
        λ (k, lt, is).
            let inside : k < count = rw (length-range_with_len first count) at lt in
            let at : first + k ≡ day = sym (get_or-range_with_len first count k day inside) ∙ is in
            among day (omega arith) (omega arith),
        λ of_year.
            let place = within day of_year in
            let inside : day - first < count = omega arith in
            let at : first + (day - first) ≡ day = omega arith in
            (day - first, rw (length-range_with_len first count) inside, get_or-range_with_len first count (day - first) day inside ∙ at),
      )

pub days_of_year-rise : (year : ℕ) → IsStrictlyIncreasing (days_of_year year)
days_of_year-rise year k lt =
    let first = day_at year 1 1 in
    let count = day_at (year + 1) 1 1 - first in
    let inside : k + 1 < count = rw (length-range_with_len first count) at lt in
    let here = get_or-range_with_len first count k 0 (omega arith) in
    let next = get_or-range_with_len first count (k + 1) 0 inside in
    rw (here, next) (omega arith)

-- a day of a year up to 2099 is one that the tests decide
pub small : (year day : ℕ) → 1970 ≤ year → year ≤ 2099 → IsOfYear year day → day ≤ 1_000_000
small year day low high of_year =
    let after = (within year low (omega arith) day of_year).1 in
    let next = new_year (year + 1) (omega arith) in
    let bound = day_count-later_year (pos (year + 1)) (pos 2101) (omega (arith, signed_arith)) (omega (arith, signed_arith)) in
    omega (arith, after, next, bound, day_count-early (pos 2101) 12100 1 1 refl (omega arith) (omega arith) (omega arith))
