-- The date of the day after a date that is not near the end of its month.
use Rattle.std.proofs.Common.{◌≡◌, ℕ, ◌+◌, ◌≤◌, ℤ, pos, sym, ◌∙◌, ap, arith}
use Rattle.jiff_core.specs.declared.civil.date.Date.{Date}
use Rattle.jiff_core.specs.Calendar.{days_in_month}
use Rattle.jiff_core.specs.Date.{epoch_day}
use Rattle.jiff_core.proofs.SignedLemmas.{signed_arith}
use Rattle.jiff_core.proofs.DateLemmas.{days_from_civil-day}
use Rattle.civil_time.specs.Civil.{month_of, day_of_month}
use Rattle.civil_time.proofs.DateOf.{date_of_day, month_of-is, day_of_month-is}

long_month : (year : ℤ) (month : ℕ) → 28 ≤ days_in_month year month
long_month year month = grind arith

pub next_date : (day : ℕ) → day ≤ 1_000_001 → day_of_month day ≤ 27 → (month_of (day + 1) ≡ month_of day) × (day_of_month (day + 1) ≡ day_of_month day + 1)
next_date day limit early =
    let found = date_of_day day (omega arith) in
    let date : Date = found.0 in
    let e : epoch_day date ≡ pos day = found.1 in
    let here = day_of_month-is date day e in
    let low : date.day ≤ 27 = omega (arith, here, early) in
    let long = long_month date.year date.month in
    let next : Date = record { year = date.year; month = date.month; day = date.day + 1; year_in = date.year_in; month_in = date.month_in; day_in = (omega arith, omega arith) } in
    let is : epoch_day next ≡ pos (day + 1) = omega (arith, signed_arith, e, days_from_civil-day date.year date.month date.day (date.day + 1) date.day_in.0 (omega arith)) in
    (month_of-is next (day + 1) is ∙ sym (month_of-is date day e), day_of_month-is next (day + 1) is ∙ ap (λ d. d + 1) (sym here))
