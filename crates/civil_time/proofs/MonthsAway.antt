-- Days that lie whole months apart.
use Rattle.std.proofs.Common.{◌≡◌, ◌↔◌, subst, ℕ, zero, suc, ◌+◌, ◌-◌, ◌*◌, ◌/◌, ◌%◌, ◌≤◌, min, inl, inr, ℤ, pos, neg_ℤ, ◌+ℤ◌, ◌*ℤ◌, ◌≤ℤ◌, unsigned_abs, refl, sym, ap, ◌∙◌, arith}
use Rattle.std.proofs.lemmas.Bool.{cases_lt}
use Rattle.jiff_core.specs.Calendar.{days_from_civil, days_in_month}
use Rattle.jiff_core.proofs.SignedLemmas.{signed_arith}
use Rattle.jiff_core.proofs.DateLemmas.{days_from_civil-day, days_from_civil-next_month, days_from_civil-next_year}
use Rattle.civil_time.specs.Civil.{HasYmd, IsDayNumber, year_of, month_of, day_of_month, day_at}
use Rattle.civil_time.specs.Months.{IsMonthsAfter, day_in_month, month_number, months_later, months_earlier}
use Rattle.civil_time.proofs.Years.{day_of_ymd, year_bounds, year_to_3900, year_from_2000}
use Rattle.civil_time.proofs.DateOf.{date_of_day, year_of-is, month_of-is, day_of_month-is, year_from}

-- the parts of a day, as the functions compute them
pub year_of-ymd : (day : ℕ) (year : ℤ) (month dom : ℕ) → HasYmd day year month dom → pos (year_of day) ≡ year
year_of-ymd day year month dom h = year_of-is h.0 day h.1 ∙ h.2

pub month_of-ymd : (day : ℕ) (year : ℤ) (month dom : ℕ) → HasYmd day year month dom → month_of day ≡ month
month_of-ymd day year month dom h = month_of-is h.0 day h.1 ∙ h.3

pub day_of_month-ymd : (day : ℕ) (year : ℤ) (month dom : ℕ) → HasYmd day year month dom → day_of_month day ≡ dom
day_of_month-ymd day year month dom h = day_of_month-is h.0 day h.1 ∙ h.4

-- the day of a date
pub day_at-ymd : (day year month dom : ℕ) → HasYmd day (pos year) month dom → day ≡ day_at year month dom
unfolding day_at
day_at-ymd day year month dom h =
    let e : days_from_civil (pos year) month dom ≡ pos day = rw (h.2, h.3, h.4) at h.1 in
    sym (ap unsigned_abs e)

-- the first of the n-th month from the year 0 on
abbrev first_of : ℕ → ℤ
first_of n = days_from_civil (pos (n / 12)) (n % 12 + 1) 1

long_month : (year : ℤ) (month : ℕ) → 28 ≤ days_in_month year month
long_month year month = grind arith

short_month : (year : ℤ) (month : ℕ) → days_in_month year month ≤ 31
short_month year month = grind arith

last_of_month : (year : ℤ) (month : ℕ) → days_from_civil year month (days_in_month year month) +ℤ pos 1 ≡ days_from_civil year month 1 +ℤ pos (days_in_month year month)
last_of_month year month =
    let long = long_month year month in
    omega (arith, signed_arith, days_from_civil-day year month 1 (days_in_month year month) (omega arith) (omega arith))

-- a month has 28 to 31 days
month_step : (n : ℕ) → (first_of n ≤ℤ first_of (suc n)) × (first_of (suc n) ≤ℤ (first_of n +ℤ pos 31))
month_step n =
    elim (cases_lt (n % 12) 11) [
      | inl lt ↦
          let year : suc n / 12 ≡ n / 12 = omega arith in
          let month : suc n % 12 + 1 ≡ (n % 12 + 1) + 1 = omega arith in
          let next = days_from_civil-next_month (pos (n / 12)) (n % 12 + 1) (days_in_month (pos (n / 12)) (n % 12 + 1)) (omega arith) refl in
          let last = last_of_month (pos (n / 12)) (n % 12 + 1) in
          let long = long_month (pos (n / 12)) (n % 12 + 1) in
          let short = short_month (pos (n / 12)) (n % 12 + 1) in
          rw (year, month) (omega (arith, signed_arith, next, last, long, short), omega (arith, signed_arith, next, last, long, short))
      | inr ge ↦
          let here : n % 12 + 1 ≡ 12 = omega arith in
          let year : suc n / 12 ≡ n / 12 + 1 = omega arith in
          let month : suc n % 12 + 1 ≡ 1 = omega arith in
          let next = days_from_civil-next_year (pos (n / 12)) (pos (n / 12 + 1)) (omega (arith, signed_arith)) (omega (arith, signed_arith)) in
          let last : days_from_civil (pos (n / 12)) 12 31 +ℤ pos 1 ≡ days_from_civil (pos (n / 12)) 12 1 +ℤ pos 31 = last_of_month (pos (n / 12)) 12 in
          rw (year, month, here) (omega (arith, signed_arith, next, last), omega (arith, signed_arith, next, last))
    ]

months_apart : (n k : ℕ) → (first_of n ≤ℤ first_of (n + k)) × (first_of (n + k) ≤ℤ (first_of n +ℤ pos (31 * k)))
months_apart n zero = let is : n + zero ≡ n = omega arith in rw is (omega (arith, signed_arith), omega (arith, signed_arith))
months_apart n (suc k) =
    let before = months_apart n k in
    let step = month_step (n + k) in
    let is : n + suc k ≡ suc (n + k) = omega arith in
    rw is (omega (arith, signed_arith, before, step), omega (arith, signed_arith, before, step))

-- the place of a day in its month
day_parts : (day n dom : ℕ) → HasYmd day (pos (n / 12)) (n % 12 + 1) dom → (first_of n +ℤ pos dom ≡ pos day +ℤ pos 1) × (1 ≤ dom) × (dom ≤ days_in_month (pos (n / 12)) (n % 12 + 1))
day_parts day n dom h =
    let e : days_from_civil (pos (n / 12)) (n % 12 + 1) dom ≡ pos day = rw (h.2, h.3, h.4) at h.1 in
    let some : 1 ≤ dom = rw h.4 at h.0.day_in.0 in
    let end : dom ≤ days_in_month (pos (n / 12)) (n % 12 + 1) = rw (h.2, h.3, h.4) at h.0.day_in.1 in
    (omega (arith, signed_arith, e, days_from_civil-day (pos (n / 12)) (n % 12 + 1) 1 dom (omega arith) some), some, end)

-- a day k months later, on the same day of the month or the last of a shorter one
pub later_near : (day later n k dom dom₂ : ℕ) → HasYmd day (pos (n / 12)) (n % 12 + 1) dom → HasYmd later (pos ((n + k) / 12)) ((n + k) % 12 + 1) dom₂ → dom₂ ≤ dom → dom ≤ dom₂ + 3 → (later ≤ day + 31 * k) × (day ≤ later + 3)
later_near day later n k dom dom₂ h g le near =
    let a = day_parts day n dom h in
    let b = day_parts later (n + k) dom₂ g in
    let apart = months_apart n k in
    (omega (arith, signed_arith, a.0, b.0, apart), omega (arith, signed_arith, a.0, b.0, apart))

pub earlier_near : (day earlier n k dom dom₂ : ℕ) → HasYmd day (pos ((n + k) / 12)) ((n + k) % 12 + 1) dom → HasYmd earlier (pos (n / 12)) (n % 12 + 1) dom₂ → dom₂ ≤ dom → dom ≤ dom₂ + 3 → (earlier ≤ day) × (day ≤ earlier + 31 * k + 3)
earlier_near day earlier n k dom dom₂ h g le near =
    let a = day_parts day (n + k) dom h in
    let b = day_parts earlier n dom₂ g in
    let apart = months_apart n k in
    (omega (arith, signed_arith, a.0, b.0, apart), omega (arith, signed_arith, a.0, b.0, apart))

pub same_length : (y y' : ℤ) (m m' : ℕ) → y ≡ y' → m ≡ m' → days_in_month y m ≡ days_in_month y' m'
same_length y y' m m' e f = ap (λ z. days_in_month z m) e ∙ ap (λ k. days_in_month y' k) f

-- the last day of a month is cut by three days at most
pub clamped : (day : ℕ) (year : ℤ) (month : ℕ) → 1 ≤ day → day ≤ 31 → (1 ≤ min day (days_in_month year month)) × (min day (days_in_month year month) ≤ day) × (day ≤ min day (days_in_month year month) + 3)
clamped day year month h k = let long = long_month year month in (omega arith, omega arith, omega arith)

pub dom_bounds : (day : ℕ) (year : ℤ) (month dom : ℕ) → HasYmd day year month dom → (1 ≤ dom) × (dom ≤ 31)
dom_bounds day year month dom h =
    let bounds : (1 ≤ h.0.day) × (h.0.day ≤ 31) = (h.0.day_in.0, omega (arith, h.0.day_in.1, short_month h.0.year h.0.month)) in
    rw h.4 at bounds

-- a date by the number of its month
pub by_month_number : (day n : ℕ) (y : ℤ) (m d : ℕ) → HasYmd day y m d → pos n +ℤ pos 1 ≡ pos 12 *ℤ y +ℤ pos m → HasYmd day (pos (n / 12)) (n % 12 + 1) d
by_month_number day n y m d h e =
    let first : (1 ≤ m) × (m ≤ 12) = rw h.3 at h.0.month_in in
    let from : pos (year_of day) ≡ y = year_of-ymd day y m d h in
    let sum : pos 12 *ℤ pos (year_of day) +ℤ pos m ≡ pos n +ℤ pos 1 = omega (arith, signed_arith, e, from) in
    let flat : 12 * year_of day + m ≡ n + 1 = omega (arith, signed_arith, sum) in
    let year : year_of day ≡ n / 12 = omega (arith, flat, first) in
    let month : m ≡ n % 12 + 1 = omega (arith, flat, first) in
    (h.0, h.1, h.2 ∙ sym from ∙ ap pos year, h.3 ∙ month, h.4)

-- a relation and its function: the day of a month, or its last
pub days_from-parts : (day later n months : ℕ) (shift : ℤ) → IsMonthsAfter day shift later → pos n ≡ pos (month_number day) +ℤ shift → later ≡ day_in_month n (day_of_month day)
unfolding day_in_month month_number
days_from-parts day later n months shift (y, m, d, h, y₂, m₂, d₂, g, total, clamp) e =
    let is_year = year_of-ymd day y m d h in
    let is_month = month_of-ymd day y m d h in
    let is_day = day_of_month-ymd day y m d h in
    let from = year_of-ymd later y₂ m₂ d₂ g in
    let first : 1 ≤ m = rw h.3 at h.0.month_in.0 in
    let second : (1 ≤ m₂) × (m₂ ≤ 12) = rw g.3 at g.0.month_in in
    let sum : pos 12 *ℤ pos (year_of later) +ℤ pos m₂ ≡ pos n +ℤ pos 1 = omega (arith, signed_arith, total, e, is_year, is_month, from, first) in
    let flat : 12 * year_of later + m₂ ≡ n + 1 = omega (arith, signed_arith, sum) in
    let year : year_of later ≡ n / 12 = omega (arith, flat, second) in
    let month : m₂ ≡ n % 12 + 1 = omega (arith, flat, second) in
    let same : y₂ ≡ pos (n / 12) = sym from ∙ ap pos year in
    let date : HasYmd later (pos (n / 12)) (n % 12 + 1) (min (day_of_month day) (days_in_month (pos (n / 12)) (n % 12 + 1))) =
    (g.0, g.1, g.2 ∙ same, g.3 ∙ month, g.4 ∙ clamp ∙ ap (min d) (same_length y₂ (pos (n / 12)) m₂ (n % 12 + 1) same month) ∙ ap (λ x. min x (days_in_month (pos (n / 12)) (n % 12 + 1))) (sym is_day)) in
    day_at-ymd later (n / 12) (n % 12 + 1) _ date

low : (day : ℕ) (year : ℤ) (month dom : ℕ) → HasYmd day year month dom → 1970 ≤ year_of day
low day year month dom h = omega (arith, signed_arith, year_from h.0 day h.1, year_of-is h.0 day h.1)

enough : (day months : ℕ) → 1970 ≤ year_of day → months ≤ 120 → months ≤ month_number day
unfolding month_number
enough day months h k = omega arith

-- the day is the function's value
pub months_later-is : (day months later : ℕ) → IsMonthsAfter day (pos months) later → later ≡ months_later day months
months_later-is day months later is = days_from-parts day later (month_number day + months) months (pos months) is (omega (arith, signed_arith))

pub months_earlier-is : (day months earlier : ℕ) → months ≤ 120 → IsMonthsAfter day (neg_ℤ (pos months)) earlier → earlier ≡ months_earlier day months
months_earlier-is day months earlier h is =
    let some = enough day months (low day is.0 is.1 is.2 is.3) h in
    days_from-parts day earlier (month_number day - months) months (neg_ℤ (pos months)) is (omega (arith, signed_arith))

-- months that lie in the years of days have such a day
pub day_away : (day n k : ℕ) (z : ℤ) → IsDayNumber day → pos n ≡ pos (month_number day) +ℤ z → 23_760 ≤ n → n ≤ 47_999 → (later : ℕ) × (dom : ℕ) × (dom₂ : ℕ) × IsMonthsAfter day z later × HasYmd day (pos (month_number day / 12)) (month_number day % 12 + 1) dom × HasYmd later (pos (n / 12)) (n % 12 + 1) dom₂ × (dom₂ ≤ dom) × (dom ≤ dom₂ + 3)
unfolding month_number
day_away day n k z limits e low high =
    let date = date_of_day day (omega (arith, limits)) in
    let year = date.0.year in
    let month = date.0.month in
    let dom = date.0.day in
    let ymd : HasYmd day year month dom = (date.0, date.1, refl, refl, refl) in
    let bounds = dom_bounds day year month dom ymd in
    let cut = clamped dom (pos (n / 12)) (n % 12 + 1) bounds.0 bounds.1 in
    let found = day_of_ymd (pos (n / 12)) (n % 12 + 1) (min dom (days_in_month (pos (n / 12)) (n % 12 + 1))) (omega (arith, signed_arith)) (omega (arith, signed_arith)) (omega arith) (omega arith) cut.0 (omega arith) in
    let is_year = year_of-ymd day year month dom ymd in
    let is_month = month_of-ymd day year month dom ymd in
    let sum : pos (month_number day) +ℤ pos 1 ≡ pos 12 *ℤ year +ℤ pos month = omega (arith, signed_arith, is_year, is_month, date.0.month_in) in
    let total : pos 12 *ℤ pos (n / 12) +ℤ pos (n % 12 + 1) ≡ (pos 12 *ℤ year +ℤ pos month) +ℤ z = omega (arith, signed_arith, sum, e) in (
      found.0,
      dom,
      min dom (days_in_month (pos (n / 12)) (n % 12 + 1)),
      (year, month, dom, ymd, pos (n / 12), n % 12 + 1, _, found.2, total, refl),
      by_month_number day (month_number day) year month dom ymd sum,
      found.2,
      cut.1,
      cut.2,
    )

-- the months of days
number_bounds : (day : ℕ) → IsDayNumber day → (23_760 ≤ month_number day) × (day ≤ 705_282 → month_number day ≤ 46_811) × (month_number day ≤ 47_999) × (10_957 ≤ day → 24_000 ≤ month_number day)
unfolding month_number
number_bounds day limits =
    let date = date_of_day day (omega (arith, limits)) in
    let years = year_bounds day date.0 date.1 limits in
    let is_year = year_of-is date.0 day date.1 in
    let is_month = month_of-is date.0 day date.1 in
    let months = date.0.month_in in (
      omega (arith, signed_arith, years, is_year),
      (λ h. omega (arith, signed_arith, year_to_3900 day date.0 date.1 h, is_year, is_month, months)),
      omega (arith, signed_arith, years, is_year, is_month, months),
      (λ h. omega (arith, signed_arith, year_from_2000 day date.0 date.1 h, is_year)),
    )

abbrev IsLater : ℕ → ℕ → ℕ → Type 0
IsLater day months later = IsMonthsAfter day (pos months) later × (later ≤ day + 31 * months) × (day ≤ later + 3)

abbrev IsEarlier : ℕ → ℕ → ℕ → Type 0
IsEarlier day months earlier =
    IsMonthsAfter day (neg_ℤ (pos months)) earlier × (earlier ≤ day) × (day ≤ earlier + 31 * months + 3)

by_function : (day months later : ℕ) → IsLater day months later → IsLater day months (months_later day months)
by_function day months later is = subst (IsLater day months) (months_later-is day months later is.0) is

by_function_earlier : (day months earlier : ℕ) → months ≤ 120 → IsEarlier day months earlier → IsEarlier day months (months_earlier day months)
by_function_earlier day months earlier h is = subst (IsEarlier day months) (months_earlier-is day months earlier h is.0) is

-- so the function returns such a day, near the one that is as many months away
pub months_later-finds : (day months : ℕ) → IsDayNumber day → day ≤ 705_282 → months ≤ 120 → IsMonthsAfter day (pos months) (months_later day months) × (months_later day months ≤ day + 31 * months) × (day ≤ months_later day months + 3)
months_later-finds day months limits h k =
    let bounds = number_bounds day limits in
    let high = bounds.1 h in
    let found = day_away day (month_number day + months) months (pos months) limits (omega (arith, signed_arith)) (omega (arith, bounds.0)) (omega (arith, high)) in
    let near = later_near day found.0 (month_number day) months found.1 found.2 found.4 found.5 found.6 found.7 in
    by_function day months found.0 (found.3, near.0, near.1)

pub months_earlier-finds : (day months : ℕ) → IsDayNumber day → 10_957 ≤ day → months ≤ 120 → IsMonthsAfter day (neg_ℤ (pos months)) (months_earlier day months) × (months_earlier day months ≤ day) × (day ≤ months_earlier day months + 31 * months + 3)
months_earlier-finds day months limits h k =
    let bounds = number_bounds day limits in
    let low = bounds.3 h in
    let back : month_number day - months + months ≡ month_number day = omega (arith, low) in
    let found = day_away day (month_number day - months) months (neg_ℤ (pos months)) limits (omega (arith, signed_arith, low)) (omega (arith, low)) (omega (arith, bounds.2)) in
    let near = earlier_near day found.0 (month_number day - months) months found.1 found.2 (subst (λ n. HasYmd day (pos (n / 12)) (n % 12 + 1) found.1) (sym back) found.4) found.5 found.6 found.7 in
    by_function_earlier day months found.0 k (found.3, near.0, near.1)

-- and there is no other
pub months_later-only : (day months later : ℕ) → IsDayNumber day → day ≤ 705_282 → months ≤ 120 → IsMonthsAfter day (pos months) later ↔ (later ≡ months_later day months)
months_later-only day months later limits h k = (
  λ is. months_later-is day months later is,
  λ e. subst (IsMonthsAfter day (pos months)) (sym e) (months_later-finds day months limits h k).0,
)

pub months_earlier-only : (day months earlier : ℕ) → IsDayNumber day → 10_957 ≤ day → months ≤ 120 → IsMonthsAfter day (neg_ℤ (pos months)) earlier ↔ (earlier ≡ months_earlier day months)
months_earlier-only day months earlier limits h k = (
  λ is. months_earlier-is day months earlier k is,
  λ e. subst (IsMonthsAfter day (neg_ℤ (pos months))) (sym e) (months_earlier-finds day months limits h k).0,
)
