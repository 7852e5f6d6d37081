-- Days that lie whole months apart: on the same day of the month, or on the last day of a shorter month.
use Rattle.std.specs.Prelude.{◌≡◌, ℕ, ◌+◌, ◌-◌, ◌*◌, ◌/◌, ◌%◌, min, ℤ, pos, ◌+ℤ◌, ◌*ℤ◌}
use Rattle.jiff.specs.Words.{days_in_month}
use Rattle.civil_time.specs.Civil.{HasYmd, year_of, month_of, day_of_month, day_at}

-- `later` is that many months after the day (before it, where the number is negative), on the same day of the month, or on the last of a shorter one
abbrev pub IsMonthsAfter : ℕ → ℤ → ℕ → Type 0
IsMonthsAfter day months later =
    (y : ℤ) × (m : ℕ) × (d : ℕ) × HasYmd day y m d
    × (y₂ : ℤ) × (m₂ : ℕ) × (d₂ : ℕ) × HasYmd later y₂ m₂ d₂
    × (pos 12 *ℤ y₂ +ℤ pos m₂ ≡ (pos 12 *ℤ y +ℤ pos m) +ℤ months)
    × (d₂ ≡ min d (days_in_month y₂ m₂))

-- the number of a day's month, where January of the year 0 is 0
unfoldable pub month_number : ℕ → ℕ
month_number day = year_of day * 12 + (month_of day - 1)

-- the day of a numbered month that has this day of the month, or its last day where it has fewer
unfoldable pub day_in_month : ℕ → ℕ → ℕ
day_in_month number day =
    let year = number / 12 in
    let month = number % 12 + 1 in
    day_at year month (min day (days_in_month (pos year) month))

-- the day that many months later
abbrev pub months_later : ℕ → ℕ → ℕ
months_later day months = day_in_month (month_number day + months) (day_of_month day)

-- the day that many months earlier
abbrev pub months_earlier : ℕ → ℕ → ℕ
months_earlier day months = day_in_month (month_number day - months) (day_of_month day)
