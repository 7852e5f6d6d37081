-- Days and instants (RFC 5545, sections 3.3.4 and 3.3.5).
use Rattle.std.specs.Prelude.{ℕ, ◌/◌, ◌%◌, ℤ, max, min, List, [], ◌∷◌, ◌++◌}
use Rattle.civil_time.specs.Civil.{year_of, month_of, day_of_month}
use Rattle.civil_time.specs.DayText.{digit}
use Rattle.civil_time.specs.LocalTime.{seconds}
use Rattle.civil_time.specs.MomentText.{two_digits}

-- a date: four digits of the year, two of the month and two of the day, as 20251201
abbrev pub digits_of_date : ℕ → ℕ → ℕ → List ℕ
digits_of_date year month day =
    digit (year / 1000) ∷ digit (year / 100) ∷ digit (year / 10) ∷ digit year
    ∷ digit (month / 10) ∷ digit month ∷ digit (day / 10) ∷ digit day ∷ []

unfoldable pub date_value : ℕ → List ℕ
date_value day = digits_of_date (year_of day) (month_of day) (day_of_month day)

-- an instant is written from 1980-01-01T00:00:00Z to 3999-12-31T23:59:59Z: one beyond, which no deadline has, as the nearest of these
unfoldable pub told : ℤ → ℕ
told at = max 315_532_800 (min 64_060_588_799 (seconds at))

-- hours, minutes and seconds of the second of a day, as 220000
abbrev pub digits_of_time : ℕ → List ℕ
digits_of_time second = two_digits (second / 3600) ++ (two_digits (second / 60 % 60) ++ two_digits (second % 60))

-- an instant in UTC: its date, T, its time and Z, as 20251201T220000Z
unfoldable pub utc_value : ℕ → List ℕ
utc_value at = date_value (at / 86_400) ++ 84 ∷ (digits_of_time (at % 86_400) ++ 90 ∷ [])
