-- How days are spelled: the year, the month and the day of the month, as 2025-12-31.
use Rattle.std.specs.Prelude.{◌≡◌, ℕ, ◌+◌, ◌/◌, ◌%◌, List, [], ◌∷◌, pos, Option, Some, None, nat_le, if◌then◌else◌}
use Rattle.std.specs.Str.{bytes_eq}
use Rattle.civil_time.specs.Civil.{HasYmd, greatest, year_of, month_of, day_of_month}

-- the last digit of a number
abbrev pub digit : ℕ → ℕ
digit n = 48 + n % 10

-- four, two and two digits, with dashes between them
abbrev pub date_text : ℕ → ℕ → ℕ → List ℕ
date_text year month day =
    digit (year / 1000) ∷ digit (year / 100) ∷ digit (year / 10) ∷ digit year ∷ 45
    ∷ digit (month / 10) ∷ digit month ∷ 45 ∷ digit (day / 10) ∷ digit day ∷ []

-- the text is the day's date
abbrev pub SpellsDay : List ℕ → ℕ → Type 0
SpellsDay text day =
    (year : ℕ) × (month : ℕ) × (day_of_month : ℕ) × HasYmd day (pos year) month day_of_month × (text ≡ date_text year month day_of_month)

-- the text of a day
unfoldable pub day_text : ℕ → List ℕ
day_text day = date_text (year_of day) (month_of day) (day_of_month day)

-- the day whose text it is, if it is one from 1980-01-01 (3652) to 3999-12-31 (741,441)
unfoldable pub day_of_text : List ℕ → Option ℕ
day_of_text text =
    let day = greatest (λ day. bytes_eq text (day_text day)) 741_441 in
    if nat_le 3652 day then Some day else None
