-- The texts of dates and instants are ASCII, and the instants that are written.
use Rattle.std.proofs.Common.{◌≡◌, ℕ, ◌+◌, ◌*◌, ◌/◌, ◌%◌, ◌<◌, ◌≤◌, [], ◌∷◌, ◌++◌, IsUtf8, refl, sym, ℤ, pos, negsuc, unsigned_abs, ◌<ℤ◌, ◌≤ℤ◌, arith}
use Rattle.std.proofs.lemmas.Int.{ints}
use Rattle.std.proofs.lemmas.Str.{IsUtf8-append, IsUtf8-from_ascii}
use Rattle.civil_time.specs.Civil.{HasYmd, year_of, month_of, day_of_month}
use Rattle.civil_time.specs.MomentText.{two_digits}
use Rattle.civil_time.proofs.DateOf.{date_of_day, year_of-is, month_of-is, day_of_month-is}
use Rattle.civil_time.proofs.Written.{ascii_from}
use Rattle.icalendar.specs.Times.{digits_of_date, date_value, told, digits_of_time, utc_value}

digit_small : (n : ℕ) → 48 + n % 10 < 128
digit_small n = omega arith

pub date_value-utf8 : (day : ℕ) → IsUtf8 (date_value day)
unfolding date_value
date_value-utf8 day =
    IsUtf8-from_ascii _ (ascii_from (digits_of_date (year_of day) (month_of day) (day_of_month day))
    (digit_small _, (digit_small _, (digit_small _, (digit_small _, (digit_small _, (digit_small _, (digit_small _, (digit_small _, tt)))))))))

pub digits_of_time-utf8 : (second : ℕ) → second < 86_400 → IsUtf8 (digits_of_time second)
digits_of_time-utf8 second h =
    IsUtf8-from_ascii _ (ascii_from (digits_of_time second)
    (omega arith, (digit_small _, (omega arith, (digit_small _, (omega arith, (digit_small _, tt)))))))

pub utc_value-utf8 : (at : ℕ) → IsUtf8 (utc_value at)
unfolding utc_value
utc_value-utf8 at =
    let second : at % 86_400 < 86_400 = omega arith in
    IsUtf8-append (date_value (at / 86_400)) (84 ∷ (digits_of_time (at % 86_400) ++ 90 ∷ [])) (date_value-utf8 (at / 86_400))
    (IsUtf8-append (84 ∷ []) (digits_of_time (at % 86_400) ++ 90 ∷ []) (IsUtf8-from_ascii _ (ascii_from (84 ∷ []) (omega arith, tt)))
    (IsUtf8-append (digits_of_time (at % 86_400)) (90 ∷ []) (digits_of_time-utf8 (at % 86_400) second) (IsUtf8-from_ascii _ (ascii_from (90 ∷ []) (omega arith, tt)))))

-- the date of a day, and the time of an instant
pub date_means : (day : ℕ) → day ≤ 2_932_896 → (year : ℕ) × (month : ℕ) × (day_of_month : ℕ) × HasYmd day (pos year) month day_of_month × (date_value day ≡ digits_of_date year month day_of_month)
unfolding date_value
date_means day limit =
    let date = date_of_day day limit in (
      year_of day,
      month_of day,
      day_of_month day,
      (date.0, date.1, sym (year_of-is date.0 day date.1), sym (month_of-is date.0 day date.1), sym (day_of_month-is date.0 day date.1)),
      refl,
    )

pub utc_means : (at : ℕ) → (hour : ℕ) × (minute : ℕ) × (second : ℕ) × (hour < 24) × (minute < 60) × (second < 60) × (at ≡ 86_400 * (at / 86_400) + 3600 * hour + 60 * minute + second) × (utc_value at ≡ date_value (at / 86_400) ++ 84 ∷ (two_digits hour ++ (two_digits minute ++ (two_digits second ++ 90 ∷ []))))
unfolding utc_value
utc_means at = (at % 86_400 / 3600, at % 86_400 / 60 % 60, at % 86_400 % 60, omega arith, omega arith, omega arith, omega arith, refl)

-- where an instant lies, as the code finds it
pub told-early : (at : ℤ) → at <ℤ pos 315_532_800 → 315_532_800 ≡ told at
unfolding told
told-early (pos n) h = omega (arith, ints)
told-early (negsuc n) h = omega (arith, ints)

pub told-late : (at : ℤ) → pos 64_060_588_799 <ℤ at → 64_060_588_799 ≡ told at
unfolding told
told-late (pos n) h = omega (arith, ints)
told-late (negsuc n) h = absurd (omega (arith, ints))

pub told-itself : (at : ℤ) → pos 315_532_800 ≤ℤ at → at ≤ℤ pos 64_060_588_799 → unsigned_abs at ≡ told at
unfolding told
told-itself (pos n) low high = omega (arith, ints)
told-itself (negsuc n) low high = absurd (omega (arith, ints))

pub told-same : (at : ℕ) → 315_532_800 ≤ at → at ≤ 64_060_588_799 → told (pos at) ≡ at
unfolding told
told-same at low high = omega arith
