-- How moments are written and read: YYYY-MM-DDTHH:MM+HH:00
use Rattle.std.specs.Prelude.{ℕ, ◌+◌, ◌*◌, ◌/◌, ◌%◌, ◌==◌, ◌&&◌, nat_le, if◌then◌else◌, List, [], ◌∷◌, ◌++◌, length, take, drop, Option, None, Some, ℤ, pos, negsuc, neg_ℤ, ◌-ℤ◌, ◌*ℤ◌, int_le}
use Rattle.civil_time.specs.DayText.{day_text, day_of_text}
use Rattle.civil_time.specs.LocalTime.{local_day, local_minute, offset_in_force}
use Rattle.civil_time.specs.Reading.{◌>>=◌, after, two_digits_at, clock_at}
use Rattle.civil_time.specs.Zone.{ZoneRules}

-- two digits
abbrev pub two_digits : ℕ → List ℕ
two_digits n = (48 + n / 10) ∷ (48 + n % 10) ∷ []

-- HH:MM of the minutes after 00:00
abbrev pub clock_text : ℕ → List ℕ
clock_text minute = two_digits (minute / 60) ++ 58 ∷ two_digits (minute % 60)

-- whole hours, HH:00
abbrev pub hours_text : ℕ → List ℕ
hours_text hours = two_digits hours ++ 58 ∷ 48 ∷ 48 ∷ []

-- an offset: +HH:00, or -HH:00 where it is less than 0
abbrev pub offset_text : ℤ → List ℕ
offset_text (pos hours) = 43 ∷ hours_text hours
offset_text (negsuc hours) = 45 ∷ hours_text (hours + 1)

-- the text of an instant in a zone: local time, rounded down to the minute, and the offset then in force
unfoldable pub moment_text : ZoneRules → ℕ → List ℕ
moment_text zone instant =
    day_text (local_day zone instant)
    ++ (84 ∷ (clock_text (local_minute zone instant) ++ offset_text (offset_in_force zone instant)))

-- the day that the first ten bytes spell
abbrev pub date_at : List ℕ → Option (ℕ × List ℕ)
date_at text =
    if nat_le 10 (length text) then (day_of_text (take 10 text) >>= λ day. Some (day, drop 10 text)) else None

-- up to 13 whole hours
abbrev pub whole_hours_at : (ℕ → ℤ) → List ℕ → Option (ℤ × List ℕ)
whole_hours_at sign text = do
  hours ← two_digits_at text
  text ← after 58 hours.1
  text ← after 48 text
  text ← after 48 text
  if nat_le hours.0 13 then Some (sign hours.0, text) else None

-- the hours ahead of Greenwich: a sign, two digits and :00
abbrev pub offset_at : List ℕ → Option (ℤ × List ℕ)
offset_at [] = None
offset_at (first ∷ rest) =
    if first == 43 then whole_hours_at pos rest
    else (if first == 45 then whole_hours_at (λ hours. neg_ℤ (pos hours)) rest else None)

-- from 1980-01-03T00:00Z to 3999-12-29T00:00Z
abbrev pub in_limits : ℤ → Option ℤ
in_limits at = if int_le (pos 315_705_600) at && int_le at (pos 64_060_329_600) then Some at else None

-- the instant that a text spells
abbrev pub moment_at : List ℕ → Option ℤ
moment_at text = do
  date ← date_at text
  text ← after 84 date.1
  clock ← clock_at text
  offset ← offset_at clock.1
  if length offset.1 == 0 then in_limits (pos (86_400 * date.0 + 60 * clock.0) -ℤ pos 3600 *ℤ offset.0) else None
