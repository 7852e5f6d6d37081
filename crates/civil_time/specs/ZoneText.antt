-- How the text of a zone is read: NAMEh or NAMEhNAME,Mm.w.d,Mm.w.d
use Rattle.std.specs.Prelude.{ℕ, ◌+◌, ◌*◌, ◌==◌, Bool, ◌&&◌, ◌||◌, not, nat_le, if◌then◌else◌, List, [], ◌∷◌, length, drop, Option, None, Some, ℤ, pos, neg_ℤ}
use Rattle.std.specs.List.{prefix_len}
use Rattle.civil_time.specs.declared.zone.ChangeDate.{ChangeDate}
use Rattle.civil_time.specs.declared.zone.SummerTime.{SummerTime}
use Rattle.civil_time.specs.Reading.{◌>>=◌, after, digit_at}
use Rattle.civil_time.specs.Zone.{ZoneRules}

-- an ASCII letter
abbrev pub is_letter : ℕ → Bool
is_letter byte = (nat_le 65 byte && nat_le byte 90) || (nat_le 97 byte && nat_le byte 122)

-- what follows a name of three to six letters
abbrev pub after_name : List ℕ → Option (List ℕ)
after_name text =
    let letters = prefix_len is_letter text in
    if nat_le 3 letters && nat_le letters 6 then Some (drop letters text) else None

-- the value of one or two digits
abbrev pub with_second : ℕ → List ℕ → Option (ℕ × List ℕ) → Option (ℕ × List ℕ)
with_second tens rest None = Some (tens, rest)
with_second tens rest (Some ones) = Some (10 * tens + ones.0, ones.1)

abbrev pub digits_at : List ℕ → Option (ℕ × List ℕ)
digits_at text = do
  first ← digit_at text
  with_second first.0 first.1 (digit_at first.1)

-- the hours west of Greenwich: up to 12, and less than 0 after a minus
abbrev pub up_to_12 : (ℕ → ℤ) → ℕ × List ℕ → Option (ℤ × List ℕ)
up_to_12 sign hours = if nat_le hours.0 12 then Some (sign hours.0, hours.1) else None

abbrev pub hours_at : List ℕ → Option (ℤ × List ℕ)
hours_at [] = None
hours_at (first ∷ rest) =
    if first == 45 then digits_at rest >>= up_to_12 (λ hours. neg_ℤ (pos hours))
    else (if first == 43 then digits_at rest >>= up_to_12 pos else digits_at (first ∷ rest) >>= up_to_12 pos)

-- a month from 2 to 11, without a leading zero
abbrev pub month_at : List ℕ → Option (ℕ × List ℕ)
month_at text = do
  first ← digit_at text
  if first.0 == 1 then (digit_at first.1 >>= λ second. if nat_le second.0 1 then Some (10 + second.0, second.1) else None)
      else (if nat_le 2 first.0 then Some first else None)

-- a date of a clock change, after a comma
abbrev pub change_at : List ℕ → Option (ChangeDate × List ℕ)
change_at text = do
  text ← after 44 text
  text ← after 77 text
  month ← month_at text
  text ← after 46 month.1
  week ← digit_at text
  text ← after 46 week.1
  weekday ← digit_at text
  if (nat_le 1 week.0 && nat_le week.0 5) && nat_le weekday.0 6
      then Some (record { month = month.0; week = week.0; weekday = weekday.0 }, weekday.1) else None

-- two months are neither equal nor neighbours
abbrev pub are_apart : ℕ → ℕ → Bool
are_apart first second = not (first == second) && not (first + 1 == second) && not (first == second + 1)

-- the two dates of the clock changes, after a name
abbrev pub summer_at : List ℕ → Option SummerTime
summer_at text = do
  text ← after_name text
  begins ← change_at text
  ends ← change_at begins.1
  if (length ends.1 == 0) && are_apart begins.0.month ends.0.month
      then Some (record { begins = begins.0; ends = ends.0 }) else None

-- the zone that a text spells
abbrev pub zone_at : List ℕ → Option ZoneRules
zone_at text = do
  text ← after_name text
  hours ← hours_at text
  if length hours.1 == 0 then Some (record { hours_west = hours.0; summer = None })
      else (summer_at hours.1 >>= λ summer. Some (record { hours_west = hours.0; summer = Some summer }))
