-- What a text begins with. Each reader returns a value and what follows it, or nothing.
use Rattle.std.specs.Prelude.{ℕ, ◌+◌, ◌-◌, ◌*◌, ◌==◌, Bool, ◌&&◌, nat_le, if◌then◌else◌, List, [], ◌∷◌, length, Option, None, Some}

-- one reader after another
infixl 10 ◌>>=◌
abbrev pub ◌>>=◌ : {A B : Type 0} → Option A → (A → Option B) → Option B
None >>= f = None
(Some x) >>= f = f x

abbrev pub is_digit : ℕ → Bool
is_digit byte = nat_le 48 byte && nat_le byte 57

-- what follows the byte
abbrev pub after : ℕ → List ℕ → Option (List ℕ)
after byte [] = None
after byte (first ∷ rest) = if first == byte then Some rest else None

-- the value of a digit
abbrev pub digit_at : List ℕ → Option (ℕ × List ℕ)
digit_at [] = None
digit_at (first ∷ rest) = if is_digit first then Some (first - 48, rest) else None

-- the value of two digits
abbrev pub two_digits_at : List ℕ → Option (ℕ × List ℕ)
two_digits_at text = do
  tens ← digit_at text
  ones ← digit_at tens.1
  Some (10 * tens.0 + ones.0, ones.1)

-- a time of day, spelled HH:MM, as minutes after 00:00
abbrev pub clock_at : List ℕ → Option (ℕ × List ℕ)
clock_at text = do
  hour ← two_digits_at text
  text ← after 58 hour.1
  minute ← two_digits_at text
  if nat_le hour.0 23 && nat_le minute.0 59 then Some (60 * hour.0 + minute.0, minute.1) else None

-- a text that is a time of day from 00:00 to 23:59 and nothing more
abbrev pub time_of_day_at : List ℕ → Option ℕ
time_of_day_at text = do
  clock ← clock_at text
  if length clock.1 == 0 then Some clock.0 else None
