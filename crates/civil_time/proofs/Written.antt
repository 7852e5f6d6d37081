-- What is written of a moment.
use Rattle.std.proofs.Common.{◌≡◌, ℕ, ◌+◌, ◌-◌, ◌*◌, ◌/◌, ◌%◌, ◌<◌, ◌≤◌, List, [], ◌∷◌, ◌++◌, ℤ, pos, negsuc, ◌+ℤ◌, ◌-ℤ◌, ◌*ℤ◌, refl, arith}
use Rattle.std.specs.Str.{IsAscii, IsUtf8}
use Rattle.std.proofs.lemmas.Str.{IsAscii-append, IsUtf8-from_ascii}
use Rattle.std.proofs.lemmas.Str.Ascii.{IsAscii-nil, IsAscii-cons}
use Rattle.jiff_core.specs.Calendar.{IsBetween}
use Rattle.jiff_core.proofs.SignedLemmas.{signed_arith, one_part}
use Rattle.civil_time.specs.Civil.{year_of, month_of, day_of_month}
use Rattle.civil_time.specs.DayText.{date_text, day_text}
use Rattle.civil_time.specs.Zone.{ZoneRules, IsZone}
use Rattle.civil_time.specs.LocalTime.{offset_in_force, local_time, local_day, local_minute, IsInstant}
use Rattle.civil_time.specs.MomentText.{two_digits, clock_text, hours_text, offset_text, moment_text}
use Rattle.civil_time.specs.MomentGrammar.{SpellsOffset, plus, minus, SpellsMoment}
use Rattle.civil_time.proofs.DayTexts.{spells-text}
use Rattle.civil_time.proofs.LocalTimeLemmas.{local_near, local_time-offset, offset_bounds}

-- the text of an offset spells it
offset_text-spells : (z : ℤ) → IsBetween (negsuc 12) (pos 13) z → SpellsOffset z (offset_text z)
offset_text-spells (pos n) h = plus n (omega (arith, signed_arith)) refl refl
offset_text-spells (negsuc n) h = minus (n + 1) (omega (arith, signed_arith)) (omega (arith, signed_arith)) refl

-- the whole minutes of an instant are those of its local time
whole_minutes : (local instant : ℕ) (hours : ℤ) → pos local ≡ pos instant +ℤ pos 3600 *ℤ hours
    → pos (instant - instant % 60) ≡ pos (86_400 * (local / 86_400) + 60 * (local % 86_400 / 60)) -ℤ pos 3600 *ℤ hours
whole_minutes local instant hours e = omega (arith, signed_arith, one_part hours)

-- the text of a moment spells it, rounded down to the minute
pub moment_text-spells : (zone : ZoneRules) (is : IsZone zone) (instant : ℕ) → IsInstant instant → SpellsMoment (pos (instant - instant % 60)) (moment_text zone instant)
unfolding moment_text
moment_text-spells zone is instant h =
    let near = local_near zone is instant (omega (arith, h)) in
    let day_in : (3652 ≤ local_day zone instant) × (local_day zone instant ≤ 741_441) = omega (arith, h, near) in
    let offset = local_time-offset zone is instant (omega (arith, h)) in
    record {
      day = local_day zone instant;
      minute = local_minute zone instant;
      hours = offset_in_force zone instant;
      date = day_text (local_day zone instant);
      clock = clock_text (local_minute zone instant);
      offset = offset_text (offset_in_force zone instant);
      is = refl;
      is_day = (day_in, spells-text (local_day zone instant) (omega (arith, day_in)));
      is_clock = (omega arith, refl);
      is_offset = offset_text-spells (offset_in_force zone instant) (offset_bounds zone is instant);
      is_at = whole_minutes (local_time zone instant) instant (offset_in_force zone instant) offset;
      limits = omega (arith, h);
    }

-- and is ASCII
abbrev pub AreSmall : List ℕ → Type 0
AreSmall [] = Unit {0}
AreSmall (x ∷ xs) = (x < 128) × AreSmall xs

pub ascii_from : (bs : List ℕ) → AreSmall bs → IsAscii bs
ascii_from [] h = IsAscii-nil
ascii_from (x ∷ xs) h = IsAscii-cons x xs h.0 (ascii_from xs h.1)

digit_small : (n : ℕ) → 48 + n % 10 < 128
digit_small n = omega arith

date_text-ascii : (year month day : ℕ) → IsAscii (date_text year month day)
date_text-ascii year month day =
    ascii_from (date_text year month day)
    (digit_small _, (digit_small _, (digit_small _, (digit_small _, (omega arith, (digit_small _, (digit_small _, (omega arith, (digit_small _, (digit_small _, tt))))))))))

day_text-ascii : (day : ℕ) → IsAscii (day_text day)
unfolding day_text
day_text-ascii day = date_text-ascii (year_of day) (month_of day) (day_of_month day)

pub day_text-utf8 : (day : ℕ) → IsUtf8 (day_text day)
day_text-utf8 day = IsUtf8-from_ascii _ (day_text-ascii day)

two_digits-ascii : (n : ℕ) → n < 100 → IsAscii (two_digits n)
two_digits-ascii n h = ascii_from (two_digits n) (omega arith, (digit_small n, tt))

clock_text-ascii : (minute : ℕ) → minute < 1440 → IsAscii (clock_text minute)
clock_text-ascii minute h =
    IsAscii-append (two_digits (minute / 60)) (58 ∷ two_digits (minute % 60)) (two_digits-ascii (minute / 60) (omega arith))
    (IsAscii-cons 58 (two_digits (minute % 60)) (omega arith) (two_digits-ascii (minute % 60) (omega arith)))

pub clock_text-utf8 : (minute : ℕ) → minute < 1440 → IsUtf8 (clock_text minute)
clock_text-utf8 minute h = IsUtf8-from_ascii _ (clock_text-ascii minute h)

hours_text-ascii : (n : ℕ) → n ≤ 13 → IsAscii (hours_text n)
hours_text-ascii n h = IsAscii-append (two_digits n) (58 ∷ 48 ∷ 48 ∷ []) (two_digits-ascii n (omega arith)) (ascii_from (58 ∷ 48 ∷ 48 ∷ []) (omega arith, (omega arith, (omega arith, tt))))

offset_text-ascii : (z : ℤ) → IsBetween (negsuc 12) (pos 13) z → IsAscii (offset_text z)
offset_text-ascii (pos n) h = IsAscii-cons 43 (hours_text n) (omega arith) (hours_text-ascii n (omega (arith, signed_arith)))
offset_text-ascii (negsuc n) h = IsAscii-cons 45 (hours_text (n + 1)) (omega arith) (hours_text-ascii (n + 1) (omega (arith, signed_arith)))

pub moment_text-utf8 : (zone : ZoneRules) (is : IsZone zone) (instant : ℕ) → IsUtf8 (moment_text zone instant)
unfolding moment_text
moment_text-utf8 zone is instant =
    let clock = clock_text (local_minute zone instant) in
    let offset = offset_text (offset_in_force zone instant) in
    IsUtf8-from_ascii _ (IsAscii-append (day_text (local_day zone instant)) (84 ∷ (clock ++ offset)) (day_text-ascii (local_day zone instant))
    (IsAscii-cons 84 (clock ++ offset) (omega arith) (IsAscii-append clock offset (clock_text-ascii (local_minute zone instant) (omega arith)) (offset_text-ascii (offset_in_force zone instant) (offset_bounds zone is instant)))))
