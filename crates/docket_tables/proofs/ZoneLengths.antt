-- The text of a court's zone is short.
use Rattle.std.proofs.Common.{◌≡◌, ◌≤◌, ◌+◌, ◌-◌, ℕ, ℤ, List, [], ◌∷◌, ◌++◌, length, length-append, nat_lt, cond, Bool, true, false, Option, None, Some, IsSome, refl, ap, arith}
use Rattle.civil_time.specs.Zone.{ZoneRules}
use Rattle.civil_time.specs.ZoneGrammar.{SpellsNumber, one_digit, two_digits, SpellsHours, plain, plus, minus, SpellsSummer, SpellsZone, month_text, change_text}
use Rattle.civil_time.specs.ZoneText.{zone_at}
use Rattle.civil_time.specs.declared.zone.ChangeDate.{ChangeDate}
use Rattle.civil_time.specs.declared.zone.SummerTime.{SummerTime}
use Rattle.civil_time.proofs.ZoneGrammarSound.{zone_sound}

number_short : (n : ℕ) (text : List ℕ) → SpellsNumber n text → length text ≤ 2
number_short n text (one_digit low is) = omega (arith, ap length is)
number_short n text (two_digits tens ones low also value is) = omega (arith, ap length is)

hours_short : (hours : ℤ) (text : List ℕ) → SpellsHours hours text → length text ≤ 3
hours_short hours text (plain n low value spelled) = omega (arith, number_short n text spelled)
hours_short hours text (plus n digits low value spelled is) = omega (arith, number_short n digits spelled, ap length is)
hours_short hours text (minus n digits low value spelled is) = omega (arith, number_short n digits spelled, ap length is)

month_short : (month : ℕ) → length (month_text month) ≤ 2
month_short month = go (nat_lt month 10)
  where
    go : (b : Bool) → length (cond b ((48 + month) ∷ []) (49 ∷ (48 + (month - 10)) ∷ [])) ≤ 2
    go true = omega arith
    go false = omega arith

change_short : (date : ChangeDate) → length (change_text date) ≤ 8
change_short date = omega (arith, month_short date.month, length-append (month_text date.month) (46 ∷ (48 + date.week) ∷ 46 ∷ (48 + date.weekday) ∷ []))

summer_short : (summer : Option SummerTime) (text : List ℕ) → SpellsSummer summer text → length text ≤ 22
summer_short None text is = omega (arith, ap length is)
summer_short (Some summer) text (name, is_name, apart, is) =
    omega (
      arith,
      is_name.high,
      ap length is,
      length-append name (change_text summer.begins ++ change_text summer.ends),
      length-append (change_text summer.begins) (change_text summer.ends),
      change_short summer.begins,
      change_short summer.ends,
    )

spelled_short : (zone : ZoneRules) (text : List ℕ) → SpellsZone zone text → length text ≤ 31
spelled_short zone text it =
    omega (
      arith,
      it.is_name.high,
      hours_short zone.hours_west it.hours it.is_hours,
      summer_short zone.summer it.summer it.is_summer,
      ap length it.is,
      length-append it.name (it.hours ++ it.summer),
      length-append it.hours it.summer,
    )

pub zone_short : (text : List ℕ) → IsSome (zone_at text) → length text ≤ 31
zone_short text some = go (zone_at text) refl some
  where
    go : (found : Option ZoneRules) → zone_at text ≡ found → IsSome found → length text ≤ 31
    go None is some = absurd (let none = some in cc)
    go (Some zone) is some = spelled_short zone text (zone_sound text zone is)
