-- The grammar of a zone's text: NAMEh or NAMEhNAME,Mm.w.d,Mm.w.d
use Rattle.std.specs.Prelude.{◌≡◌, ℕ, ◌+◌, ◌-◌, ◌*◌, ◌≤◌, nat_lt, if◌then◌else◌, List, [], ◌∷◌, ◌++◌, length, Option, None, Some, ℤ, pos, neg_ℤ, IsTrue}
use Rattle.civil_time.specs.declared.zone.ChangeDate.{ChangeDate}
use Rattle.civil_time.specs.declared.zone.SummerTime.{SummerTime}
use Rattle.civil_time.specs.Zone.{ZoneRules, IsSummerTime}
use Rattle.civil_time.specs.ZoneText.{is_letter}

-- ASCII letters and nothing else
abbrev pub AreLetters : List ℕ → Type 0
AreLetters [] = Unit {0}
AreLetters (first ∷ rest) = IsTrue (is_letter first) × AreLetters rest

-- three to six letters
pub record IsName (name : List ℕ) : Type 0 where
  pub letters : AreLetters name
  pub low : 3 ≤ length name
  pub high : length name ≤ 6

-- one or two digits
pub data SpellsNumber (number : ℕ) (text : List ℕ) : Type 0 where
  one_digit : number ≤ 9 → text ≡ (48 + number) ∷ [] → SpellsNumber number text
  two_digits : (tens ones : ℕ) → tens ≤ 9 → ones ≤ 9 → number ≡ 10 * tens + ones → text ≡ (48 + tens) ∷ (48 + ones) ∷ [] → SpellsNumber number text

-- 0 to 12 hours west, with or without a plus, or east after a minus
pub data SpellsHours (hours : ℤ) (text : List ℕ) : Type 0 where
  plain : (number : ℕ) → number ≤ 12 → hours ≡ pos number → SpellsNumber number text → SpellsHours hours text
  plus : (number : ℕ) (digits : List ℕ) → number ≤ 12 → hours ≡ pos number → SpellsNumber number digits → text ≡ 43 ∷ digits → SpellsHours hours text
  minus : (number : ℕ) (digits : List ℕ) → number ≤ 12 → hours ≡ neg_ℤ (pos number) → SpellsNumber number digits → text ≡ 45 ∷ digits → SpellsHours hours text

-- the month without a leading zero
abbrev pub month_text : ℕ → List ℕ
month_text month = if nat_lt month 10 then (48 + month) ∷ [] else 49 ∷ (48 + (month - 10)) ∷ []

-- ,Mm.w.d
abbrev pub change_text : ChangeDate → List ℕ
change_text date = 44 ∷ 77 ∷ (month_text date.month ++ 46 ∷ (48 + date.week) ∷ 46 ∷ (48 + date.weekday) ∷ [])

-- nothing, or a name and the two dates
abbrev pub SpellsSummer : Option SummerTime → List ℕ → Type 0
SpellsSummer None text = text ≡ []
SpellsSummer (Some summer) text =
    (name : List ℕ) × IsName name × IsSummerTime summer × (text ≡ name ++ (change_text summer.begins ++ change_text summer.ends))

-- the text is a name, the hours, and the part on summer time
pub record SpellsZone (zone : ZoneRules) (text : List ℕ) : Type 0 where
  pub name : List ℕ
  pub hours : List ℕ
  pub summer : List ℕ
  pub is : text ≡ name ++ (hours ++ summer)
  pub is_name : IsName name
  pub is_hours : SpellsHours zone.hours_west hours
  pub is_summer : SpellsSummer zone.summer summer
