-- The readers take exactly what the grammar of a zone has.
use Rattle.std.proofs.Common.{◌≡◌, ℕ, ◌+◌, ◌-◌, ◌<◌, ◌≤◌, true, false, nat_le, nat_lt, nat_eq, List, [], ◌∷◌, ◌++◌, length, Option, None, Some, IsTrue, ℤ, pos, inl, inr, refl, sym, ap, ◌∙◌, arith, append_assoc, append-nil, length-append}
use Rattle.std.specs.List.{prefix_len}
use Rattle.std.proofs.Math.Seq.{drop-append_seam}
use Rattle.std.proofs.lemmas.Bool.{cases_order}
use Rattle.std.proofs.lemmas.Bool.Decides.{nat_tests}
use Rattle.civil_time.proofs.ReadingLemmas.{digit_at-digit}
use Rattle.civil_time.specs.declared.zone.ChangeDate.{ChangeDate}
use Rattle.civil_time.specs.declared.zone.SummerTime.{SummerTime}
use Rattle.civil_time.specs.Reading.{◌>>=◌, is_digit, digit_at}
use Rattle.civil_time.specs.Zone.{ZoneRules, IsChangeDate, AreApart}
use Rattle.civil_time.specs.ZoneText.{is_letter, after_name, digits_at, hours_at, up_to_12, month_at, change_at, are_apart, summer_at, zone_at}
use Rattle.civil_time.specs.ZoneGrammar.{AreLetters, IsName, SpellsNumber, one_digit, two_digits, month_text, change_text, SpellsHours, plain, plus, minus, SpellsSummer, SpellsZone}

month_small : (m : ℕ) (rest : List ℕ) → 2 ≤ m → m < 10 → month_at (month_text m ++ rest) ≡ Some (m, rest)
month_small m rest a lt =
    let small : nat_lt m 10 ≡ true = grind (arith, nat_tests) in
    let other : nat_eq m 1 ≡ false = grind (arith, nat_tests) in
    let low : nat_le 2 m ≡ true = grind (arith, nat_tests) in
    rw (small, digit_at-digit m rest (omega arith), other, low) refl

month_large : (m : ℕ) (rest : List ℕ) → 10 ≤ m → m ≤ 11 → month_at (month_text m ++ rest) ≡ Some (m, rest)
month_large m rest a b =
    let large : nat_lt m 10 ≡ false = grind (arith, nat_tests) in
    let low : nat_le (m - 10) 1 ≡ true = grind (arith, nat_tests) in
    let back : 10 + (m - 10) ≡ m = omega arith in
    rw (large, digit_at-digit (m - 10) rest (omega arith), low, back) refl

month : (m : ℕ) (rest : List ℕ) → 2 ≤ m → m ≤ 11 → month_at (month_text m ++ rest) ≡ Some (m, rest)
month m rest a b =
    elim (cases_order m 10) [
      | inr (inl lt) ↦ month_small m rest a lt
      | inl e ↦ month_large m rest (omega arith) b
      | inr (inr gt) ↦ month_large m rest (omega arith) b
    ]

-- each date of a change is read from its spelling
pub change_at-change_text : (date : ChangeDate) (rest : List ℕ) → IsChangeDate date → change_at (change_text date ++ rest) ≡ Some (date, rest)
change_at-change_text date rest h =
    let tail = 46 ∷ (48 + date.week) ∷ 46 ∷ (48 + date.weekday) ∷ rest in
    let m : month_at ((month_text date.month ++ 46 ∷ (48 + date.week) ∷ 46 ∷ (48 + date.weekday) ∷ []) ++ rest) ≡ Some (date.month, tail) =
    rw append_assoc (month date.month tail h.month.0 h.month.1) in
    let w = digit_at-digit date.week (46 ∷ (48 + date.weekday) ∷ rest) (omega (arith, h.week)) in
    let d = digit_at-digit date.weekday rest (omega (arith, h.weekday)) in
    let low : nat_le 1 date.week ≡ true = (let k = h.week in grind (arith, nat_tests)) in
    let high : nat_le date.week 5 ≡ true = (let k = h.week in grind (arith, nat_tests)) in
    let last : nat_le date.weekday 6 ≡ true = (let k = h.weekday in grind (arith, nat_tests)) in
    rw (m, w, d, low, high, last) refl

-- a name is read up to its end, where no letter follows
prefix_len-letters : (name rest : List ℕ) → AreLetters name → prefix_len is_letter rest ≡ 0 → prefix_len is_letter (name ++ rest) ≡ length name
prefix_len-letters [] rest h e = e
prefix_len-letters (x ∷ xs) rest h e = rw (h.0, prefix_len-letters xs rest h.1 e) (omega arith)

pub after_name-name : (name rest : List ℕ) → IsName name → prefix_len is_letter rest ≡ 0 → after_name (name ++ rest) ≡ Some rest
after_name-name name rest h e =
    let n = prefix_len-letters name rest h.letters e in
    let low : nat_le 3 (length name) ≡ true = (let l = h.low in grind (arith, nat_tests)) in
    let high : nat_le (length name) 6 ≡ true = (let l = h.high in grind (arith, nat_tests)) in
    rw (n, low, high) (ap Some (drop-append_seam name rest))

-- one or two digits, where no digit follows
number : (n : ℕ) (text rest : List ℕ) → SpellsNumber n text → digit_at rest ≡ None → digits_at (text ++ rest) ≡ Some (n, rest)
number n text rest (one_digit h e) none = rw (e, digit_at-digit n rest h, none) refl
number n text rest (two_digits t o a b e f) none = rw (f, digit_at-digit t ((48 + o) ∷ rest) a, digit_at-digit o rest b, e) refl

-- digits begin with no sign and no letter
begins : (n : ℕ) (text rest : List ℕ) → SpellsNumber n text → (d : ℕ) × (after : List ℕ) × (d ≤ 9) × (text ++ rest ≡ (48 + d) ∷ after)
begins n text rest (one_digit h e) = (n, rest, h, rw e refl)
begins n text rest (two_digits t o a b e f) = (t, (48 + o) ∷ rest, a, rw f refl)

unsigned : (d : ℕ) (after : List ℕ) → d ≤ 9 → hours_at ((48 + d) ∷ after) ≡ (digits_at ((48 + d) ∷ after) >>= up_to_12 pos)
unsigned d after h =
    let minus : nat_eq (48 + d) 45 ≡ false = grind (arith, nat_tests) in
    let plus : nat_eq (48 + d) 43 ≡ false = grind (arith, nat_tests) in
    rw (minus, plus) refl

pub hours_at-spelled : (hours : ℤ) (text rest : List ℕ) → SpellsHours hours text → digit_at rest ≡ None → hours_at (text ++ rest) ≡ Some (hours, rest)
hours_at-spelled hours text rest (plain n h e s) none =
    let b = begins n text rest s in
    let low : nat_le n 12 ≡ true = grind (arith, nat_tests) in
    let read : digits_at ((48 + b.0) ∷ b.1) ≡ Some (n, rest) = rw b.3 at (number n text rest s none) in
    let step : (digits_at ((48 + b.0) ∷ b.1) >>= up_to_12 pos) ≡ Some (pos n, rest) = rw (read, low) refl in
    rw (b.3, e) (unsigned b.0 b.1 b.2 ∙ step)
hours_at-spelled hours text rest (plus n digits h e s is) none =
    let low : nat_le n 12 ≡ true = grind (arith, nat_tests) in
    rw (is, number n digits rest s none, low, e) refl
hours_at-spelled hours text rest (minus n digits h e s is) none =
    let low : nat_le n 12 ≡ true = grind (arith, nat_tests) in
    rw (is, number n digits rest s none, low, e) refl

no_letter : (first : ℕ) (rest : List ℕ) → is_letter first ≡ false → prefix_len is_letter (first ∷ rest) ≡ 0
no_letter first rest e = rw e refl

digit_no_letter : (d : ℕ) → d ≤ 9 → is_letter (48 + d) ≡ false
digit_no_letter d h = grind (arith, nat_tests)

hours_no_letter : (hours : ℤ) (text rest : List ℕ) → SpellsHours hours text → prefix_len is_letter (text ++ rest) ≡ 0
hours_no_letter hours text rest (plain n h e s) = let b = begins n text rest s in rw b.3 (no_letter (48 + b.0) b.1 (digit_no_letter b.0 b.2))
hours_no_letter hours text rest (plus n digits h e s is) = rw is refl
hours_no_letter hours text rest (minus n digits h e s is) = rw is refl

letter_no_digit : (x : ℕ) → IsTrue (is_letter x) → is_digit x ≡ false
letter_no_digit x h = grind (arith, nat_tests)

name_no_digit : (name rest : List ℕ) → IsName name → digit_at (name ++ rest) ≡ None
name_no_digit [] rest h = absurd (omega (arith, h.low))
name_no_digit (x ∷ xs) rest h = rw (letter_no_digit x h.letters.0) refl

summer_no_digit : (summer : Option SummerTime) (text : List ℕ) → SpellsSummer summer text → digit_at text ≡ None
summer_no_digit None text h = rw h refl
summer_no_digit (Some dates) text h = rw h.3 (name_no_digit h.0 (change_text dates.begins ++ change_text dates.ends) h.1)

last_change : (date : ChangeDate) → IsChangeDate date → change_at (change_text date) ≡ Some (date, [])
last_change date h = sym (ap change_at (append-nil (change_text date))) ∙ change_at-change_text date [] h

apart : (first second : ℕ) → AreApart first second → are_apart first second ≡ true
apart first second h = (let a = h.0 in let b = h.1 in let c = h.2 in grind (arith, nat_tests))

summer_at-spelled : (dates : SummerTime) (text : List ℕ) → SpellsSummer (Some dates) text → summer_at text ≡ Some dates
summer_at-spelled dates text h =
    let name = after_name-name h.0 (change_text dates.begins ++ change_text dates.ends) h.1 refl in
    let first = change_at-change_text dates.begins (change_text dates.ends) h.2.begins in
    let second = last_change dates.ends h.2.ends in
    rw (h.3, name, first, second, apart dates.begins.month dates.ends.month h.2.apart) refl

summer_some : (dates : SummerTime) (text : List ℕ) → SpellsSummer (Some dates) text → nat_eq (length text) 0 ≡ false
summer_some dates text h =
    let some : ¬ (length text ≡ 0) = rw h.3 (omega (arith, length-append h.0 (change_text dates.begins ++ change_text dates.ends), h.1.low)) in
    grind arith

zone_parts : (hours_west : ℤ) (summer : Option SummerTime) (text name hours rest : List ℕ) → text ≡ name ++ (hours ++ rest) → IsName name → SpellsHours hours_west hours → SpellsSummer summer rest → zone_at text ≡ Some (record { hours_west = hours_west; summer = summer })
zone_parts hours_west None text name hours rest e n h s =
    let a = after_name-name name (hours ++ rest) n (hours_no_letter hours_west hours rest h) in
    let b = hours_at-spelled hours_west hours rest h (summer_no_digit None rest s) in
    rw (e, a, b, s) refl
zone_parts hours_west (Some dates) text name hours rest e n h s =
    let a = after_name-name name (hours ++ rest) n (hours_no_letter hours_west hours rest h) in
    let b = hours_at-spelled hours_west hours rest h (summer_no_digit (Some dates) rest s) in
    rw (e, a, b, summer_some dates rest s, summer_at-spelled dates rest s) refl

-- what spells a zone is read as that zone
pub zone_at-spelled : (zone : ZoneRules) (text : List ℕ) → SpellsZone zone text → zone_at text ≡ Some zone
zone_at-spelled zone text h = zone_parts zone.hours_west zone.summer text h.name h.hours h.summer h.is h.is_name h.is_hours h.is_summer
