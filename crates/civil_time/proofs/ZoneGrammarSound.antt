-- What is read as a zone spells it.
use Rattle.std.proofs.Common.{◌≡◌, ℕ, suc, ◌+◌, ◌-◌, ◌*◌, ◌≤◌, true, false, Bool, nat_le, nat_lt, nat_eq, cond, List, [], ◌∷◌, ◌++◌, length, drop, take, Option, None, Some, ℤ, pos, neg_ℤ, refl, sym, ap, subst, ◌∙◌, arith, append_assoc, append-nil, length-take, ◌&&◌, ◌↔◌}
use Rattle.std.specs.List.{prefix_len}
use Rattle.std.proofs.lemmas.List.{take-append-drop}
use Rattle.std.proofs.lemmas.Bool.Decides.{nat_tests}
use Rattle.std.proofs.lemmas.Bool.{and_parts}
use Rattle.civil_time.specs.declared.zone.ChangeDate.{ChangeDate}
use Rattle.civil_time.specs.declared.zone.SummerTime.{SummerTime}
use Rattle.civil_time.specs.Reading.{◌>>=◌, after, digit_at}
use Rattle.civil_time.specs.Zone.{ZoneRules, IsChangeDate, AreApart}
use Rattle.civil_time.specs.ZoneText.{is_letter, after_name, digits_at, with_second, hours_at, up_to_12, month_at, change_at, are_apart, summer_at, zone_at}
use Rattle.civil_time.specs.ZoneGrammar.{AreLetters, IsName, SpellsNumber, one_digit, two_digits, month_text, change_text, SpellsHours, plain, plus, minus, SpellsSummer, SpellsZone}
use Rattle.civil_time.proofs.ZoneGrammarLemmas.{zone_at-spelled}
use Rattle.civil_time.proofs.ReadingLemmas.{bound, tested, digit_sound, after_sound, empty}

letters_step : (x : ℕ) (xs : List ℕ) (b : Bool) → is_letter x ≡ b → AreLetters (take (prefix_len is_letter xs) xs) → AreLetters (take (prefix_len is_letter (x ∷ xs)) (x ∷ xs))
letters_step x xs true e h = let s : 1 + prefix_len is_letter xs ≡ suc (prefix_len is_letter xs) = omega arith in rw (e, s) (e, h)
letters_step x xs false e h = rw e tt

letters_of : (text : List ℕ) → AreLetters (take (prefix_len is_letter text) text)
letters_of [] = tt
letters_of (x ∷ xs) = letters_step x xs (is_letter x) refl (letters_of xs)

prefix_step : (x : ℕ) (xs : List ℕ) (b : Bool) → is_letter x ≡ b → prefix_len is_letter xs ≤ length xs → prefix_len is_letter (x ∷ xs) ≤ length (x ∷ xs)
prefix_step x xs true e h = rw e (omega arith)
prefix_step x xs false e h = rw e (omega arith)

prefix_within : (text : List ℕ) → prefix_len is_letter text ≤ length text
prefix_within [] = omega arith
prefix_within (x ∷ xs) = prefix_step x xs (is_letter x) refl (prefix_within xs)

name_sound : (text rest : List ℕ) → after_name text ≡ Some rest → (name : List ℕ) × IsName name × (text ≡ name ++ rest)
name_sound text rest h =
    let n = prefix_len is_letter text in
    let t = tested (nat_le 3 n && nat_le n 6) (drop n text) rest h in
    let range : (3 ≤ n) × (n ≤ 6) = (let k = t.0 in grind (arith, nat_tests)) in
    let size : length (take n text) ≡ n = omega (arith, length-take n text, prefix_within text) in
    (take n text, record { letters = letters_of text; low = omega arith; high = omega arith }, sym (take-append-drop n text) ∙ ap (λ (r : List ℕ). take n text ++ r) t.1)

month_small : (first p : ℕ × List ℕ) → first.0 ≤ 9 → cond (nat_le 2 first.0) (Some first) None ≡ Some p → (2 ≤ p.0) × (p.0 ≤ 11) × ((48 + first.0) ∷ first.1 ≡ month_text p.0 ++ p.1)
month_small first p h e =
    let t = tested (nat_le 2 first.0) first p e in
    let a : first.0 ≡ p.0 = ap (λ (q : ℕ × List ℕ). q.0) t.1 in
    let b : first.1 ≡ p.1 = ap (λ (q : ℕ × List ℕ). q.1) t.1 in
    let low : 2 ≤ first.0 = (let k = t.0 in grind (arith, nat_tests)) in
    let test : nat_lt p.0 10 ≡ true = grind (arith, nat_tests) in
    (omega arith, omega arith, rw (test, a, b) refl)

month_large : (first p : ℕ × List ℕ) → first.0 ≡ 1 → (digit_at first.1 >>= λ second. cond (nat_le second.0 1) (Some (10 + second.0, second.1)) None) ≡ Some p → (2 ≤ p.0) × (p.0 ≤ 11) × ((48 + first.0) ∷ first.1 ≡ month_text p.0 ++ p.1)
month_large first p is h =
    let b = bound (digit_at first.1) (λ second. cond (nat_le second.0 1) (Some (10 + second.0, second.1)) None) p h in
    let d = digit_sound first.1 b.0 b.1 in
    let t = tested (nat_le b.0.0 1) (10 + b.0.0, b.0.1) p b.2 in
    let m : 10 + b.0.0 ≡ p.0 = ap (λ (q : ℕ × List ℕ). q.0) t.1 in
    let r : b.0.1 ≡ p.1 = ap (λ (q : ℕ × List ℕ). q.1) t.1 in
    let small : b.0.0 ≤ 1 = (let k = t.0 in grind (arith, nat_tests)) in
    let test : nat_lt p.0 10 ≡ false = grind (arith, nat_tests) in
    let ones : b.0.0 ≡ p.0 - 10 = omega arith in
    (omega arith, omega arith, rw (test, d.1, is, ones, r) refl)

month_sound : (text : List ℕ) (p : ℕ × List ℕ) → month_at text ≡ Some p → (2 ≤ p.0) × (p.0 ≤ 11) × (text ≡ month_text p.0 ++ p.1)
month_sound text p h =
    let b = bound (digit_at text) (λ first. cond (nat_eq first.0 1) (digit_at first.1 >>= λ second. cond (nat_le second.0 1) (Some (10 + second.0, second.1)) None) (cond (nat_le 2 first.0) (Some first) None)) p h in
    let d = digit_sound text b.0 b.1 in
    go b.0 d.0 d.1 (nat_eq b.0.0 1) refl b.2 where
      go : (first : ℕ × List ℕ) → first.0 ≤ 9 → text ≡ (48 + first.0) ∷ first.1 → (t : Bool) → nat_eq first.0 1 ≡ t
          → cond (nat_eq first.0 1) (digit_at first.1 >>= λ second. cond (nat_le second.0 1) (Some (10 + second.0, second.1)) None) (cond (nat_le 2 first.0) (Some first) None) ≡ Some p
          → (2 ≤ p.0) × (p.0 ≤ 11) × (text ≡ month_text p.0 ++ p.1)
      go first a is true t e = let one : first.0 ≡ 1 = grind (arith, nat_tests) in rw is (month_large first p one (rw t at e))
      go first a is false t e = rw is (month_small first p a (rw t at e))

in_range : (week weekday : ℕ) → ((nat_le 1 week && nat_le week 5) && nat_le weekday 6) ≡ true → (1 ≤ week) × (week ≤ 5) × (weekday ≤ 6)
in_range week weekday h = grind (arith, nat_tests)

-- the numbers of a date as they are read
numbers : (month week weekday : ℕ × List ℕ) (p : ChangeDate × List ℕ) → cond ((nat_le 1 week.0 && nat_le week.0 5) && nat_le weekday.0 6) (Some (record { month = month.0; week = week.0; weekday = weekday.0 }, weekday.1)) None ≡ Some p
    → (1 ≤ week.0) × (week.0 ≤ 5) × (weekday.0 ≤ 6) × (month.0 ≡ p.0.month) × (week.0 ≡ p.0.week) × (weekday.0 ≡ p.0.weekday) × (weekday.1 ≡ p.1)
numbers month week weekday p h =
    let t = tested ((nat_le 1 week.0 && nat_le week.0 5) && nat_le weekday.0 6) (record { month = month.0; week = week.0; weekday = weekday.0 }, weekday.1) p h in
    let range = in_range week.0 weekday.0 t.0 in
    (range.0, range.1, range.2, ap (λ (q : ChangeDate × List ℕ). q.0.month) t.1, ap (λ (q : ChangeDate × List ℕ). q.0.week) t.1, ap (λ (q : ChangeDate × List ℕ). q.0.weekday) t.1, ap (λ (q : ChangeDate × List ℕ). q.1) t.1)

regroup : (u v w : List ℕ) → u ++ (v ++ w) ≡ (u ++ v) ++ w
regroup u v w = simp append_assoc

change_sound : (text : List ℕ) (p : ChangeDate × List ℕ) → change_at text ≡ Some p → IsChangeDate p.0 × (text ≡ change_text p.0 ++ p.1)
change_sound text p h =
    let a = bound (after 44 text) _ p h in
    let b = bound (after 77 a.0) _ p a.2 in
    let m = bound (month_at b.0) _ p b.2 in
    let c = bound (after 46 m.0.1) _ p m.2 in
    let w = bound (digit_at c.0) _ p c.2 in
    let e = bound (after 46 w.0.1) _ p w.2 in
    let d = bound (digit_at e.0) _ p e.2 in
    let n = numbers m.0 w.0 d.0 p d.2 in
    let month = month_sound b.0 m.0 m.1 in
    let week = digit_sound c.0 w.0 w.1 in
    let weekday = digit_sound e.0 d.0 d.1 in
    let after_week : w.0.1 ≡ 46 ∷ (48 + p.0.weekday) ∷ p.1 =
    after_sound 46 w.0.1 e.0 e.1 ∙ ap (λ (t : List ℕ). 46 ∷ t) (weekday.1 ∙ rw (n.5, n.6) refl) in
    let after_dot : c.0 ≡ (48 + p.0.week) ∷ 46 ∷ (48 + p.0.weekday) ∷ p.1 =
    week.1 ∙ rw (n.4) (ap (λ (t : List ℕ). (48 + p.0.week) ∷ t) after_week) in
    let tail : m.0.1 ≡ 46 ∷ (48 + p.0.week) ∷ 46 ∷ (48 + p.0.weekday) ∷ p.1 = after_sound 46 m.0.1 c.0 c.1 ∙ ap (λ (t : List ℕ). 46 ∷ t) after_dot in
    let spelled : b.0 ≡ month_text p.0.month ++ (46 ∷ (48 + p.0.week) ∷ 46 ∷ (48 + p.0.weekday) ∷ p.1) =
    month.2 ∙ ap (λ (k : ℕ). month_text k ++ m.0.1) n.3 ∙ ap (λ (t : List ℕ). month_text p.0.month ++ t) tail in
    let grouped = spelled ∙ regroup (month_text p.0.month) (46 ∷ (48 + p.0.week) ∷ 46 ∷ (48 + p.0.weekday) ∷ []) p.1 in
    let after_comma : a.0 ≡ 77 ∷ ((month_text p.0.month ++ (46 ∷ (48 + p.0.week) ∷ 46 ∷ (48 + p.0.weekday) ∷ [])) ++ p.1) =
    after_sound 77 a.0 b.0 b.1 ∙ ap (λ (t : List ℕ). 77 ∷ t) grouped in (
      record {
        month = (subst (λ (k : ℕ). 2 ≤ k) n.3 month.0, subst (λ (k : ℕ). k ≤ 11) n.3 month.1);
        week = (subst (λ (k : ℕ). 1 ≤ k) n.4 n.0, subst (λ (k : ℕ). k ≤ 5) n.4 n.1);
        weekday = subst (λ (k : ℕ). k ≤ 6) n.5 n.2;
      },
      after_sound 44 text a.0 a.1 ∙ ap (λ (t : List ℕ). 44 ∷ t) after_comma,
    )

digits_sound : (text : List ℕ) (p : ℕ × List ℕ) → digits_at text ≡ Some p → (digits : List ℕ) × SpellsNumber p.0 digits × (text ≡ digits ++ p.1)
digits_sound text p h =
    let a = bound (digit_at text) _ p h in
    let first = digit_sound text a.0 a.1 in
    go a.0 first.0 first.1 (digit_at a.0.1) refl a.2 where
      go : (a : ℕ × List ℕ) → a.0 ≤ 9 → text ≡ (48 + a.0) ∷ a.1 → (o : Option (ℕ × List ℕ)) → digit_at a.1 ≡ o → with_second a.0 a.1 (digit_at a.1) ≡ Some p → (digits : List ℕ) × SpellsNumber p.0 digits × (text ≡ digits ++ p.1)
      go a low is None e k =
          let same : Some (a.0, a.1) ≡ Some p = rw e at k in
          let n : a.0 ≡ p.0 = cc in
          let r : a.1 ≡ p.1 = cc in
          ((48 + p.0) ∷ [], one_digit (omega arith) refl, is ∙ rw (n, r) refl)
      go a low is (Some b) e k =
          let same : Some (10 * a.0 + b.0, b.1) ≡ Some p = rw e at k in
          let second = digit_sound a.1 b e in
          let n : 10 * a.0 + b.0 ≡ p.0 = cc in
          let r : b.1 ≡ p.1 = cc in
          ((48 + a.0) ∷ (48 + b.0) ∷ [], two_digits a.0 b.0 low second.0 (sym n) refl, is ∙ ap (λ (t : List ℕ). (48 + a.0) ∷ t) (second.1 ∙ rw r refl))

within_12 : (sign : ℕ → ℤ) (a : ℕ × List ℕ) (p : ℤ × List ℕ) → up_to_12 sign a ≡ Some p → (a.0 ≤ 12) × (p.0 ≡ sign a.0) × (a.1 ≡ p.1)
within_12 sign a p h =
    let t = tested (nat_le a.0 12) (sign a.0, a.1) p h in
    let low : a.0 ≤ 12 = (let k = t.0 in grind (arith, nat_tests)) in
    (low, sym (ap (λ (q : ℤ × List ℕ). q.0) t.1), ap (λ (q : ℤ × List ℕ). q.1) t.1)

abbrev HoursRead : List ℕ → ℤ × List ℕ → Type 0
HoursRead text p = (hours : List ℕ) × SpellsHours p.0 hours × (text ≡ hours ++ p.1)

signed_hours : (sign : ℕ → ℤ) (text : List ℕ) (p : ℤ × List ℕ) → (digits_at text >>= up_to_12 sign) ≡ Some p → (number : ℕ) × (digits : List ℕ) × (number ≤ 12) × (p.0 ≡ sign number) × SpellsNumber number digits × (text ≡ digits ++ p.1)
signed_hours sign text p h =
    let a = bound (digits_at text) (up_to_12 sign) p h in
    let d = digits_sound text a.0 a.1 in
    let w = within_12 sign a.0 p a.2 in
    (a.0.0, d.0, w.0, w.1, d.1, d.2 ∙ ap (λ (r : List ℕ). d.0 ++ r) w.2)

second_of : {A : Type 0} (t u : Bool) (a b c p : A) → t ≡ false → u ≡ true → cond t a (cond u b c) ≡ p → b ≡ p
second_of true u a b c p e f h = cc
second_of false true a b c p e f h = h
second_of false false a b c p e f h = cc

third_of : {A : Type 0} (t u : Bool) (a b c p : A) → t ≡ false → u ≡ false → cond t a (cond u b c) ≡ p → c ≡ p
third_of true u a b c p e f h = cc
third_of false true a b c p e f h = cc
third_of false false a b c p e f h = h

hours_cases : (x : ℕ) (xs : List ℕ) (p : ℤ × List ℕ) (is_minus is_plus : Bool) → nat_eq x 45 ≡ is_minus → nat_eq x 43 ≡ is_plus → hours_at (x ∷ xs) ≡ Some p → HoursRead (x ∷ xs) p
hours_cases x xs p true is_plus e f h =
    let is : x ≡ 45 = grind (arith, nat_tests) in
    let s = signed_hours (λ hours. neg_ℤ (pos hours)) xs p (rw e at h) in
    (45 ∷ s.1, minus s.0 s.1 s.2 s.3 s.4 refl, ap (λ (k : ℕ). k ∷ xs) is ∙ ap (λ (r : List ℕ). 45 ∷ r) s.5)
hours_cases x xs p false true e f h =
    let is : x ≡ 43 = grind (arith, nat_tests) in
    let s = signed_hours pos xs p (second_of (nat_eq x 45) (nat_eq x 43) _ _ _ (Some p) e f h) in
    (43 ∷ s.1, plus s.0 s.1 s.2 s.3 s.4 refl, ap (λ (k : ℕ). k ∷ xs) is ∙ ap (λ (r : List ℕ). 43 ∷ r) s.5)
hours_cases x xs p false false e f h =
    let s = signed_hours pos (x ∷ xs) p (third_of (nat_eq x 45) (nat_eq x 43) _ _ _ (Some p) e f h) in
    (s.1, plain s.0 s.2 s.3 s.4, s.5)

hours_sound : (text : List ℕ) (p : ℤ × List ℕ) → hours_at text ≡ Some p → HoursRead text p
hours_sound [] p h = cc
hours_sound (x ∷ xs) p h = hours_cases x xs p (nat_eq x 45) (nat_eq x 43) refl refl h

apart : (first second : ℕ) → are_apart first second ≡ true → AreApart first second
apart first second t = (
  λ e. let k = t in let d : first ≡ second = e in grind (arith, nat_tests),
  λ e. let k = t in let d : first + 1 ≡ second = e in grind (arith, nat_tests),
  λ e. let k = t in let d : first ≡ second + 1 = e in grind (arith, nat_tests),
)

summer_sound : (text : List ℕ) (dates : SummerTime) → summer_at text ≡ Some dates → SpellsSummer (Some dates) text
summer_sound text dates h =
    let n = bound (after_name text) _ dates h in
    let b = bound (change_at n.0) _ dates n.2 in
    let e = bound (change_at b.0.1) _ dates b.2 in
    let t = tested (nat_eq (length e.0.1) 0 && are_apart b.0.0.month e.0.0.month) (record { begins = b.0.0; ends = e.0.0 }) dates e.2 in
    let name = name_sound text n.0 n.1 in
    let first = change_sound n.0 b.0 b.1 in
    let second = change_sound b.0.1 e.0 e.1 in
    let is_first : b.0.0 ≡ dates.begins = ap (λ (q : SummerTime). q.begins) t.1 in
    let is_second : e.0.0 ≡ dates.ends = ap (λ (q : SummerTime). q.ends) t.1 in
    let test = and_parts _ _ t.0 in
    let are : are_apart dates.begins.month dates.ends.month ≡ true = sym (ap (λ (r : ChangeDate). are_apart r.month e.0.0.month) is_first ∙ ap (λ (r : ChangeDate). are_apart dates.begins.month r.month) is_second) ∙ test.1 in
    let nothing : e.0.1 ≡ [] = empty e.0.1 test.0 in
    let tail : b.0.1 ≡ change_text dates.ends = second.1 ∙ ap (λ (r : List ℕ). change_text e.0.0 ++ r) nothing ∙ append-nil (change_text e.0.0) ∙ ap change_text is_second in
    let dates_text : n.0 ≡ change_text dates.begins ++ change_text dates.ends = first.1 ∙ ap (λ (r : ChangeDate). change_text r ++ b.0.1) is_first ∙ ap (λ (r : List ℕ). change_text dates.begins ++ r) tail in (
      name.0,
      name.1,
      record {
        begins = subst IsChangeDate is_first first.0;
        ends = subst IsChangeDate is_second second.0;
        apart = apart dates.begins.month dates.ends.month are;
      },
      name.2 ∙ ap (λ (r : List ℕ). name.0 ++ r) dates_text,
    )

zone_end : (hours : ℤ × List ℕ) (zone : ZoneRules) (t : Bool) → nat_eq (length hours.1) 0 ≡ t
    → cond t (Some (record { hours_west = hours.0; summer = None })) (summer_at hours.1 >>= λ summer. Some (record { hours_west = hours.0; summer = Some summer })) ≡ Some zone
    → (hours.0 ≡ zone.hours_west) × SpellsSummer zone.summer hours.1
zone_end hours zone true e h =
    let is : record { hours_west = hours.0; summer = None } ≡ zone = cc in
    (ap (λ (r : ZoneRules). r.hours_west) is, subst (λ (r : ZoneRules). SpellsSummer r.summer hours.1) is (empty hours.1 e))
zone_end hours zone false e h =
    let s = bound (summer_at hours.1) _ zone h in
    let is : record { hours_west = hours.0; summer = Some s.0 } ≡ zone = cc in
    (ap (λ (r : ZoneRules). r.hours_west) is, subst (λ (r : ZoneRules). SpellsSummer r.summer hours.1) is (summer_sound hours.1 s.0 s.1))

-- what is read as a zone spells it
pub zone_sound : (text : List ℕ) (zone : ZoneRules) → zone_at text ≡ Some zone → SpellsZone zone text
zone_sound text zone h =
    let n = bound (after_name text) _ zone h in
    let a = bound (hours_at n.0) _ zone n.2 in
    let end = zone_end a.0 zone (nat_eq (length a.0.1) 0) refl a.2 in
    let name = name_sound text n.0 n.1 in
    let hours = hours_sound n.0 a.0 a.1 in
    record {
      name = name.0;
      hours = hours.0;
      summer = a.0.1;
      is = name.2 ∙ ap (λ (r : List ℕ). name.0 ++ r) hours.2;
      is_name = name.1;
      is_hours = subst (λ (z : ℤ). SpellsHours z hours.0) end.0 hours.1;
      is_summer = end.1;
    }

-- so what is read is what the grammar has
pub read_as_spelled : (text : List ℕ) (read : Option ZoneRules) → read ≡ zone_at text → (zone : ZoneRules) → (read ≡ Some zone) ↔ SpellsZone zone text
read_as_spelled text read e zone = (λ h. zone_sound text zone (sym e ∙ h), λ spells. e ∙ zone_at-spelled zone text spells)
