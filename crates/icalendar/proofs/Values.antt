-- What a character of a text becomes.
use Rattle.std.proofs.Common.{◌≡◌, inl, inr, ℕ, ◌<◌, ◌≤◌, Bool, true, false, cond, ◌==◌, List, [], ◌∷◌, ◌++◌, length, map, refl, sym, ap, ◌∙◌, append_assoc, append-nil, arith}
use Rattle.std.proofs.lemmas.Bool.{cases_lt, cases_eq, cond-false, ne_eqb, and_left}
use Rattle.std.proofs.lemmas.Bool.Decides.{nat_tests}
use Rattle.std.proofs.lemmas.List.{map-append, nil_from_length}
use Rattle.std.proofs.lemmas.List.Concat.{flat_map-append}
use Rattle.std.proofs.lemmas.Str.{encode_ascii}
use Rattle.std.specs.List.{flat_map, AllByRecursion}
use lib.Utf8.{encode}
use Rattle.icalendar.specs.Texts.{begins_with_feed, single_breaks, plain_byte, plain_text, escaped_byte, text_value}
use Rattle.icalendar.proofs.Characters.{IsWithin, octets}

-- what bytes become, none of which is part of CR LF
abbrev pub escaped : List ℕ → List ℕ
escaped bytes = flat_map escaped_byte (map plain_byte bytes)

-- the text behind a CR loses an LF at its beginning
abbrev without_feed : List ℕ → List ℕ
without_feed [] = []
without_feed (b ∷ bytes) = cond (b == 10) bytes (b ∷ bytes)

-- what is left of a value, behind a CR or not
abbrev pub value_behind : Bool → List ℕ → List ℕ
value_behind returned rest = text_value (cond returned (without_feed rest) rest)

abbrev pub Differs : ℕ → ℕ → Type 0
Differs x b = b ≡ x → ⊥

pub single_breaks-other : (b : ℕ) (bytes : List ℕ) → Differs 13 b → single_breaks (b ∷ bytes) ≡ b ∷ single_breaks bytes
single_breaks-other b bytes h = cond-false _ _ _ (and_left (b == 13) (begins_with_feed bytes) (ne_eqb b 13 h))

single_breaks-append : (xs ys : List ℕ) → AllByRecursion (Differs 13) xs → single_breaks (xs ++ ys) ≡ xs ++ single_breaks ys
single_breaks-append [] ys h = refl
single_breaks-append (x ∷ xs) ys h = single_breaks-other x (xs ++ ys) h.0 ∙ ap (λ l. x ∷ l) (single_breaks-append xs ys h.1)

pub escaped-append : (xs ys : List ℕ) → escaped (xs ++ ys) ≡ escaped xs ++ escaped ys
escaped-append xs ys = ap (λ l. flat_map escaped_byte l) (map-append plain_byte xs ys) ∙ flat_map-append escaped_byte (map plain_byte xs) (map plain_byte ys)

text_value-append : (xs ys : List ℕ) → AllByRecursion (Differs 13) xs → text_value (xs ++ ys) ≡ escaped xs ++ text_value ys
unfolding text_value plain_text
text_value-append xs ys h = ap (λ l. escaped l) (single_breaks-append xs ys h) ∙ escaped-append xs (single_breaks ys)

text_value-return : (rest : List ℕ) → text_value (13 ∷ rest) ≡ 92 ∷ 110 ∷ text_value (without_feed rest)
unfolding text_value plain_text
text_value-return [] = refl
text_value-return (b ∷ rest) = elim (cases_eq b 10) [
  | inl same ↦ rw same refl
  | inr other ↦ let e = ne_eqb b 10 other in rw e refl
]

pub text_value-none : text_value [] ≡ []
unfolding text_value plain_text
text_value-none = refl

within_differ : (x : ℕ) (rest : List ℕ) → x < 128 → AllByRecursion IsWithin rest → AllByRecursion (Differs x) rest
within_differ x [] small h = tt
within_differ x (b ∷ rest) small h = (λ e. omega arith, within_differ x rest small h.1)

first_differs : (c first x : ℕ) → x < 128 → Differs x c → (c < 128 → first ≡ c) → (128 ≤ c → 192 ≤ first) → Differs x first
first_differs c first x small other low high = elim (cases_lt c 128) [
  | inl h ↦ λ e. other (sym (low h) ∙ e)
  | inr h ↦ let far = high h in λ e. omega arith
]

pub encode_differs : (c x : ℕ) → x < 128 → Differs x c → AllByRecursion (Differs x) (encode c)
encode_differs c x small other =
    let o = octets c in
    rw o.whole (first_differs c o.first x small other o.low o.high, within_differ x o.rest small o.within)

without_feed-other : (c : ℕ) (rest : List ℕ) → Differs 10 c → without_feed (encode c ++ rest) ≡ encode c ++ rest
without_feed-other c rest other =
    let o = octets c in
    let first = first_differs c o.first 10 (omega arith) other o.low o.high in
    rw o.whole (cond-false (o.first == 10) _ _ (ne_eqb o.first 10 first))

kept : (returned : Bool) (c : ℕ) (rest : List ℕ) → (returned ≡ true → Differs 10 c) → cond returned (without_feed (encode c ++ rest)) (encode c ++ rest) ≡ encode c ++ rest
kept true c rest h = without_feed-other c rest (h refl)
kept false c rest h = refl

-- a character that is no LF behind a CR
pub value_step : (returned : Bool) (c : ℕ) (rest : List ℕ) → (returned ≡ true → Differs 10 c) → value_behind returned (encode c ++ rest) ≡ escaped (encode c) ++ value_behind (c == 13) rest
value_step returned c rest h = ap text_value (kept returned c rest h) ∙ elim (cases_eq c 13) [
  | inl same ↦ rw (same, encode_ascii 13 (omega arith)) (text_value-return rest)
  | inr other ↦ let e = ne_eqb c 13 other in rw e (text_value-append (encode c) rest (encode_differs c 13 (omega arith) other))
]

-- an LF behind a CR
pub value_skip : (rest : List ℕ) → value_behind true (encode 10 ++ rest) ≡ value_behind false rest
value_skip rest = rw (encode_ascii 10 (omega arith)) refl

-- a byte that stays as it is
pub record Stands (b : ℕ) : Type 0 where
  pub no_control : 32 ≤ b
  pub no_delete : Differs 127 b
  pub no_backslash : Differs 92 b
  pub no_semicolon : Differs 59 b
  pub no_comma : Differs 44 b

byte_stands : (b : ℕ) → Stands b → escaped_byte (plain_byte b) ≡ b ∷ []
byte_stands b h =
    let plain : plain_byte b ≡ b = grind (arith, nat_tests) in
    let same : escaped_byte b ≡ b ∷ [] = grind (arith, nat_tests) in
    ap escaped_byte plain ∙ same

pub wide_stands : (b : ℕ) → 128 ≤ b → Stands b
wide_stands b h = record { no_control = omega arith; no_delete = λ e. omega arith; no_backslash = λ e. omega arith; no_semicolon = λ e. omega arith; no_comma = λ e. omega arith }

within_stand : (rest : List ℕ) → AllByRecursion IsWithin rest → escaped rest ≡ rest
within_stand [] h = refl
within_stand (b ∷ rest) h = ap (λ l. l ++ escaped rest) (byte_stands b (wide_stands b h.0.0)) ∙ ap (λ l. b ∷ l) (within_stand rest h.1)

-- a character that stays as it is
pub char_stands : (c : ℕ) → Stands c → escaped (encode c) ≡ encode c
char_stands c h = elim (cases_lt c 128) [
  | inl small ↦ ap (λ l. escaped l) (encode_ascii c small) ∙ ap (λ l. l ++ []) (byte_stands c h) ∙ sym (encode_ascii c small)
  | inr wide ↦
      let o = octets c in
      let far = o.high wide in
      let first = byte_stands o.first (wide_stands o.first (omega arith)) in
      rw o.whole (ap (λ l. l ++ escaped o.rest) first ∙ ap (λ l. o.first ∷ l) (within_stand o.rest o.within))
]

-- one turn of the loop over the characters, and its end
pub value_kept : (old new before after whole : List ℕ) (returned : Bool) (c : ℕ) → before ≡ encode c ++ after → (returned ≡ true → Differs 10 c) → new ≡ old ++ escaped (encode c) → old ++ value_behind returned before ≡ whole → new ++ value_behind (c == 13) after ≡ whole
value_kept old new before after whole returned c parts h added told =
    rw added (append_assoc old (escaped (encode c)) (value_behind (c == 13) after))
    ∙ (ap (λ l. old ++ l) (sym (value_step returned c after h)) ∙ (ap (λ l. old ++ value_behind returned l) (sym parts) ∙ told))

pub value_skipped : (old before after whole : List ℕ) (c : ℕ) → before ≡ encode c ++ after → c ≡ 10 → old ++ value_behind true before ≡ whole → old ++ value_behind false after ≡ whole
value_skipped old before after whole c parts feed told =
    ap (λ l. old ++ l) (sym (value_skip after)) ∙ (ap (λ n. old ++ value_behind true (encode n ++ after)) (sym feed) ∙ (ap (λ l. old ++ value_behind true l) (sym parts) ∙ told))

pub value_end : (returned : Bool) → value_behind returned [] ≡ []
value_end true = text_value-none
value_end false = text_value-none

pub value_ended : (old rest whole : List ℕ) (returned : Bool) → length rest ≡ 0 → old ++ value_behind returned rest ≡ whole → old ≡ whole
value_ended old rest whole returned empty told =
    sym (append-nil old) ∙ (ap (λ l. old ++ l) (sym (value_end returned)) ∙ (ap (λ l. old ++ value_behind returned l) (sym (nil_from_length rest empty)) ∙ told))
