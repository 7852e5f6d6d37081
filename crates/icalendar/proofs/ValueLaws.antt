-- What a value holds, and how it is read.
use Rattle.std.proofs.Common.{◌≡◌, inl, inr, ℕ, ◌<◌, Bool, true, false, ◌==◌, ◌||◌, List, [], ◌∷◌, ◌++◌, IsUtf8, map, refl, ap, ap₂, ◌∙◌, subst, arith}
use Rattle.std.proofs.lemmas.Bool.{cases_lt, cases_eq, cases_Bool, both_ways, and_parts, cond_both, cond-false, eqb-true, eqb-false, ne_eqb}
use Rattle.std.proofs.lemmas.Bool.Decides.{nat_tests}
use Rattle.std.proofs.lemmas.Str.{encode_ascii, IsUtf8-append, IsUtf8-encode, IsUtf8-from_ascii, IsUtf8-nil}
use Rattle.std.specs.List.{flat_map, AllByRecursion}
use lib.Utf8.{scalar, scalars, encode, encodes}
use Rattle.civil_time.proofs.Written.{AreSmall, ascii_from}
use Rattle.icalendar.specs.ContentLines.{named}
use Rattle.icalendar.specs.Texts.{single_breaks, plain_byte, plain_text, escaped_byte, text_value, meant_byte, read_behind, read_value, IsInLine, HasNoBreak, IsPlain}
use Rattle.icalendar.proofs.Values.{escaped, Differs, single_breaks-other, wide_stands, char_stands, value_behind, value_end, value_skip, value_step}

pub all_append : (P : ℕ → Type 0) (xs ys : List ℕ) → AllByRecursion P xs → AllByRecursion P ys → AllByRecursion P (xs ++ ys)
all_append P [] ys h k = k
all_append P (x ∷ xs) ys h k = (h.0, all_append P xs ys h.1 k)

pub all_front : (P : ℕ → Type 0) (xs ys : List ℕ) → AllByRecursion P (xs ++ ys) → AllByRecursion P xs
all_front P [] ys h = tt
all_front P (x ∷ xs) ys h = (h.0, all_front P xs ys h.1)

pub all_back : (P : ℕ → Type 0) (xs ys : List ℕ) → AllByRecursion P (xs ++ ys) → AllByRecursion P ys
all_back P [] ys h = h
all_back P (x ∷ xs) ys h = all_back P xs ys h.1

plain_no_return : (b : ℕ) → Differs 13 (plain_byte b)
plain_no_return b = grind (arith, nat_tests)

plain_plain : (b : ℕ) → plain_byte (plain_byte b) ≡ plain_byte b
plain_plain b = grind (arith, nat_tests)

plain_differs : (b : ℕ) → plain_byte b ≡ b → Differs 13 b
plain_differs b h = grind (arith, nat_tests)

backslash_in_line : IsInLine 92
backslash_in_line = (λ e. omega arith, λ e. omega arith)

n_in_line : IsInLine 110
n_in_line = (λ e. omega arith, λ e. omega arith)

escaped_in_line : (b : ℕ) → Differs 13 b → HasNoBreak (escaped_byte b)
escaped_in_line b h =
    cond_both (b == 10) _ _ HasNoBreak (λ _. (backslash_in_line, (n_in_line, tt)))
    (λ no. cond_both (b == 92 || b == 59 || b == 44) _ _ HasNoBreak
    (λ _. (backslash_in_line, ((eqb-false b 10 no, h), tt))) (λ _. ((eqb-false b 10 no, h), tt)))

values_in_line : (bytes : List ℕ) → HasNoBreak (escaped bytes)
values_in_line [] = tt
values_in_line (b ∷ bytes) = all_append IsInLine (escaped_byte (plain_byte b)) (escaped bytes) (escaped_in_line (plain_byte b) (plain_no_return b)) (values_in_line bytes)

pub value_in_line : (text : List ℕ) → HasNoBreak (text_value text)
unfolding text_value plain_text
value_in_line text = values_in_line (single_breaks text)

-- a line of a name and a value
colon_in_line : IsInLine 58
colon_in_line = (λ e. omega arith, λ e. omega arith)

pub named_in_line : (name value : List ℕ) → HasNoBreak name → HasNoBreak value → HasNoBreak (named name value)
named_in_line name value front back = all_append IsInLine name (58 ∷ value) front (colon_in_line, back)

pub property_in_line : (name text : List ℕ) → HasNoBreak name → HasNoBreak (named name (text_value text))
property_in_line name text front = named_in_line name (text_value text) front (value_in_line text)

meant_itself : (b : ℕ) → (b == 92 || b == 59 || b == 44) ≡ true → meant_byte b ≡ b
meant_itself b h = grind (arith, nat_tests)

no_backslash : (b : ℕ) → (b == 92 || b == 59 || b == 44) ≡ false → Differs 92 b
no_backslash b h = grind (arith, nat_tests)

read_byte : (b : ℕ) (rest : List ℕ) → read_behind false (escaped_byte b ++ rest) ≡ b ∷ read_behind false rest
read_byte b rest =
    let P : List ℕ → Type 0 = λ l. read_behind false (l ++ rest) ≡ b ∷ read_behind false rest in
    cond_both (b == 10) _ _ P
    (λ feed. let same = eqb-true b 10 feed in rw same refl)
    (λ _. cond_both (b == 92 || b == 59 || b == 44) _ _ P
    (λ h. ap (λ x. x ∷ read_behind false rest) (meant_itself b h))
    (λ h. cond-false (b == 92) _ _ (ne_eqb b 92 (no_backslash b h))))

read_bytes : (bytes : List ℕ) → read_behind false (flat_map escaped_byte bytes) ≡ bytes
read_bytes [] = refl
read_bytes (b ∷ bytes) = read_byte b (flat_map escaped_byte bytes) ∙ ap (λ l. b ∷ l) (read_bytes bytes)

pub value_read : (text : List ℕ) → read_value (text_value text) ≡ plain_text text
unfolding read_value text_value
value_read text = read_bytes (plain_text text)

bytes_plain : (bytes : List ℕ) → IsPlain (map plain_byte bytes)
bytes_plain [] = tt
bytes_plain (b ∷ bytes) = (plain_plain b, bytes_plain bytes)

pub text_plain : (text : List ℕ) → IsPlain (plain_text text)
unfolding plain_text
text_plain text = bytes_plain (single_breaks text)

single_already : (text : List ℕ) → IsPlain text → single_breaks text ≡ text
single_already [] h = refl
single_already (b ∷ text) h = single_breaks-other b text (plain_differs b h.0) ∙ ap (λ l. b ∷ l) (single_already text h.1)

plain_already : (text : List ℕ) → IsPlain text → map plain_byte text ≡ text
plain_already [] h = refl
plain_already (b ∷ text) h = ap₂ (λ (x : ℕ) (l : List ℕ). x ∷ l) h.0 (plain_already text h.1)

pub text_itself : (text : List ℕ) → IsPlain text → plain_text text ≡ text
unfolding plain_text
text_itself text h = ap (map plain_byte) (single_already text h) ∙ plain_already text h

-- UTF-8 stays UTF-8
abbrev IsTextEnd : List ℕ → Type 0
IsTextEnd l = AreSmall (l ++ [])

small_byte : (b : ℕ) → b < 128 → IsTextEnd (escaped_byte b)
small_byte b small =
    cond_both (b == 10) _ _ IsTextEnd (λ _. (omega arith, (omega arith, tt)))
    (λ _. cond_both (b == 92 || b == 59 || b == 44) _ _ IsTextEnd (λ _. (omega arith, (small, tt))) (λ _. (small, tt)))

plain_small : (b : ℕ) → b < 128 → plain_byte b < 128
plain_small b small = grind (arith, nat_tests)

char_utf8 : (c : ℕ) → scalar c ≡ true → IsUtf8 (escaped (encode c))
char_utf8 c valid = elim (cases_lt c 128) [
  | inl small ↦ rw (encode_ascii c small) (IsUtf8-from_ascii _ (ascii_from _ (small_byte (plain_byte c) (plain_small c small))))
  | inr wide ↦ rw (char_stands c (wide_stands c wide)) (IsUtf8-encode c valid)
]

behind_utf8 : (returned : Bool) (cs : List ℕ) → scalars cs ≡ true → IsUtf8 (value_behind returned (encodes cs))
behind_utf8 returned [] valid = rw (value_end returned) IsUtf8-nil
behind_utf8 returned (c ∷ cs) valid =
    let both = and_parts (scalar c) (scalars cs) valid in
    let step : (returned ≡ true → Differs 10 c) → IsUtf8 (value_behind returned (encodes (c ∷ cs))) =
    λ h. rw (value_step returned c (encodes cs) h) (IsUtf8-append (escaped (encode c)) (value_behind (c == 13) (encodes cs)) (char_utf8 c both.0) (behind_utf8 (c == 13) cs both.1)) in
    elim (cases_Bool returned) [
      | inr not_so ↦ step (λ is. absurd (both_ways returned not_so is))
      | inl is ↦ elim (cases_eq c 10) [
        | inl feed ↦ rw (is, feed, value_skip (encodes cs)) (behind_utf8 false cs both.1)
        | inr other ↦ step (λ _. other)
      ]
    ]

pub value_utf8 : (text : List ℕ) → IsUtf8 text → IsUtf8 (text_value text)
value_utf8 text is = subst (λ l. IsUtf8 (text_value l)) is.1.1 (behind_utf8 false is.0 is.1.0)
