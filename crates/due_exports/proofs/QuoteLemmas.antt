-- Texts whose quotes are doubled, one character after another.
use Rattle.std.proofs.Common.{◌≡◌, ℕ, ◌==◌, inl, inr, List, [], ◌∷◌, ◌++◌, length, refl, sym, ap, ◌∙◌, append_assoc, append-nil, arith}
use Rattle.std.proofs.lemmas.Bool.{cases_Bool, ne_eqb}
use Rattle.std.proofs.lemmas.List.{nil_from_length}
use Rattle.std.proofs.lemmas.Str.{encode_ascii}
use Rattle.std.specs.List.{AllByRecursion}
use lib.Utf8.{encode}
use Rattle.csv.specs.Writing.{escaped}
use Rattle.icalendar.proofs.Values.{Differs, encode_differs}
use Rattle.due_exports.specs.Records.{record_writer}

abbrev doubled : List ℕ → List ℕ
doubled text = escaped record_writer text

doubled-append : (xs ys : List ℕ) → doubled (xs ++ ys) ≡ doubled xs ++ doubled ys
unfolding escaped
doubled-append [] ys = refl
doubled-append (b ∷ xs) ys = elim (cases_Bool (b == 34)) [
  | inl same ↦ rw same (ap (λ l. 34 ∷ b ∷ l) (doubled-append xs ys))
  | inr other ↦ rw other (ap (λ l. b ∷ l) (doubled-append xs ys))
]

doubled-plain : (xs : List ℕ) → AllByRecursion (Differs 34) xs → doubled xs ≡ xs
unfolding escaped
doubled-plain [] h = refl
doubled-plain (b ∷ xs) h = let other = ne_eqb b 34 h.0 in rw other (ap (λ l. b ∷ l) (doubled-plain xs h.1))

doubled-none : doubled [] ≡ []
unfolding escaped
doubled-none = refl

-- a quote, and another character
pub quote_twice : (c : ℕ) → c ≡ 34 → escaped record_writer (encode c) ≡ 34 ∷ 34 ∷ []
unfolding escaped
quote_twice c quote = ap (λ n. doubled (encode n)) quote ∙ ap (λ l. doubled l) (encode_ascii 34 (omega arith))

pub other_once : (c : ℕ) → (c ≡ 34 → ⊥) → escaped record_writer (encode c) ≡ encode c
other_once c other = doubled-plain (encode c) (encode_differs c 34 (omega arith) other)

-- one turn of the loop over the characters, and its end
pub character_added : (old new before after whole : List ℕ) (c : ℕ) → before ≡ encode c ++ after → new ≡ old ++ escaped record_writer (encode c)
    → old ++ escaped record_writer before ≡ whole → new ++ escaped record_writer after ≡ whole
character_added old new before after whole c parts added told =
    rw added (append_assoc old (doubled (encode c)) (doubled after))
    ∙ (ap (λ l. old ++ l) (sym (doubled-append (encode c) after)) ∙ (ap (λ l. old ++ doubled l) (sym parts) ∙ told))

pub characters_ended : (old rest whole : List ℕ) → length rest ≡ 0 → old ++ escaped record_writer rest ≡ whole → old ≡ whole
characters_ended old rest whole empty told =
    sym (append-nil old) ∙ (ap (λ l. old ++ l) (sym doubled-none) ∙ (ap (λ l. old ++ doubled l) (sym (nil_from_length rest empty)) ∙ told))
