-- A record with CR LF behind it, as csv's reader with its defaults reads it.
use Rattle.std.proofs.Common.{◌≡◌, ◌==◌, ◌++◌, ◌∷◌, ◌∙◌, [], ℕ, List, Some, None, refl, ap, subst, false, append_assoc, inl, inr}
use Rattle.std.specs.List.{list_any}
use Rattle.std.proofs.lemmas.Bool.{cases_Bool, false_from_ne_true, or_parts}
use Rattle.csv.specs.Machine.{next_record}
use Rattle.csv.specs.Reading.{default_config}
use Rattle.csv.specs.Writing.{default_writer, escaped, field_text, fields_text, is_blank, needs_byte, row_text}
use Rattle.csv.specs.declared.parser.State.TheVariants as st
use Rattle.csv.proofs.RoundTrip.{field-run, record-same}
use Rattle.due_exports.specs.Records.{record_writer}

-- the writer of records writes its fields as csv's writer with its defaults does
escaped-same : (x : List ℕ) → escaped record_writer x ≡ escaped default_writer x
unfolding escaped
escaped-same [] = refl
escaped-same (b ∷ rest) = rw (escaped-same rest) refl

field-same : (x : List ℕ) → field_text record_writer x ≡ field_text default_writer x
field-same x = rw (escaped-same x) refl

fields-same : (xs : List (List ℕ)) → fields_text record_writer xs ≡ fields_text default_writer xs
unfolding fields_text
fields-same [] = refl
fields-same (x ∷ xs) = rw (field-same x, fields-same xs) refl

-- a byte that needs no quotes is no mark of the format
plain-byte : (b : ℕ) → needs_byte default_writer b ≡ false → ((b == 13) ≡ false) × ((b == 10) ≡ false)
plain-byte b e =
    let a = false_from_ne_true (b == 44) (λ t. cc (rw t at e)) in
    let q = false_from_ne_true (b == 34) (λ t. cc (rw (a, t) at e)) in
    let r = false_from_ne_true (b == 13) (λ t. cc (rw (a, q, t) at e)) in
    let n = false_from_ne_true (b == 10) (λ t. cc (rw (a, q, r, t) at e)) in
    (r, n)

-- a comma ends a field
end-field : (fields : List (List ℕ)) (x u : List ℕ)
    → next_record default_config st.InField fields x (44 ∷ u) ≡ next_record default_config st.StartField (fields ++ (x ∷ [])) [] u
unfolding next_record
end-field fields x u = refl

-- what follows a field, before the end of the record
abbrev head-of : List (List ℕ) → ℕ
head-of [] = 13
head-of (z ∷ zs) = 44

abbrev tail-of : List (List ℕ) → List ℕ → List ℕ
tail-of [] tail = tail
tail-of (z ∷ zs) tail = (field_text default_writer z ++ fields_text default_writer zs) ++ (13 ∷ tail)

text-head : (ys : List (List ℕ)) (tail : List ℕ) → fields_text default_writer ys ++ (13 ∷ tail) ≡ head-of ys ∷ tail-of ys tail
unfolding fields_text
text-head [] tail = refl
text-head (z ∷ zs) tail = refl

head-plain : (ys : List (List ℕ)) → (head-of ys == 34) ≡ false
head-plain [] = refl
head-plain (z ∷ zs) = refl

-- the rest of a record behind a field, up to the CR
rest-run : (fields : List (List ℕ)) (x : List ℕ) (rest : List (List ℕ)) (tail : List ℕ)
    → next_record default_config st.InField fields x (fields_text default_writer rest ++ (13 ∷ tail)) ≡ Some (fields ++ (x ∷ rest), st.AfterCr, tail)
unfolding next_record fields_text
rest-run fields x [] tail = refl
rest-run fields x (y ∷ ys) tail =
    let e = text-head ys tail in
    let u : (field_text default_writer y ++ fields_text default_writer ys) ++ (13 ∷ tail) ≡ field_text default_writer y ++ (head-of ys ∷ tail-of ys tail) =
    append_assoc (field_text default_writer y) (fields_text default_writer ys) (13 ∷ tail) ∙ ap (λ (t : List ℕ). field_text default_writer y ++ t) e in
    let run = field-run (fields ++ (x ∷ [])) y (head-of ys) (tail-of ys tail) (head-plain ys) in
    let more = rest-run (fields ++ (x ∷ [])) y ys tail in
    let back = subst (λ (t : List ℕ). next_record default_config st.InField (fields ++ (x ∷ [])) y t ≡ Some ((fields ++ (x ∷ [])) ++ (y ∷ ys), st.AfterCr, tail)) e more in
    rw (end-field fields x _, u) (run ∙ back ∙ rw (append_assoc fields (x ∷ []) (y ∷ ys)) refl)

-- a record begins as its first field does
first-plain : (x : List ℕ) (tail : List ℕ) → list_any (needs_byte default_writer) x ≡ false
    → next_record default_config st.StartRecord [] [] (x ++ (44 ∷ tail)) ≡ next_record default_config st.StartField [] [] (x ++ (44 ∷ tail))
first-plain [] tail p = record-same [] [] 44 tail refl refl
first-plain (b ∷ rest) tail p =
    let q = plain-byte b (or_parts _ _ p).0 in
    record-same [] [] b (rest ++ (44 ∷ tail)) q.0 q.1

first-field : (x : List ℕ) (tail : List ℕ)
    → next_record default_config st.StartRecord [] [] (field_text default_writer x ++ (44 ∷ tail))
    ≡ next_record default_config st.StartField [] [] (field_text default_writer x ++ (44 ∷ tail))
first-field x tail = elim (cases_Bool (list_any (needs_byte default_writer) x)) [
  | inl needs ↦ rw needs (record-same [] [] 34 _ refl refl)
  | inr plain ↦ rw plain (first-plain x tail plain)
]

row-parts : (x y : List ℕ) (ys : List (List ℕ)) (tail : List ℕ)
    → row_text record_writer (x ∷ y ∷ ys) ++ tail ≡ field_text default_writer x ++ (fields_text default_writer (y ∷ ys) ++ (13 ∷ 10 ∷ tail))
unfolding is_blank
row-parts x y ys tail =
    rw (field-same x, fields-same (y ∷ ys)) (append_assoc (field_text default_writer x ++ fields_text default_writer (y ∷ ys)) (13 ∷ 10 ∷ []) tail
    ∙ append_assoc (field_text default_writer x) (fields_text default_writer (y ∷ ys)) (13 ∷ 10 ∷ tail))

-- a record of more than one field is read up to its CR
pub row-read : (x y : List ℕ) (ys : List (List ℕ)) (tail : List ℕ)
    → next_record default_config st.StartRecord [] [] (row_text record_writer (x ∷ y ∷ ys) ++ tail) ≡ Some (x ∷ y ∷ ys, st.AfterCr, 10 ∷ tail)
row-read x y ys tail =
    let e = text-head (y ∷ ys) (10 ∷ tail) in
    let run = field-run [] x 44 (tail-of (y ∷ ys) (10 ∷ tail)) refl in
    let more = subst (λ (t : List ℕ). next_record default_config st.InField [] x t ≡ Some ([] ++ (x ∷ y ∷ ys), st.AfterCr, 10 ∷ tail)) e (rest-run [] x (y ∷ ys) (10 ∷ tail)) in
    rw (row-parts x y ys tail, e) (first-field x (tail-of (y ∷ ys) (10 ∷ tail)) ∙ run ∙ more)

-- an LF behind the CR is skipped
pub after-return : (rest : List ℕ) → next_record default_config st.AfterCr [] [] (10 ∷ rest) ≡ next_record default_config st.StartRecord [] [] rest
unfolding next_record
after-return rest = refl

pub return-end : next_record default_config st.StartRecord [] [] [] ≡ None
unfolding next_record
return-end = refl
