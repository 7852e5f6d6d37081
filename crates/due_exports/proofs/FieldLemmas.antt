-- Fields that are added to a record one after another.
use Rattle.std.proofs.Common.{◌≡◌, ℕ, List, [], ◌∷◌, ◌++◌, refl, sym, ap, ◌∙◌, append_assoc, append-nil}
use Rattle.csv.specs.Writing.{field_text, fields_text, is_blank, row_body, row_text}
use Rattle.due_exports.specs.Records.{record_writer}

-- a field behind those before it
abbrev pub next_field : List ℕ → List ℕ
next_field field = 44 ∷ field_text record_writer field

-- the fields from one on, and the end of the record
abbrev pub left : List (List ℕ) → List ℕ
left fields = fields_text record_writer fields ++ 13 ∷ 10 ∷ []

pub meant : (old new field told : List ℕ) → new ≡ old ++ next_field field → field ≡ told → new ≡ old ++ next_field told
meant old new field told e same = e ∙ ap (λ f. old ++ next_field f) same

pub first_three : (old t1 t2 t3 a b c : List ℕ) → t1 ≡ old ++ field_text record_writer a → t2 ≡ t1 ++ next_field b → t3 ≡ t2 ++ next_field c
    → t3 ≡ old ++ row_body record_writer (a ∷ b ∷ c ∷ [])
unfolding fields_text
first_three old t1 t2 t3 a b c e1 e2 e3 =
    let first = field_text record_writer a in
    rw (e3, e2, e1) (append_assoc (old ++ first) (next_field b) (next_field c)
    ∙ append_assoc old first (next_field b ++ next_field c)
    ∙ ap (λ l. old ++ (first ++ (next_field b ++ 44 ∷ l))) (sym (append-nil (field_text record_writer c))))

fields-append : (xs ys : List (List ℕ)) → fields_text record_writer (xs ++ ys) ≡ fields_text record_writer xs ++ fields_text record_writer ys
unfolding fields_text
fields-append [] ys = refl
fields-append (x ∷ xs) ys =
    ap (λ l. 44 ∷ (field_text record_writer x ++ l)) (fields-append xs ys)
    ∙ ap (λ l. 44 ∷ l) (sym (append_assoc (field_text record_writer x) (fields_text record_writer xs) (fields_text record_writer ys)))

-- the first three fields of a record with more, and what is left of it
pub begun : (t0 t1 a b c d : List ℕ) (more : List (List ℕ)) → t0 ≡ [] → t1 ≡ t0 ++ row_body record_writer (a ∷ b ∷ c ∷ [])
    → t1 ++ left (d ∷ more) ≡ row_text record_writer (a ∷ b ∷ c ∷ d ∷ more)
unfolding is_blank
begun t0 t1 a b c d more e0 e1 =
    let two = fields_text record_writer (b ∷ c ∷ []) in
    let rest = fields_text record_writer (d ∷ more) in
    rw (e1, e0) (append_assoc (field_text record_writer a) two (left (d ∷ more))
    ∙ ap (λ l. field_text record_writer a ++ l) (sym (append_assoc two rest (13 ∷ 10 ∷ [])))
    ∙ ap (λ l. field_text record_writer a ++ (l ++ 13 ∷ 10 ∷ [])) (sym (fields-append (b ∷ c ∷ []) (d ∷ more)))
    ∙ sym (append_assoc (field_text record_writer a) (fields_text record_writer (b ∷ c ∷ d ∷ more)) (13 ∷ 10 ∷ [])))

-- one more field
pub added : (old new field whole : List ℕ) (more : List (List ℕ)) → new ≡ old ++ next_field field → old ++ left (field ∷ more) ≡ whole
    → new ++ left more ≡ whole
unfolding fields_text
added old new field whole more e told =
    let text = field_text record_writer field in
    rw e (append_assoc old (next_field field) (left more)
    ∙ ap (λ l. old ++ 44 ∷ l) (sym (append_assoc text (fields_text record_writer more) (13 ∷ 10 ∷ [])))
    ∙ told)

pub ended : (old new whole : List ℕ) → new ≡ old ++ 13 ∷ 10 ∷ [] → old ++ left [] ≡ whole → new ≡ whole
unfolding fields_text
ended old new whole e told = e ∙ told
