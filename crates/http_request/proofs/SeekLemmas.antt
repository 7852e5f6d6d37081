-- Which route a router of literal rows finds, by the text of the path.
use Rattle.std.proofs.Common.{◌≡◌, ℕ, ◌+◌, ◌-◌, List, [], ◌∷◌, ◌++◌, length, drop, length-append, refl, ap, sym, subst, ◌∙◌, Option, Some, None, Bool, true, false, cond, ◌==◌, ◌&&◌, zero, suc, ltb, nat_eq, eqb, arith}
use Rattle.std.proofs.Math.Seq.{drop-append_seam}
use Rattle.std.proofs.lemmas.Bool.{and_from, and_right, eqb-false, eqb-true, lt-ltb, ne_eqb}
use Rattle.std.specs.Cmp.Lexicographic.{pointwise}
use Rattle.matchit.specs.Rows.{RowsOf, param_token, catch_all_token}
use Rattle.matchit.specs.Seek.{seek, step, own, or_else, param_step, segment, has_slash, with_suffix, cuts}
use Rattle.http_request.specs.Path.{behind, at_slash}

-- no literal byte is a wildcard
abbrev pub is_literal : List ℕ → Bool
is_literal [] = true
is_literal (x ∷ word) = cond (x == param_token) false (cond (x == catch_all_token) false (is_literal word))

cond-false : (c r : Bool) → cond c false r ≡ true → (c ≡ false) × (r ≡ true)
cond-false true r h = absurd (cc)
cond-false false r h = (refl, h)

cond-true : (c r : Bool) → cond c r false ≡ true → (c ≡ true) × (r ≡ true)
cond-true true r h = (refl, h)
cond-true false r h = absurd (cc)

module _ {K : Type 0} where
  -- the rows with a word in front
  abbrev pub under : List ℕ → RowsOf K → RowsOf K
  under word [] = []
  under word ((t, k) ∷ rest) = (word ++ t, k) ∷ under word rest

  or_else-none : (a : Option K) → or_else a None ≡ a
  or_else-none None = refl
  or_else-none (Some k) = refl

  or_else-both : (a b : Option K) → a ≡ None → b ≡ None → or_else a (or_else b None) ≡ None
  or_else-both a b p q = ap (λ x. or_else x (or_else b None)) p ∙ ap (λ y. or_else y None) q

  param_step-nothing : (path : List ℕ) → (param_step {K = K} [] path).1 ≡ []
  unfolding param_step
  param_step-nothing path =
      elim (has_slash path) as (λ (v : Bool). (cond {A = ℕ × RowsOf K} v (0, []) (length path, [])).1 ≡ []) [ true ↦ refl | false ↦ refl ]

  pub seek-nothing : (n : ℕ) (path : List ℕ) → seek {K = K} n [] path ≡ None
  unfolding seek
  seek-nothing n [] = refl
  seek-nothing (suc n) (b ∷ path) = seek-nothing n path
  seek-nothing zero (b ∷ path) =
      let n : ℕ = (param_step {K = K} [] (b ∷ path)).0 - 1 in
      ap (λ rs. or_else (seek {K = K} 0 [] path) (or_else (seek n rs path) None)) (param_step-nothing (b ∷ path))
      ∙ or_else-both (seek 0 [] path) (seek n [] path) (seek-nothing 0 path) (seek-nothing n path)

  pub seek-literal : (b : ℕ) (path : List ℕ) (rs : RowsOf K) → step param_token rs ≡ [] → step catch_all_token rs ≡ []
      → seek 0 rs (b ∷ path) ≡ seek 0 (step b rs) path
  unfolding seek
  seek-literal b path rs p q =
      let n : ℕ = (param_step {K = K} (step param_token rs) (b ∷ path)).0 - 1 in
      let front : Option K = seek 0 (step b rs) path in
      let none : (param_step (step param_token rs) (b ∷ path)).1 ≡ [] = ap (λ r. (param_step {K = K} r (b ∷ path)).1) p ∙ param_step-nothing (b ∷ path) in
      ap (λ r. or_else front (or_else (seek n r path) (own (step catch_all_token rs)))) none
      ∙ ap (λ o. or_else front (or_else o (own (step catch_all_token rs)))) (seek-nothing n path)
      ∙ ap (λ r. or_else front (own r)) q
      ∙ or_else-none front

  under-nil : (A : RowsOf K) → under [] A ≡ A
  under-nil [] = refl
  under-nil ((t, k) ∷ rest) = ap (λ r. (t, k) ∷ r) (under-nil rest)

  step-cond : (v : Bool) (h : List ℕ × K) (S U : RowsOf K) → S ≡ cond v U [] → cond v (h ∷ S) S ≡ cond v (h ∷ U) []
  step-cond true h S U e = ap (λ r. h ∷ r) e
  step-cond false h S U e = e

  step-under : (x b : ℕ) (word : List ℕ) (A : RowsOf K) → step b (under (x ∷ word) A) ≡ cond (x == b) (under word A) []
  step-under x b word [] = elim (x == b) as (λ v. [] ≡ cond {A = RowsOf K} v [] []) [ true ↦ refl | false ↦ refl ]
  step-under x b word ((t, k) ∷ rest) = step-cond (x == b) (word ++ t, k) (step b (under (x ∷ word) rest)) (under word rest) (step-under x b word rest)

  own-under : (x : ℕ) (word : List ℕ) (A B : RowsOf K) → own (under (x ∷ word) A ++ B) ≡ own B
  own-under x word [] B = refl
  own-under x word ((t, k) ∷ rest) B = own-under x word rest B

  own-under_alone : (x : ℕ) (word : List ℕ) (A : RowsOf K) → own (under (x ∷ word) A) ≡ None
  own-under_alone x word [] = refl
  own-under_alone x word ((t, k) ∷ rest) = own-under_alone x word rest

  -- no row goes on with what no byte of the word is
  step-under_other : (x b : ℕ) (word : List ℕ) (A : RowsOf K) → x == b ≡ false → step b (under (x ∷ word) A) ≡ []
  step-under_other x b word A e = step-under x b word A ∙ ap (λ v. cond v (under word A) []) e

  -- what is sought behind a prefix
  abbrev pub seek_behind : RowsOf K → Option (List ℕ) → Option K
  seek_behind A None = None
  seek_behind A (Some path) = seek 0 A path

  seek-cond : (v : Bool) (word : List ℕ) (A : RowsOf K) (path : List ℕ) → seek 0 (under word A) path ≡ seek_behind A (behind word path)
      → seek 0 (cond v (under word A) []) path ≡ seek_behind A (cond v (behind word path) None)
  seek-cond true word A path e = e
  seek-cond false word A path e = seek-nothing 0 path

  -- rows under a word match what the rest of the path behind the word does
  pub seek-under : (word : List ℕ) (A : RowsOf K) (path : List ℕ) → is_literal word ≡ true
      → seek 0 (under word A) path ≡ seek_behind A (behind word path)
  unfolding seek
  seek-under [] A path h = ap (λ r. seek 0 r path) (under-nil A)
  seek-under (x ∷ word) A [] h = own-under_alone x word A
  seek-under (x ∷ word) A (b ∷ path) h =
      let one = cond-false (x == param_token) (cond (x == catch_all_token) false (is_literal word)) h in
      let two = cond-false (x == catch_all_token) (is_literal word) one.1 in
      seek-literal b path (under (x ∷ word) A) (step-under_other x param_token word A one.0) (step-under_other x catch_all_token word A two.0)
      ∙ ap (λ r. seek 0 r path) (step-under x b word A)
      ∙ seek-cond (x == b) word A path (seek-under word A path two.1)

  step-append : (b : ℕ) (A B : RowsOf K) → step b (A ++ B) ≡ step b A ++ step b B
  step-append b [] B = refl
  step-append b (([], k) ∷ A) B = step-append b A B
  step-append b ((x ∷ t, k) ∷ A) B =
      elim (x == b) as (λ v. cond v ((t, k) ∷ step b (A ++ B)) (step b (A ++ B)) ≡ cond v ((t, k) ∷ step b A) (step b A) ++ step b B)
      [ true ↦ ap (λ r. (t, k) ∷ r) (step-append b A B) | false ↦ step-append b A B ]

  abbrev pub is_none : RowsOf K → Bool
  is_none [] = true
  is_none (row ∷ rest) = false

  none-is : (A : RowsOf K) → is_none A ≡ true → A ≡ []
  none-is [] h = refl
  none-is (row ∷ rest) h = absurd (cc)

  -- the rows B part from the word before its end, with no wildcard on the way
  abbrev pub is_apart : List ℕ → RowsOf K → Bool
  is_apart [] B = is_none B
  is_apart (x ∷ word) B = cond (is_none (step param_token B)) (cond (is_none (step catch_all_token B)) (is_apart word (step x B)) false) false

  or_else-left : (a b : Option K) → b ≡ None → or_else a b ≡ a
  or_else-left a b e = ap (λ o. or_else a o) e ∙ or_else-none a

  append-none : (A : RowsOf K) → A ++ [] ≡ A
  append-none [] = refl
  append-none (row ∷ A) = ap (λ r. row ∷ r) (append-none A)

  -- a step on a byte that the word goes on with, or doesn't
  apart-step : (x b : ℕ) (W B : RowsOf K) (path : List ℕ) (v : Bool) → (x == b) ≡ v
      → seek 0 (W ++ step x B) path ≡ or_else (seek 0 W path) (seek 0 (step x B) path)
      → seek 0 (cond v W [] ++ step b B) path ≡ or_else (seek 0 (cond v W []) path) (seek 0 (step b B) path)
  apart-step x b W B path true e ih =
      let P : ℕ → Type 0 = λ y. seek 0 (W ++ step y B) path ≡ or_else (seek 0 W path) (seek 0 (step y B) path) in
      subst P (eqb-true x b e) ih
  apart-step x b W B path false e ih = sym (ap (λ o. or_else o (seek 0 (step b B) path)) (seek-nothing 0 path))

  -- rows under a word, and others that part from it, are sought one after the other
  pub seek-apart : (word : List ℕ) (A B : RowsOf K) (path : List ℕ) → is_literal word ≡ true → is_apart word B ≡ true
      → seek 0 (under word A ++ B) path ≡ or_else (seek 0 (under word A) path) (seek 0 B path)
  unfolding seek
  seek-apart [] A B path h k =
      let none = none-is B k in
      ap (λ r. seek 0 (under [] A ++ r) path) none ∙ ap (λ r. seek 0 r path) (append-none (under [] A))
      ∙ sym (or_else-left (seek 0 (under [] A) path) (seek 0 B path) (ap (λ r. seek 0 r path) none ∙ seek-nothing 0 path))
  seek-apart (x ∷ word) A B [] h k = own-under x word A B ∙ sym (ap (λ o. or_else o (own B)) (own-under_alone x word A))
  seek-apart (x ∷ word) A B (b ∷ path) h k =
      let one = cond-false (x == param_token) (cond (x == catch_all_token) false (is_literal word)) h in
      let two = cond-false (x == catch_all_token) (is_literal word) one.1 in
      let ka = cond-true (is_none (step param_token B)) (cond (is_none (step catch_all_token B)) (is_apart word (step x B)) false) k in
      let kb = cond-true (is_none (step catch_all_token B)) (is_apart word (step x B)) ka.1 in
      let pa : step param_token (under (x ∷ word) A) ≡ [] = step-under_other x param_token word A one.0 in
      let pc : step catch_all_token (under (x ∷ word) A) ≡ [] = step-under_other x catch_all_token word A two.0 in
      let ba : step param_token B ≡ [] = none-is (step param_token B) ka.0 in
      let bc : step catch_all_token B ≡ [] = none-is (step catch_all_token B) kb.0 in
      seek-literal b path (under (x ∷ word) A ++ B)
      (step-append param_token (under (x ∷ word) A) B ∙ ap (λ r. r ++ step param_token B) pa ∙ ba)
      (step-append catch_all_token (under (x ∷ word) A) B ∙ ap (λ r. r ++ step catch_all_token B) pc ∙ bc)
      ∙ ap (λ r. seek 0 r path) (step-append b (under (x ∷ word) A) B)
      ∙ ap (λ r. seek 0 (r ++ step b B) path) (step-under x b word A)
      ∙ apart-step x b (under word A) B path (x == b) refl (seek-apart word A (step x B) path two.1 kb.1)
      ∙ ap (λ r. or_else (seek 0 r path) (seek 0 (step b B) path)) (sym (step-under x b word A))
      ∙ ap (λ o. or_else o (seek 0 (step b B) path)) (sym (seek-literal b path (under (x ∷ word) A) pa pc))
      ∙ ap (λ o. or_else (seek 0 (under (x ∷ word) A) (b ∷ path)) o) (sym (seek-literal b path B ba bc))

  -- a parameter comes next
  pub seek-param : (b : ℕ) (path : List ℕ) (Q : RowsOf K) → param_token == b ≡ false
      → seek 0 (under (param_token ∷ []) Q) (b ∷ path) ≡ seek ((param_step Q (b ∷ path)).0 - 1) (param_step Q (b ∷ path)).1 path
  unfolding seek
  seek-param b path Q e =
      let U : RowsOf K = under (param_token ∷ []) Q in
      let at_b : step b U ≡ [] = step-under_other param_token b [] Q e in
      let at_param : step param_token U ≡ Q = step-under param_token param_token [] Q ∙ under-nil Q in
      let at_all : step catch_all_token U ≡ [] = step-under param_token catch_all_token [] Q in
      let found : RowsOf K → Option K = λ r. seek ((param_step r (b ∷ path)).0 - 1) (param_step r (b ∷ path)).1 path in
      ap (λ r. or_else (seek 0 r path) (or_else (found (step param_token U)) (own (step catch_all_token U)))) at_b
      ∙ ap (λ o. or_else o (or_else (found (step param_token U)) (own (step catch_all_token U)))) (seek-nothing 0 path)
      ∙ ap (λ r. or_else (found (step param_token U)) (own r)) at_all
      ∙ or_else-none (found (step param_token U))
      ∙ ap found at_param

  -- bytes that a parameter took are skipped
  pub seek-skip : (part rest : List ℕ) (rs : RowsOf K) → seek (length part) rs (part ++ rest) ≡ seek 0 rs rest
  unfolding seek
  seek-skip [] rest rs = refl
  seek-skip (b ∷ part) rest rs = seek-skip part rest rs

-- the first segment, by where the first slash is
abbrev pub segment_by : List ℕ × Option (List ℕ) → List ℕ
segment_by (part, None) = part
segment_by (part, Some rest) = part ++ 47 ∷ []

-- the text, by where the first slash is
abbrev pub whole_by : List ℕ × Option (List ℕ) → List ℕ
whole_by (part, None) = part
whole_by (part, Some rest) = part ++ 47 ∷ rest

segment_by-cons : (b : ℕ) (p : List ℕ × Option (List ℕ)) → segment_by (b ∷ p.0, p.1) ≡ b ∷ segment_by p
segment_by-cons b (part, None) = refl
segment_by-cons b (part, Some rest) = refl

whole_by-cons : (b : ℕ) (p : List ℕ × Option (List ℕ)) → whole_by (b ∷ p.0, p.1) ≡ b ∷ whole_by p
whole_by-cons b (part, None) = refl
whole_by-cons b (part, Some rest) = refl

segment-step : (b : ℕ) (text : List ℕ) (v : Bool) → (b == 47) ≡ v → segment text ≡ segment_by (at_slash text)
    → cond v (b ∷ []) (b ∷ segment text) ≡ segment_by (cond v ([], Some text) (b ∷ (at_slash text).0, (at_slash text).1))
segment-step b text true e ih = ap (λ y. y ∷ []) (eqb-true b 47 e)
segment-step b text false e ih = ap (λ s. b ∷ s) ih ∙ sym (segment_by-cons b (at_slash text))

pub segment-at : (text : List ℕ) → segment text ≡ segment_by (at_slash text)
segment-at [] = refl
segment-at (b ∷ text) = segment-step b text (b == 47) refl (segment-at text)

whole-step : (b : ℕ) (text : List ℕ) (v : Bool) → (b == 47) ≡ v → text ≡ whole_by (at_slash text)
    → b ∷ text ≡ whole_by (cond v ([], Some text) (b ∷ (at_slash text).0, (at_slash text).1))
whole-step b text true e ih = ap (λ y. y ∷ text) (eqb-true b 47 e)
whole-step b text false e ih = ap (λ s. b ∷ s) ih ∙ sym (whole_by-cons b (at_slash text))

pub whole-at : (text : List ℕ) → text ≡ whole_by (at_slash text)
whole-at [] = refl
whole-at (b ∷ text) = whole-step b text (b == 47) refl (whole-at text)

free-step : (b : ℕ) (text : List ℕ) (v : Bool) → (b == 47) ≡ v → has_slash (at_slash text).0 ≡ false
    → has_slash (cond {A = List ℕ × Option (List ℕ)} v ([], Some text) (b ∷ (at_slash text).0, (at_slash text).1)).0 ≡ false
free-step b text true e ih = refl
free-step b text false e ih = ap (λ v. cond v true (has_slash (at_slash text).0)) e ∙ ih

-- the part before the first slash has none
pub part-free : (text : List ℕ) → has_slash (at_slash text).0 ≡ false
part-free [] = refl
part-free (b ∷ text) = free-step b text (b == 47) refl (part-free text)

has_slash-append : (part rest : List ℕ) → has_slash (part ++ 47 ∷ rest) ≡ true
has_slash-append [] rest = refl
has_slash-append (b ∷ part) rest = elim (b == 47) as (λ v. cond v true (has_slash (part ++ 47 ∷ rest)) ≡ true) [ true ↦ refl | false ↦ has_slash-append part rest ]

ends-cond : (c : Bool) (x : Bool) → cond c true x ≡ false → (c ≡ false) × (x ≡ false)
ends-cond true x h = absurd (cc)
ends-cond false x h = (refl, h)

-- a text with no slash doesn't end with one
ends-free : (n : ℕ) (text : List ℕ) → has_slash text ≡ false → pointwise nat_eq (47 ∷ []) (drop n text) ≡ false
ends-free zero [] h = refl
ends-free (suc n) [] h = refl
ends-free zero (b ∷ text) h =
    let other : eqb 47 b ≡ false = ne_eqb 47 b (λ same. eqb-false b 47 (ends-cond (b == 47) (has_slash text) h).0 (sym same)) in
    ap (λ v. v && pointwise nat_eq [] text) other
ends-free (suc n) (b ∷ text) h = ends-free n text (ends-cond (b == 47) (has_slash text) h).1

cuts-free : (text : List ℕ) → has_slash text ≡ false → cuts text (47 ∷ []) ≡ false
cuts-free text h = and_right (ltb 1 (length text)) (pointwise nat_eq (47 ∷ []) (drop (length text - 1) text)) (ends-free (length text - 1) text h)

cuts-part : (c : ℕ) (part : List ℕ) → cuts ((c ∷ part) ++ 47 ∷ []) (47 ∷ []) ≡ true
cuts-part c part =
    let long : length ((c ∷ part) ++ 47 ∷ []) ≡ length (c ∷ part) + 1 = length-append (c ∷ part) (47 ∷ []) in
    let n : length ((c ∷ part) ++ 47 ∷ []) - 1 ≡ length (c ∷ part) = omega (arith, long) in
    and_from (ltb 1 (length ((c ∷ part) ++ 47 ∷ []))) (pointwise nat_eq (47 ∷ []) (drop (length ((c ∷ part) ++ 47 ∷ []) - 1) ((c ∷ part) ++ 47 ∷ [])))
    (lt-ltb 1 (length ((c ∷ part) ++ 47 ∷ [])) (omega (arith, long)))
    (ap (λ m. pointwise nat_eq (47 ∷ []) (drop m ((c ∷ part) ++ 47 ∷ []))) n ∙ ap (λ xs. pointwise nat_eq (47 ∷ []) xs) (drop-append_seam (c ∷ part) (47 ∷ [])))

module _ {K : Type 0} where
  param_step-one : (text : List ℕ) (k : K) → param_step (([], k) ∷ []) text ≡ cond (has_slash text) (0, []) (length text, ([], k) ∷ [])
  unfolding param_step
  param_step-one text k = refl

  param_step-two : (text t : List ℕ) (k : K) (v : Bool) → cuts (segment text) (47 ∷ []) ≡ v
      → param_step ((47 ∷ t, k) ∷ []) text ≡ cond v (length (segment text) - 1, (47 ∷ t, k) ∷ []) (cond (has_slash text) (0, []) (length text, (47 ∷ t, k) ∷ []))
  unfolding param_step
  param_step-two text t k v e =
      let Q : RowsOf K = (47 ∷ t, k) ∷ [] in
      let suffix : Bool → List ℕ = λ w. cond w (47 ∷ []) [] in
      let F : Bool → ℕ × RowsOf K = λ w. cond (ltb 0 (length (suffix w))) (length (segment text) - length (suffix w), with_suffix (suffix w) Q) (cond (has_slash text) (0, []) (length text, Q)) in
      ap F e ∙ elim v as (λ w. F w ≡ cond w (length (segment text) - 1, Q) (cond (has_slash text) (0, []) (length text, Q))) [ true ↦ refl | false ↦ refl ]

  param_step-three : (text t : List ℕ) (k l : K) (v : Bool) → cuts (segment text) (47 ∷ []) ≡ v
      → param_step ((47 ∷ t, k) ∷ ([], l) ∷ []) text ≡ cond v (length (segment text) - 1, (47 ∷ t, k) ∷ []) (cond (has_slash text) (0, []) (length text, (47 ∷ t, k) ∷ ([], l) ∷ []))
  unfolding param_step
  param_step-three text t k l v e =
      let Q : RowsOf K = (47 ∷ t, k) ∷ ([], l) ∷ [] in
      let one : Bool → List ℕ = λ w. cond w (47 ∷ []) [] in
      let suffix : Bool → List ℕ = λ w. cond (ltb (length (one w)) 0 && cuts (segment text) []) [] (one w) in
      let F : Bool → ℕ × RowsOf K = λ w. cond (ltb 0 (length (suffix w))) (length (segment text) - length (suffix w), with_suffix (suffix w) Q) (cond (has_slash text) (0, []) (length text, Q)) in
      ap F e ∙ elim v as (λ w. F w ≡ cond w (length (segment text) - 1, (47 ∷ t, k) ∷ []) (cond (has_slash text) (0, []) (length text, Q))) [ true ↦ refl | false ↦ refl ]

  seek-all : (path : List ℕ) (rs : RowsOf K) → seek (length path) rs path ≡ own rs
  unfolding seek
  seek-all [] rs = refl
  seek-all (b ∷ path) rs = seek-all path rs

  -- the parameter takes nothing
  seek-none : (b : ℕ) (path : List ℕ) (Q : RowsOf K) (n : ℕ) → param_token == b ≡ false → param_step Q (b ∷ path) ≡ (n, [])
      → seek 0 (under (param_token ∷ []) Q) (b ∷ path) ≡ None
  seek-none b path Q n other e =
      seek-param b path Q other ∙ ap (λ s. seek (s.0 - 1) s.1 path) e ∙ seek-nothing (n - 1) path

  -- the parameter takes all
  seek-own : (b : ℕ) (path : List ℕ) (Q : RowsOf K) → param_token == b ≡ false → param_step Q (b ∷ path) ≡ (length (b ∷ path), Q)
      → seek 0 (under (param_token ∷ []) Q) (b ∷ path) ≡ own Q
  seek-own b path Q other e =
      let n : length (b ∷ path) - 1 ≡ length path = omega arith in
      seek-param b path Q other ∙ ap (λ s. seek (s.0 - 1) s.1 path) e ∙ ap (λ m. seek m Q path) n ∙ seek-all path Q

  -- the parameter takes the part before a slash
  seek-cut : (b c : ℕ) (path part rest t : List ℕ) (k : K) (Q : RowsOf K) → param_token == b ≡ false
      → param_step Q (b ∷ path) ≡ (length (segment (b ∷ path)) - 1, (47 ∷ t, k) ∷ [])
      → at_slash (b ∷ path) ≡ (c ∷ part, Some rest)
      → seek 0 (under (param_token ∷ []) Q) (b ∷ path) ≡ seek 0 ((t, k) ∷ []) rest
  seek-cut b c path part rest t k Q other e cut =
      let whole : b ∷ path ≡ c ∷ (part ++ 47 ∷ rest) = whole-at (b ∷ path) ∙ ap whole_by cut in
      let tail : path ≡ part ++ 47 ∷ rest = cc in
      let seg : length (segment (b ∷ path)) ≡ length ((c ∷ part) ++ 47 ∷ []) = ap length (segment-at (b ∷ path) ∙ ap segment_by cut) in
      let long : length ((c ∷ part) ++ 47 ∷ []) ≡ length (c ∷ part) + 1 = length-append (c ∷ part) (47 ∷ []) in
      let n : length (segment (b ∷ path)) - 1 - 1 ≡ length part = omega (arith, seg, long) in
      seek-param b path Q other ∙ ap (λ s. seek (s.0 - 1) s.1 path) e
      ∙ ap (λ m. seek m ((47 ∷ t, k) ∷ []) path) n ∙ ap (λ p. seek (length part) ((47 ∷ t, k) ∷ []) p) tail
      ∙ seek-skip part (47 ∷ rest) ((47 ∷ t, k) ∷ []) ∙ seek-literal 47 rest ((47 ∷ t, k) ∷ []) refl refl

  -- one part, and nothing after it
  abbrev pub one_by : K → List ℕ × Option (List ℕ) → Option K
  one_by k ([], rest) = None
  one_by k (b ∷ part, None) = Some k
  one_by k (b ∷ part, Some rest) = None

  -- a part before a slash, and more after it; or a part alone
  abbrev pub more_by : Option K → (List ℕ → Option K) → List ℕ × Option (List ℕ) → Option K
  more_by alone f ([], rest) = None
  more_by alone f (b ∷ part, None) = alone
  more_by alone f (b ∷ part, Some rest) = f rest

-- facts on a text by its first slash
no_slash : (text part : List ℕ) → at_slash text ≡ (part, None) → has_slash text ≡ false
no_slash text part cut =
    let same : text ≡ part = whole-at text ∙ ap whole_by cut in
    ap has_slash same ∙ ap (λ p. has_slash p.0) (sym cut) ∙ part-free text

a_slash : (text part rest : List ℕ) → at_slash text ≡ (part, Some rest) → has_slash text ≡ true
a_slash text part rest cut = ap has_slash (whole-at text ∙ ap whole_by cut) ∙ has_slash-append part rest

pub segment-cut : (text : List ℕ) (p : List ℕ × Option (List ℕ)) → at_slash text ≡ p → segment text ≡ segment_by p
segment-cut text p cut = segment-at text ∙ ap segment_by cut

cuts-alone : (text part : List ℕ) → at_slash text ≡ (part, None) → cuts (segment text) (47 ∷ []) ≡ false
cuts-alone text part cut =
    ap (λ s. cuts s (47 ∷ [])) (segment-cut text (part, None) cut)
    ∙ cuts-free part (ap (λ p. has_slash p.0) (sym cut) ∙ part-free text)

cuts-empty : (text rest : List ℕ) → at_slash text ≡ ([], Some rest) → cuts (segment text) (47 ∷ []) ≡ false
cuts-empty text rest cut = ap (λ s. cuts s (47 ∷ [])) (segment-cut text ([], Some rest) cut)

cuts-before : (text : List ℕ) (c : ℕ) (part rest : List ℕ) → at_slash text ≡ (c ∷ part, Some rest) → cuts (segment text) (47 ∷ []) ≡ true
cuts-before text c part rest cut = ap (λ s. cuts s (47 ∷ [])) (segment-cut text (c ∷ part, Some rest) cut) ∙ cuts-part c part

module _ {K : Type 0} where
  pub seek-one : (b : ℕ) (path : List ℕ) (k : K) (p : List ℕ × Option (List ℕ)) → param_token == b ≡ false → at_slash (b ∷ path) ≡ p
      → seek 0 (under (param_token ∷ []) (([], k) ∷ [])) (b ∷ path) ≡ one_by k p
  seek-one b path k ([], None) other cut =
      let nothing : b ∷ path ≡ [] = whole-at (b ∷ path) ∙ ap whole_by cut in absurd (cc)
  seek-one b path k ([], Some rest) other cut =
      seek-none b path (([], k) ∷ []) 0 other (param_step-one (b ∷ path) k ∙ ap (λ v. cond v (0, []) (length (b ∷ path), ([], k) ∷ [])) (a_slash (b ∷ path) [] rest cut))
  seek-one b path k (c ∷ part, None) other cut =
      seek-own b path (([], k) ∷ []) other (param_step-one (b ∷ path) k ∙ ap (λ v. cond v (0, []) (length (b ∷ path), ([], k) ∷ [])) (no_slash (b ∷ path) (c ∷ part) cut))
  seek-one b path k (c ∷ part, Some rest) other cut =
      seek-none b path (([], k) ∷ []) 0 other (param_step-one (b ∷ path) k ∙ ap (λ v. cond v (0, []) (length (b ∷ path), ([], k) ∷ [])) (a_slash (b ∷ path) (c ∷ part) rest cut))

  pub seek-two : (b : ℕ) (path t : List ℕ) (k : K) (p : List ℕ × Option (List ℕ)) → param_token == b ≡ false → at_slash (b ∷ path) ≡ p
      → seek 0 (under (param_token ∷ []) ((47 ∷ t, k) ∷ [])) (b ∷ path) ≡ more_by None (λ rest. seek 0 ((t, k) ∷ []) rest) p
  seek-two b path t k ([], None) other cut =
      let nothing : b ∷ path ≡ [] = whole-at (b ∷ path) ∙ ap whole_by cut in absurd (cc)
  seek-two b path t k ([], Some rest) other cut =
      seek-none b path ((47 ∷ t, k) ∷ []) 0 other
      (param_step-two (b ∷ path) t k false (cuts-empty (b ∷ path) rest cut) ∙ ap (λ v. cond v (0, []) (length (b ∷ path), (47 ∷ t, k) ∷ [])) (a_slash (b ∷ path) [] rest cut))
  seek-two b path t k (c ∷ part, None) other cut =
      seek-own b path ((47 ∷ t, k) ∷ []) other
      (param_step-two (b ∷ path) t k false (cuts-alone (b ∷ path) (c ∷ part) cut) ∙ ap (λ v. cond v (0, []) (length (b ∷ path), (47 ∷ t, k) ∷ [])) (no_slash (b ∷ path) (c ∷ part) cut))
  seek-two b path t k (c ∷ part, Some rest) other cut =
      seek-cut b c path part rest t k ((47 ∷ t, k) ∷ []) other (param_step-two (b ∷ path) t k true (cuts-before (b ∷ path) c part rest cut)) cut

  pub seek-three : (b : ℕ) (path t : List ℕ) (k l : K) (p : List ℕ × Option (List ℕ)) → param_token == b ≡ false → at_slash (b ∷ path) ≡ p
      → seek 0 (under (param_token ∷ []) ((47 ∷ t, k) ∷ ([], l) ∷ [])) (b ∷ path) ≡ more_by (Some l) (λ rest. seek 0 ((t, k) ∷ []) rest) p
  seek-three b path t k l ([], None) other cut =
      let nothing : b ∷ path ≡ [] = whole-at (b ∷ path) ∙ ap whole_by cut in absurd (cc)
  seek-three b path t k l ([], Some rest) other cut =
      seek-none b path ((47 ∷ t, k) ∷ ([], l) ∷ []) 0 other
      (param_step-three (b ∷ path) t k l false (cuts-empty (b ∷ path) rest cut) ∙ ap (λ v. cond v (0, []) (length (b ∷ path), (47 ∷ t, k) ∷ ([], l) ∷ [])) (a_slash (b ∷ path) [] rest cut))
  seek-three b path t k l (c ∷ part, None) other cut =
      seek-own b path ((47 ∷ t, k) ∷ ([], l) ∷ []) other
      (param_step-three (b ∷ path) t k l false (cuts-alone (b ∷ path) (c ∷ part) cut) ∙ ap (λ v. cond v (0, []) (length (b ∷ path), (47 ∷ t, k) ∷ ([], l) ∷ [])) (no_slash (b ∷ path) (c ∷ part) cut))
  seek-three b path t k l (c ∷ part, Some rest) other cut =
      seek-cut b c path part rest t k ((47 ∷ t, k) ∷ ([], l) ∷ []) other (param_step-three (b ∷ path) t k l true (cuts-before (b ∷ path) c part rest cut)) cut
