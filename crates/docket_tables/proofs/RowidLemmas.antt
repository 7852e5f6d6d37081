-- From what DELETE does to what a table holds, where the rowid is hidden: no rowid comes twice.
use Rattle.std.proofs.Common.{◌≡◌, ◌∙◌, ◌&&◌, ◌||◌, ℕ, ℤ, List, [], ◌∷◌, map, filter, not, nat_lt, Bool, true, false, cond, Less, IsPermutation, IsTrue, is_eq, int_cmp, refl, sym, ap, ap₂, subst}
use Rattle.std.specs.List.{AllByRecursion, list_any}
use Rattle.std.proofs.Math.Logic.{∥∥₁_map}
use Rattle.std.proofs.lemmas.Int.{ints}
use Rattle.std.proofs.Common.{arith}
use Rattle.std.proofs.lemmas.List.Sorted.{length_permutation}
use Rattle.sqlite_keyed.proofs.ListLemmas.{any_from_none}
use Rattle.sqlite_trees.proofs.ListLemmas.{filter-map, filter_all, filter_same, all_of, all-filter, IsPermutation-filter}
use Rattle.sqlite_trees.proofs.TreeLemmas.{IsShaped-filter}
use Rattle.sqlite_trees.specs.Tree.{rowid, has_rowid, without_rowid}
use Rattle.sqlite_trees.specs.View.{IsShaped, is_int}
use Rattle.sqlite_trees.specs.declared.store.Shape.TheVariants as shape
use Rattle.sqlite_value.proofs.OrderLemmas.{value_cmp-Int}
use Rattle.sqlite.specs.declared.types.Value.{Value}
use Rattle.sqlite.specs.declared.types.Value.TheVariants.{Null, Int, Real, Text, Blob}
use Rattle.sqlite.specs.Order.{Row, column, value_cmp}
use Rattle.sqlite.specs.Tree.{Trees}
use Rattle.sqlite.specs.Edit.{without_all}
use Rattle.sqlite_rules.specs.Calls.{ids_of}
use Rattle.sqlite_rules.specs.Edit.{id_in}
use Rattle.docket_tables.specs.Holds.{cells, Holds}
use Rattle.docket_tables.proofs.CaseActs.{passing_both}
use Rattle.docket_tables.proofs.ReadLemmas.{any_kept}

abbrev id_of : Row → ℤ
id_of r = id_in (rowid r)

-- the other row has the rowid of the first
abbrev has_id_of : Row → Row → Bool
has_id_of s r = has_rowid (id_of s) r

int_is : (v : Value) → IsTrue (is_int v) → v ≡ Int (id_in v)
int_is Null h = absurd (let no = h in cc)
int_is (Int n) h = refl
int_is (Real x) h = absurd (let no = h in cc)
int_is (Text t) h = absurd (let no = h in cc)
int_is (Blob b) h = absurd (let no = h in cc)

apart : (r s : Row) → IsTrue (is_int (rowid r)) → IsTrue (is_int (rowid s)) → value_cmp (rowid r) (rowid s) ≡ Less → (has_id_of r s ≡ false) × (has_id_of s r ≡ false)
apart r s p q less =
    let a = id_of r in
    let b = id_of s in
    let low : int_cmp a b ≡ Less = sym (value_cmp-Int a b) ∙ ap₂ value_cmp (sym (int_is (rowid r) p)) (sym (int_is (rowid s) q)) ∙ less in
    let one : is_eq (int_cmp b a) ≡ false = grind (arith, ints, low) in
    let two : is_eq (int_cmp a b) ≡ false = ap is_eq low in (
      ap (λ v. is_eq (value_cmp v (Int a))) (int_is (rowid s) q) ∙ ap is_eq (value_cmp-Int b a) ∙ one,
      ap (λ v. is_eq (value_cmp v (Int b))) (int_is (rowid r) p) ∙ ap is_eq (value_cmp-Int a b) ∙ two,
    )

itself : (r : Row) → IsTrue (is_int (rowid r)) → has_id_of r r ≡ true
itself r p =
    let a = id_of r in
    let same : is_eq (int_cmp a a) ≡ true = grind (arith, ints) in
    ap (λ v. is_eq (value_cmp v (Int a))) (int_is (rowid r) p) ∙ ap is_eq (value_cmp-Int a a) ∙ same

not_or : (a b : Bool) → (not a && not b) ≡ not (a || b)
not_or true b = refl
not_or false b = refl

-- what is taken by rowids
taken : (ids : List ℤ) (rows : List Row) → without_all rows ids ≡ filter (λ r. not (list_any (λ i. has_rowid i r) ids)) rows
taken [] rows = sym (filter_all _ rows (all_of _ (λ r. refl) rows))
taken (i ∷ ids) rows =
    taken ids (without_rowid i rows) ∙ passing_both (λ r. not (has_rowid i r)) (λ r. not (list_any (λ j. has_rowid j r) ids)) rows
    ∙ filter_same _ _ rows (all_of _ (λ r. not_or (has_rowid i r) (list_any (λ j. has_rowid j r) ids)) rows)

pub any_mapped : {A B : Type 0} (p : B → Bool) (f : A → B) (xs : List A) → list_any p (map f xs) ≡ list_any (λ x. p (f x)) xs
any_mapped p f [] = refl
any_mapped p f (x ∷ xs) = ap (λ b. p (f x) || b) (any_mapped p f xs)

any_permuted : {A : Type 0} (p : A → Bool) (xs ys : List A) → IsPermutation xs ys → list_any p ys ≡ list_any p xs
any_permuted p xs ys same = sym (any_kept p ys) ∙ ap (nat_lt 0) (length_permutation _ _ (IsPermutation-filter p xs ys same)) ∙ any_kept p xs

module _ (match : Row → Bool) where
  -- a row has the rowid of one that matches where it matches itself
  hit : (rows : List Row) → IsShaped shape.Table rows → AllByRecursion (λ r. list_any (λ s. has_id_of s r) (filter match rows) ≡ match r) rows
  hit [] shaped = tt
  hit (r ∷ rows) shaped = (head (match r) refl, tail rows shaped.0.0 shaped.1.1 (hit rows (shaped.0.1, shaped.1.1)))
    where
      none : (xs : List Row) → AllByRecursion (λ s. value_cmp (rowid r) (rowid s) ≡ Less) xs → AllByRecursion (λ s. IsTrue (is_int (rowid s))) xs → AllByRecursion (λ s. has_id_of s r ≡ false) xs
      none [] a b = tt
      none (x ∷ xs) a b = ((apart r x shaped.1.0 b.0 a.0).1, none xs a.1 b.1)

      head : (b : Bool) → match r ≡ b → list_any (λ s. has_id_of s r) (cond (match r) (r ∷ filter match rows) (filter match rows)) ≡ match r
      head true e = ap (λ b. list_any (λ s. has_id_of s r) (cond b (r ∷ filter match rows) (filter match rows))) e ∙ ap (λ b. b || list_any (λ s. has_id_of s r) (filter match rows)) (itself r shaped.1.0) ∙ sym e
      head false e =
          ap (λ b. list_any (λ s. has_id_of s r) (cond b (r ∷ filter match rows) (filter match rows))) e
          ∙ any_from_none (λ s. has_id_of s r) (filter match rows) (all-filter _ match rows (none rows shaped.0.0 shaped.1.1)) ∙ sym e

      tail : (xs : List Row) → AllByRecursion (λ s. value_cmp (rowid r) (rowid s) ≡ Less) xs → AllByRecursion (λ s. IsTrue (is_int (rowid s))) xs
          → AllByRecursion (λ x. list_any (λ s. has_id_of s x) (filter match rows) ≡ match x) xs
          → AllByRecursion (λ x. list_any (λ s. has_id_of s x) (cond (match r) (r ∷ filter match rows) (filter match rows)) ≡ match x) xs
      tail [] a b h = tt
      tail (x ∷ xs) a b h =
          let off = (apart r x shaped.1.0 b.0 a.0).0 in (
            elim (match r) as (λ m. list_any (λ s. has_id_of s x) (cond m (r ∷ filter match rows) (filter match rows)) ≡ match x)
                [ true ↦ ap (λ m. m || list_any (λ s. has_id_of s x) (filter match rows)) off ∙ h.0 | false ↦ h.0 ],
            tail xs a.1 b.1 h.1,
          )

  pub left : (rows found : List Row) → IsShaped shape.Table rows → IsPermutation (map (λ r. column r 0 ∷ []) (filter match rows)) found → without_all rows (ids_of found) ≡ filter (λ r. not (match r)) rows
  left rows found shaped same =
      let any = λ (r : Row). any_mapped (λ i. has_rowid i r) (λ s. id_in (rowid s)) found
      ∙ any_permuted (λ s. has_id_of s r) (map (λ s. column s 0 ∷ []) (filter match rows)) found same
      ∙ any_mapped (λ s. has_id_of s r) (λ s. column s 0 ∷ []) (filter match rows) in
      taken (ids_of found) rows
      ∙ filter_same _ _ rows (each rows any (hit rows shaped))
    where
      each : (xs : List Row) → ((r : Row) → list_any (λ i. has_rowid i r) (ids_of found) ≡ list_any (λ s. has_id_of s r) (filter match rows))
          → AllByRecursion (λ r. list_any (λ s. has_id_of s r) (filter match rows) ≡ match r) xs
          → AllByRecursion (λ r. not (list_any (λ i. has_rowid i r) (ids_of found)) ≡ not (match r)) xs
      each [] any h = tt
      each (x ∷ xs) any h = (ap not (any x ∙ h.0), each xs any h.1)

-- a DELETE of what matches leaves what does not
pub holds_unmatched : (tree : ℕ) (places : List ℕ) (all : List Row) (match : Row → Bool) (found : List Row) (old new : Trees)
    → Holds tree places all old → IsPermutation (map (λ r. column r 0 ∷ []) (filter (λ r. match (cells places r)) (old tree))) found → new tree ≡ without_all (old tree) (ids_of found)
    → Holds tree places (filter (λ c. not (match c)) all) new
holds_unmatched tree places all match found old new holds same gone =
    ∥∥₁_map holds (λ was.
    let is = gone ∙ left (λ r. match (cells places r)) (old tree) found was.1 same in
    let shown : map (cells places) (new tree) ≡ filter (λ c. not (match c)) (map (cells places) (old tree)) = ap (map (cells places)) is ∙ sym (filter-map (λ c. not (match c)) (cells places) (old tree)) in (
      subst (λ xs. IsPermutation xs (filter (λ c. not (match c)) all)) (sym shown) (IsPermutation-filter (λ c. not (match c)) _ _ was.0),
      subst (IsShaped shape.Table) (sym is) (IsShaped-filter shape.Table (λ r. not (match (cells places r))) (old tree) was.1),
    ))
