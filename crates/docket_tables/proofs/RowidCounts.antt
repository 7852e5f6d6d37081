-- How often a rowid stands among rows.
use Rattle.std.proofs.Common.{◌≡◌, ℕ, List, [], ◌∷◌, length, true, false, sym, ap, arith, ◌∙◌, Bool, cond, nat_lt, ◌+◌, ◌≤◌, ℤ, refl, IsPermutation, filter, is_eq, int_cmp, ap₂, Less, ◌++◌}
use Rattle.sqlite.specs.Order.{Row, value_cmp}
use Rattle.sqlite_rules.specs.Edit.{are_fresh, id_in, is_taken}
use Rattle.std.specs.List.{AllByRecursion}
use Rattle.sqlite_trees.specs.Tree.{rowid, has_rowid, put_row}
use Rattle.sqlite.specs.declared.types.Value.TheVariants.{Int, Null, Text, Real, Blob}
use Rattle.sqlite_trees.specs.View.{is_int, IsShaped}
use Rattle.sqlite_trees.specs.declared.store.Shape.TheVariants as shape
use Rattle.docket_tables.proofs.CellLemmas.{put_permutes}
use Rattle.sqlite_trees.proofs.ListLemmas.{IsPermutation-filter}
use Rattle.std.proofs.lemmas.List.Sorted.{length_permutation}
use Rattle.sqlite.specs.declared.types.Value.{Value}
use Rattle.sqlite_value.proofs.OrderLemmas.{value_cmp-Int}
use Rattle.std.proofs.lemmas.Int.{ints}
use Rattle.sqlite_rules.proofs.TableLemmas.{taken_is}
use Rattle.docket_tables.proofs.ReadLemmas.{any_kept}
use Rattle.std.proofs.lemmas.Bool.{and_from, not_from_false}

pub int_is : (v : Value) → is_int v ≡ true → v ≡ Int (id_in v)
int_is Null h = absurd (let no = h in cc)
int_is (Int n) h = refl
int_is (Real x) h = absurd (let no = h in cc)
int_is (Text t) h = absurd (let no = h in cc)
int_is (Blob b) h = absurd (let no = h in cc)

pub has_id : (id : ℤ) (r : Row) → is_int (rowid r) ≡ true → has_rowid id r ≡ is_eq (int_cmp (id_in (rowid r)) id)
has_id id r int = ap (λ v. is_eq (value_cmp v (Int id))) (int_is (rowid r) int) ∙ ap is_eq (value_cmp-Int (id_in (rowid r)) id)

pub itself : (r : Row) → is_int (rowid r) ≡ true → has_rowid (id_in (rowid r)) r ≡ true
itself r int =
    let a = id_in (rowid r) in
    let same : is_eq (int_cmp a a) ≡ true = grind (arith, ints) in has_id a r int ∙ same

-- a row above another has another rowid
pub above : (id : ℤ) (r s : Row) → is_int (rowid r) ≡ true → is_int (rowid s) ≡ true → value_cmp (rowid r) (rowid s) ≡ Less → has_rowid id r ≡ true → has_rowid id s ≡ false
above id r s p q less it =
    let a = id_in (rowid r) in
    let b = id_in (rowid s) in
    let low : int_cmp a b ≡ Less = sym (value_cmp-Int a b) ∙ ap₂ value_cmp (sym (int_is (rowid r) p)) (sym (int_is (rowid s) q)) ∙ less in
    let is : is_eq (int_cmp a id) ≡ true = sym (has_id id r p) ∙ it in
    let no : is_eq (int_cmp b id) ≡ false = grind (arith, ints, low, is) in has_id id s q ∙ no

-- how many rows have a rowid
abbrev pub count : ℤ → List Row → ℕ
count id rows = length (filter (has_rowid id) rows)

pub count_first : (id : ℤ) (r : Row) (rows : List Row) → count id (r ∷ rows) ≡ count id (r ∷ []) + count id rows
count_first id r rows = at (has_rowid id r)
  where
    at : (b : Bool) → length (cond b (r ∷ filter (has_rowid id) rows) (filter (has_rowid id) rows)) ≡ length (cond b (r ∷ []) []) + count id rows
    at true = omega arith
    at false = omega arith

pub count_one_of : (id : ℤ) (r : Row) → has_rowid id r ≡ true → count id (r ∷ []) ≡ 1
count_one_of id r is = ap (λ b. length (cond b (r ∷ []) [])) is

pub count_none_of : (id : ℤ) (r : Row) → has_rowid id r ≡ false → count id (r ∷ []) ≡ 0
count_none_of id r is = ap (λ b. length (cond b (r ∷ []) [])) is

pub count_none : (id : ℤ) (rows : List Row) → AllByRecursion (λ r. has_rowid id r ≡ false) rows → count id rows ≡ 0
count_none id [] all = refl
count_none id (r ∷ rows) all = omega (arith, count_first id r rows, count_none_of id r all.0, count_none id rows all.1)

-- in a table no rowid comes twice
pub once : (id : ℤ) (rows : List Row) → IsShaped shape.Table rows → count id rows ≤ 1
once id [] shaped = omega arith
once id (r ∷ rows) shaped = at (has_rowid id r) refl (once id rows (shaped.0.1, shaped.1.1))
  where
    others : has_rowid id r ≡ true → (xs : List Row) → AllByRecursion (λ s. value_cmp (rowid r) (rowid s) ≡ Less) xs → AllByRecursion (λ s. is_int (rowid s) ≡ true) xs
        → AllByRecursion (λ s. has_rowid id s ≡ false) xs
    others it [] a b = tt
    others it (x ∷ xs) a b = (above id r x shaped.1.0 b.0 a.0 it, others it xs a.1 b.1)

    at : (b : Bool) → has_rowid id r ≡ b → count id rows ≤ 1 → count id (r ∷ rows) ≤ 1
    at true is more = omega (arith, count_first id r rows, count_one_of id r is, count_none id rows (others is rows shaped.0.0 shaped.1.1))
    at false is more = omega (arith, count_first id r rows, count_none_of id r is, more)

pub count_permuted : (id : ℤ) (xs ys : List Row) → IsPermutation xs ys → count id xs ≡ count id ys
count_permuted id xs ys same = sym (length_permutation _ _ (IsPermutation-filter (has_rowid id) xs ys same))

pub count_append : (id : ℤ) (xs ys : List Row) → count id (xs ++ ys) ≡ count id xs + count id ys
count_append id [] ys = omega arith
count_append id (x ∷ xs) ys = omega (arith, count_first id x (xs ++ ys), count_first id x xs, count_append id xs ys)

-- rows whose rowids come once, there and here, are fresh there
pub fresh_of : (rows news : List Row) → AllByRecursion (λ r. is_int (rowid r) ≡ true) news → ((id : ℤ) → count id news + count id rows ≤ 1) → are_fresh rows news ≡ true
fresh_of rows [] int few = refl
fresh_of rows (r ∷ rs) int few =
    let id = id_in (rowid r) in
    let none : count id rows ≡ 0 = omega (arith, few id, count_first id r rs, count_one_of id r (itself r int.0)) in
    let no : nat_lt 0 (count id rows) ≡ false = ap (nat_lt 0) none in
    let free : is_taken rows r ≡ false = taken_is rows r int.0 ∙ sym (any_kept (has_rowid id) rows) ∙ no in
    and_from _ _ (not_from_false _ free) (fresh_of (put_row r rows) rs int.1 (λ i. omega (arith, few i, count_first i r rs, count_first i r rows, count_permuted i _ _ (put_permutes r rows free))))
