-- From what DELETE does to what a table holds, where the rowid is the key.
use Rattle.std.proofs.Common.{◌≡◌, ◌∙◌, ◌&&◌, ℕ, ℤ, List, [], ◌∷◌, map, filter, length, not, Bool, true, false, cond, Ordering, Less, Equal, Greater, IsPermutation, is_eq, int_cmp, refl, sym, ap, subst, arith}
use Rattle.std.specs.List.{AllByRecursion}
use Rattle.std.proofs.Math.Logic.{∥∥₁_map}
use Rattle.std.proofs.lemmas.Int.{ints}
use Rattle.std.proofs.lemmas.List.{length-map}
use Rattle.std.proofs.lemmas.List.Elements.{All-from_recursion, recursion_from_All}
use Rattle.std.proofs.lemmas.List.Sorted.{IsPermutation-sym, All-permutation, length_permutation}
use Rattle.sqlite_trees.proofs.ListLemmas.{filter-map, filter_all, filter_same, all-map, IsPermutation-filter, all_weaker, all_both}
use Rattle.sqlite_value.proofs.OrderLemmas.{value_cmp-Int}
use Rattle.sqlite.specs.declared.types.Value.TheVariants.{Int}
use Rattle.sqlite.specs.Order.{Row, column, value_cmp}
use Rattle.sqlite.specs.Tree.{Trees}
use Rattle.sqlite.specs.Collation.TheVariants.{Binary}
use Rattle.sqlite_schema.specs.Rules.{equal}
use Rattle.sqlite_trees.specs.Tree.{rowid, has_rowid, without_rowid}
use Rattle.sqlite_trees.specs.View.{IsShaped}
use Rattle.sqlite_trees.specs.declared.store.Shape.TheVariants as shape
use Rattle.sqlite_trees.proofs.TreeLemmas.{IsShaped-filter}
use Rattle.sqlite.specs.Edit.{without_all}
use Rattle.sqlite_rules.specs.Calls.{ids_of}
use Rattle.sqlite_rules.specs.Edit.{id_in}
use Rattle.docket_tables.specs.Holds.{cells, Holds, has_key, IsKeyed}
use Rattle.docket_tables.proofs.CellLemmas.{truth_back}

abbrev pub keyed_by : ℤ → Row → Bool
keyed_by n = has_key (0 ∷ []) (Int n ∷ [])

pub equal_int : (m n : ℤ) → equal Binary (Int m) (Int n) ≡ is_eq (int_cmp m n)
unfolding Rattle.sqlite_sql.specs.Ops.binary
equal_int m n = truth_back (is_eq (value_cmp (Int m) (Int n))) ∙ ap is_eq (value_cmp-Int m n)

pub and_yes : (b : Bool) → (b && true) ≡ b
and_yes true = refl
and_yes false = refl

pub keyed_as : (n z : ℤ) (r : Row) → column r 0 ≡ Int z → keyed_by n r ≡ is_eq (int_cmp z n)
keyed_as n z r is = and_yes _ ∙ ap (λ v. equal Binary v (Int n)) is ∙ equal_int z n

pub rowid_as : (n z : ℤ) (r : Row) → column r 0 ≡ Int z → has_rowid n r ≡ is_eq (int_cmp z n)
rowid_as n z r is = ap (λ v. is_eq (value_cmp v (Int n))) is ∙ ap is_eq (value_cmp-Int z n)

-- a test of the order shows that numbers are equal
pub same_int : (o : Ordering) (z n : ℤ) → int_cmp z n ≡ o → is_eq o ≡ true → z ≡ n
same_int Less z n is e = absurd (let no = e in cc)
same_int Equal z n is e = grind (arith, ints)
same_int Greater z n is e = absurd (let no = e in cc)

all_kept : {X : Type 0} (P : X → Type 0) (p : X → Bool) (xs : List X) → AllByRecursion P xs → AllByRecursion (λ x. P x × (p x ≡ true)) (filter p xs)
all_kept P p [] h = tt
all_kept P p (x ∷ xs) h = go (all_kept P p xs h.1) (p x) refl
  where
    go : AllByRecursion (λ y. P y × (p y ≡ true)) (filter p xs) → (b : Bool) → p x ≡ b → AllByRecursion (λ y. P y × (p y ≡ true)) (cond b (x ∷ filter p xs) (filter p xs))
    go more true e = ((h.0, e), more)
    go more false e = more

all_true : {X : Type 0} (p : X → Bool) (xs : List X) → AllByRecursion (λ x. p x ≡ true) (filter p xs)
all_true p [] = tt
all_true p (x ∷ xs) = go (all_true p xs) (p x) refl
  where
    go : AllByRecursion (λ y. p y ≡ true) (filter p xs) → (b : Bool) → p x ≡ b → AllByRecursion (λ y. p y ≡ true) (cond b (x ∷ filter p xs) (filter p xs))
    go more true e = (e, more)
    go more false e = more

all_false : {X : Type 0} (p : X → Bool) (xs : List X) → length (filter p xs) ≡ 0 → AllByRecursion (λ x. p x ≡ false) xs
all_false p [] none = tt
all_false p (x ∷ xs) none = go (all_false p xs) (p x) refl none
  where
    go : (length (filter p xs) ≡ 0 → AllByRecursion (λ y. p y ≡ false) xs) → (b : Bool) → p x ≡ b → length (cond b (x ∷ filter p xs) (filter p xs)) ≡ 0 → AllByRecursion (λ y. p y ≡ false) (x ∷ xs)
    go more true e h = absurd (omega (arith, h))
    go more false e h = (e, more h)

gone_once : (n : ℤ) (ids : List ℤ) (rows : List Row) → AllByRecursion (λ i. i ≡ n) ids → (ids ≡ [] → without_rowid n rows ≡ rows) → without_all rows ids ≡ without_rowid n rows
gone_once n [] rows same none = sym (none refl)
gone_once n (i ∷ ids) rows same none =
    let still : without_rowid n (without_rowid n rows) ≡ without_rowid n rows = filter_all _ (without_rowid n rows) (all_true _ rows) in
    subst (λ k. without_all (without_rowid k rows) ids ≡ without_rowid n rows) (sym same.0) (gone_once n ids (without_rowid n rows) same.1 (λ _. still) ∙ still)

no_ids : (found : List Row) → ids_of found ≡ [] → length found ≡ 0
no_ids [] e = refl
no_ids (r ∷ found) e = absurd (let no = e in cc)

row_gone : (n : ℤ) (rows found : List Row) → AllByRecursion IsKeyed rows → IsPermutation (filter (keyed_by n) (map (cells (0 ∷ [])) rows)) found
    → without_all rows (ids_of found) ≡ filter (λ r. not (keyed_by n r)) rows
row_gone n rows found keyed same =
    let shown = map (cells (0 ∷ [])) rows in
    let kept = all_kept IsKeyed (keyed_by n) shown (all-map IsKeyed (cells (0 ∷ [])) rows keyed) in
    let each : AllByRecursion (λ r. id_in (rowid r) ≡ n) (filter (keyed_by n) shown) =
    all_weaker _ _ (λ r h. ap id_in h.0.1 ∙ same_int _ h.0.0 n refl (sym (keyed_as n h.0.0 r h.0.1) ∙ h.1)) (filter (keyed_by n) shown) kept in
    let ids : AllByRecursion (λ i. i ≡ n) (ids_of found) =
    all-map (λ i. i ≡ n) (λ r. id_in (rowid r)) found (recursion_from_All (λ r. id_in (rowid r) ≡ n) found (All-permutation (λ r. id_in (rowid r) ≡ n) _ found same (All-from_recursion _ _ each))) in
    let none : ids_of found ≡ [] → without_rowid n rows ≡ rows = λ e.
    let nothing : length (filter (keyed_by n) shown) ≡ 0 = omega (arith, length_permutation _ _ same, no_ids found e) in
    let no_row : length (filter (λ r. keyed_by n (cells (0 ∷ []) r)) rows) ≡ 0 = sym (length-map _ (cells (0 ∷ []))) ∙ ap length (sym (filter-map (keyed_by n) (cells (0 ∷ [])) rows)) ∙ nothing in
    filter_all _ rows (all_both _ _ _ (λ r k no. ap not (rowid_as n k.0 r k.1 ∙ sym (keyed_as n k.0 r k.1) ∙ no)) rows keyed (all_false (λ r. keyed_by n r) rows no_row)) in
    gone_once n (ids_of found) rows ids none ∙ filter_same _ _ rows (all_weaker _ _ (λ r k. ap not (rowid_as n k.0 r k.1 ∙ sym (keyed_as n k.0 r k.1))) rows keyed)

-- a DELETE by the rowid leaves the rows with other keys
pub holds_without : (tree : ℕ) (rest : List ℕ) (all : List Row) (n : ℤ) (found : List Row) (old new : Trees)
    → Holds tree (0 ∷ rest) all old → AllByRecursion IsKeyed all → IsPermutation (filter (keyed_by n) (map (cells (0 ∷ [])) (old tree))) found → new tree ≡ without_all (old tree) (ids_of found)
    → Holds tree (0 ∷ rest) (filter (λ c. not (keyed_by n c)) all) new
holds_without tree rest all n found old new holds keyed same gone =
    ∥∥₁_map holds (λ was.
    let shown : AllByRecursion IsKeyed (map (cells (0 ∷ rest)) (old tree)) = recursion_from_All IsKeyed _ (All-permutation IsKeyed all _ (IsPermutation-sym _ _ was.0) (All-from_recursion IsKeyed all keyed)) in
    let rows : AllByRecursion IsKeyed (old tree) = unmapped (cells (0 ∷ rest)) (old tree) shown in
    let is : map (cells (0 ∷ rest)) (new tree) ≡ filter (λ c. not (keyed_by n c)) (map (cells (0 ∷ rest)) (old tree)) =
    ap (map (cells (0 ∷ rest))) (gone ∙ row_gone n (old tree) found rows same) ∙ sym (filter-map (λ c. not (keyed_by n c)) (cells (0 ∷ rest)) (old tree)) in (
      subst (λ xs. IsPermutation xs (filter (λ c. not (keyed_by n c)) all)) (sym is) (IsPermutation-filter (λ c. not (keyed_by n c)) _ _ was.0),
      subst (IsShaped shape.Table) (sym (gone ∙ row_gone n (old tree) found rows same)) (IsShaped-filter shape.Table (λ r. not (keyed_by n r)) (old tree) was.1),
    ))
  where
    unmapped : (f : Row → Row) (rs : List Row) → AllByRecursion (λ r. IsKeyed r) (map (cells (0 ∷ rest)) rs) → AllByRecursion IsKeyed rs
    unmapped f [] h = tt
    unmapped f (r ∷ rs) h = (h.0, unmapped f rs h.1)
