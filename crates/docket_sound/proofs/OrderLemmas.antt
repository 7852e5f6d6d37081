-- Lists in the order of a key, put together from parts.
use Rattle.std.proofs.Common.{◌≡◌, ◌∙◌, ℕ, zero, suc, ◌+◌, ◌<◌, ◌||◌, nat_lt, not, ◌==◌, Bool, true, false, cond, List, [], ◌∷◌, ◌++◌, map, filter, flat_map, length, refl, sym, ap, ap₂, subst, arith, IsPermutation, IsSorted, append-nil}
use Rattle.std.proofs.lemmas.Bool.Decides.{nat_tests}
use Rattle.std.proofs.lemmas.Cmp.{nat_cmp_total, on_total, then_total, nat_list_cmp_total}
use Rattle.std.proofs.lemmas.List.Sorted.{IsPermutation-refl, IsPermutation-sym, IsPermutation-trans, IsPermutation-append_right, IsPermutation-filter_both}
use Rattle.std.specs.Cmp.{IsTotalOrder}
use Rattle.std.specs.List.{AllByRecursion, list_any}
use Rattle.std.specs.Ordering.{nat_cmp, is_lt, ordering_reverse}
use Rattle.std.specs.declared.cmp.Ordering.{Ordering}
use Rattle.std.specs.declared.cmp.Ordering.TheVariants.{Less, Equal, Greater}
use Rattle.sqlite_keyed.proofs.SortLemmas.{sorted_unique}
use Rattle.sqlite_trees.proofs.ListLemmas.{all_of, all_both, all-append, ascending-append, filter-filter}
use Rattle.sqlite_trees.specs.Tree.{IsAscending}
use Rattle.docket_history.specs.declared.row.ActRow.{ActRow}
use Rattle.docket_sound.specs.Orders.{AreInOrder, key_order, deadline_of, act_order, receipt_order}
use Rattle.docket_sound.specs.Receipts.{key_of}
use Rattle.docket_sound.specs.declared.numbering.Key.{Key}

-- the orders are total
pub key_total : IsTotalOrder key_order
key_total = then_total (on_total (λ (key : Key). key.case) nat_cmp_total) (on_total (λ (key : Key). key.number) nat_cmp_total)

pub act_total : IsTotalOrder act_order
act_total = then_total (on_total deadline_of key_total) (on_total (λ (row : ActRow). row.number) nat_cmp_total)

pub receipt_total : IsTotalOrder receipt_order
receipt_total = on_total key_of nat_list_cmp_total

pub below : (m n : ℕ) → m < n → nat_cmp m n ≡ Less
below m n lt = let e : nat_lt m n ≡ true = grind (arith, nat_tests, lt) in ap (λ b. cond b Less (cond (m == n) Equal Greater)) e

-- each is before those after it
abbrev pub Ascends : {X : Type 0} → (X → X → Ordering) → List X → Type 0
Ascends cmp xs = IsAscending (λ x y. cmp x y ≡ Less) xs

module _ {X : Type 0} (cmp : X → X → Ordering) (total : IsTotalOrder cmp) where
  -- then they are sorted
  pub sorted_up : (xs : List X) → Ascends cmp xs → IsSorted cmp xs
  sorted_up [] up k d low high = absurd (omega (arith, high))
  sorted_up (x ∷ []) up k d low high = absurd (omega (arith, high))
  sorted_up (x ∷ y ∷ xs) up zero d low high = ap is_lt (total.antisymm y x ∙ ap ordering_reverse up.0.0)
  sorted_up (x ∷ y ∷ xs) up (suc k) d low high =
      rw Rattle.std.proofs.Common.add-one (rw Rattle.std.proofs.Common.add-one at (sorted_up (y ∷ xs) up.1 k d (omega arith) (omega (arith, high))))

  -- the only order of them
  pub only_order : (all listed rows : List X) → Ascends cmp listed → IsPermutation all listed → AreInOrder cmp all rows → rows ≡ listed
  only_order all listed rows up same is = sorted_unique cmp total listed rows up (IsPermutation-trans _ _ _ (IsPermutation-sym _ _ same) is.same) is.sorted

-- the parts that a list of keys gives, one after another
module _ {K X : Type 0} (S : K → K → Type 0) (R : X → X → Type 0) (f : K → List X) (across : (a b : K) → S a b → AllByRecursion (λ x. AllByRecursion (R x) (f b)) (f a)) where
  before_all : (a : K) (ks : List K) → AllByRecursion (S a) ks → AllByRecursion (λ x. AllByRecursion (R x) (flat_map f ks)) (f a)
  before_all a [] all = all_of (λ x. AllByRecursion (R x) []) (λ x. tt) (f a)
  before_all a (k ∷ ks) all =
      all_both (λ x. AllByRecursion (R x) (f k)) (λ x. AllByRecursion (R x) (flat_map f ks)) (λ x. AllByRecursion (R x) (f k ++ flat_map f ks))
      (λ x here later. all-append (R x) (f k) (flat_map f ks) here later) (f a) (across a k all.0) (before_all a ks all.1)

  pub ascends_by : (ks : List K) → IsAscending S ks → AllByRecursion (λ k. IsAscending R (f k)) ks → IsAscending R (flat_map f ks)
  ascends_by [] up each = tt
  ascends_by (k ∷ ks) up each = ascending-append R (f k) (flat_map f ks) each.0 (ascends_by ks up.1 each.1) (before_all k ks up.0)

-- a list in parts: what passes the test of each key, where each passes that of one
module _ {K X : Type 0} (p : K → X → Bool) where
  abbrev pub IsApart : K → K → Type 0
  IsApart a b = (x : X) → p a x ≡ true → p b x ≡ false

  others : (k : K) (ks : List K) (xs : List X) → AllByRecursion (λ x. list_any (λ j. p j x) (k ∷ ks) ≡ true) xs → AllByRecursion (λ x. list_any (λ j. p j x) ks ≡ true) (filter (λ x. not (p k x)) xs)
  others k ks [] all = tt
  others k ks (x ∷ xs) all = at (p k x) all.0 (others k ks xs all.1)
    where
      rest : List X
      rest = filter (λ y. not (p k y)) xs

      at : (b : Bool) → (b || list_any (λ j. p j x) ks) ≡ true → AllByRecursion (λ y. list_any (λ j. p j y) ks ≡ true) rest → AllByRecursion (λ y. list_any (λ j. p j y) ks ≡ true) (cond (not b) (x ∷ rest) rest)
      at true any more = more
      at false any more = (any, more)

  apart_not : (k j : K) → IsApart k j → (x : X) → p j x ≡ true → not (p k x) ≡ true
  apart_not k j apart x on = at (p k x) refl
    where
      at : (b : Bool) → p k x ≡ b → not b ≡ true
      at true e = absurd (let clash : true ≡ false = sym on ∙ apart x e in cc)
      at false e = refl

  left_alike : (k : K) (ks : List K) (xs : List X) → AllByRecursion (IsApart k) ks → flat_map (λ j. filter (p j) (filter (λ x. not (p k x)) xs)) ks ≡ flat_map (λ j. filter (p j) xs) ks
  left_alike k [] xs all = refl
  left_alike k (j ∷ js) xs all = ap₂ ◌++◌ (filter-filter (p j) (λ x. not (p k x)) (apart_not k j all.0) xs) (left_alike k js xs all.1)

  pub parted : (ks : List K) (xs : List X) → IsAscending IsApart ks → AllByRecursion (λ x. list_any (λ k. p k x) ks ≡ true) xs → IsPermutation xs (flat_map (λ k. filter (p k) xs) ks)
  parted [] [] apart all = IsPermutation-refl []
  parted [] (x ∷ xs) apart all = absurd (let clash : false ≡ true = all.0 in cc)
  parted (k ∷ ks) xs apart all =
      let rest = filter (λ x. not (p k x)) xs in
      let more : IsPermutation rest (flat_map (λ j. filter (p j) xs) ks) = subst (IsPermutation rest) (left_alike k ks xs apart.0) (parted ks rest apart.1 (others k ks xs all)) in
      IsPermutation-trans _ _ _ (IsPermutation-filter_both (p k) (λ x. not (p k x)) (λ x. refl) xs) (IsPermutation-append_right (filter (p k) xs) _ _ more)
