-- What the rows of an answer are, where the docket's rows are numbered.
use Rattle.std.proofs.Common.{◌≡◌, ◌⊎◌, inl, inr, ◌∙◌, ◌==◌, ◌+◌, ◌<◌, ◌≤◌, ℕ, suc, pos, List, [], ◌∷◌, ◌++◌, append-nil, map, filter, length, take, Bool, true, false, Some, None, Ordering, Less, Equal, is_eq, int_cmp, IsPermutation, IsSorted, refl, sym, ap, subst, arith}
use Rattle.std.specs.List.{AllByRecursion}
use Rattle.std.specs.Ordering.{on, ordering_then}
use Rattle.std.specs.Coded.{coded_ℕ}
use base.Stored.{Coded-set}
use Rattle.std.proofs.Math.Logic.{∥∥₁_elim}
use Rattle.std.proofs.lemmas.Bool.Decides.{nat_tests}
use Rattle.std.proofs.lemmas.Cmp.{on_total}
use Rattle.std.proofs.lemmas.Int.{ints}
use Rattle.std.proofs.lemmas.List.{length-map}
use Rattle.std.proofs.lemmas.List.Sorted.{IsPermutation-trans, IsPermutation-sym, IsPermutation-refl, IsPermutation-cons, IsPermutation-middle, length_permutation}
use Rattle.sqlite.specs.declared.types.Value.TheVariants.{Int}
use Rattle.sqlite.specs.Collation.TheVariants.{Binary}
use Rattle.sqlite.specs.Order.{Row}
use Rattle.sqlite.specs.Query.{key_cmp, limited}
use Rattle.sqlite_keyed.proofs.SortLemmas.{sorted_unique}
use Rattle.sqlite_keyed.proofs.ListLemmas.{all_weaker}
use Rattle.sqlite_schema.specs.Rules.{equal}
use Rattle.sqlite_sql.proofs.QueryLemmas.{key_cmp_total}
use Rattle.sqlite_trees.proofs.ListLemmas.{filter-map, filter_same, filter_all, all_of, all-map}
use Rattle.sqlite_trees.specs.Props.{rows_set}
use Rattle.sqlite_trees.specs.Tree.{IsAscending}
use Rattle.sqlite_value.proofs.OrderLemmas.{value_cmp-Int}
use Rattle.sqlite_value.specs.declared.keys.Key.{Key}
use Rattle.docket_tables.specs.Holds.{has_key}
use Rattle.docket_orderly.specs.Orderly.{Rises, RunsFrom}
use Rattle.docket_tables.specs.Queries.{keys_of, picks, directions, most_of, IsAnswer}
use Rattle.docket_tables.specs.declared.query.Query.{Query}
use Rattle.docket_tables.proofs.CellLemmas.{short_permutation}
use Rattle.docket_tables.proofs.HoldsLemmas.{equal_int}

pub same_number : (m n : ℕ) → is_eq (int_cmp (pos m) (pos n)) ≡ (m == n)
same_number m n = grind (arith, ints, nat_tests)

pub equal_number : (m n : ℕ) → equal Binary (Int (pos m)) (Int (pos n)) ≡ (m == n)
equal_number m n = equal_int (pos m) (pos n) ∙ same_number m n

abbrev pub rising : Key
rising = record { collation = Binary; descending = false }

abbrev pub falling : Key
falling = record { collation = Binary; descending = true }

above : (n : ℕ) (ns : List ℕ) → RunsFrom n ns → AllByRecursion (λ m. n ≤ m) ns
above n [] runs = tt
above n (m ∷ ms) runs = (omega (arith, runs.0), all_weaker _ _ (λ k low. omega (arith, low)) ms (above (suc n) ms runs.1))

pub rises_running : (n : ℕ) (ns : List ℕ) → RunsFrom n ns → Rises ns
rises_running n [] runs = tt
rises_running n (m ∷ ms) runs = (all_weaker _ _ (λ k low. omega (arith, low, runs.0)) ms (above (suc n) ms runs.1), rises_running (suc n) ms runs.1)

-- the last first
abbrev flipped : {A : Type 0} → List A → List A
flipped [] = []
flipped (x ∷ xs) = flipped xs ++ x ∷ []

flipped_same : {A : Type 0} (xs : List A) → IsPermutation xs (flipped xs)
flipped_same [] = IsPermutation-refl []
flipped_same (x ∷ xs) =
    IsPermutation-trans _ _ _ (IsPermutation-cons x _ _ (flipped_same xs))
    (IsPermutation-sym _ _ (subst (λ ys. IsPermutation (flipped xs ++ x ∷ []) (x ∷ ys)) (append-nil (flipped xs)) (IsPermutation-middle (flipped xs) x [])))

ascending-snoc : {A : Type 0} (R : A → A → Type 0) (xs : List A) (z : A) → IsAscending R xs → AllByRecursion (λ x. R x z) xs → IsAscending R (xs ++ z ∷ [])
ascending-snoc R [] z up all = (tt, tt)
ascending-snoc {A} R (x ∷ xs) z up all = (each xs up.0, ascending-snoc R xs z up.1 all.1)
  where
    each : (ys : List A) → AllByRecursion (R x) ys → AllByRecursion (R x) (ys ++ z ∷ [])
    each [] h = (all.0, tt)
    each (y ∷ ys) h = (h.0, each ys h.1)

all-flipped : {A : Type 0} (P : A → Type 0) (xs : List A) → AllByRecursion P xs → AllByRecursion P (flipped xs)
all-flipped P [] h = tt
all-flipped {A} P (x ∷ xs) h = snoc (flipped xs) (all-flipped P xs h.1)
  where
    snoc : (ys : List A) → AllByRecursion P ys → AllByRecursion P (ys ++ x ∷ [])
    snoc [] k = (h.0, tt)
    snoc (y ∷ ys) k = (k.0, snoc ys k.1)

first_before : {A : Type 0} (xs : List A) (x z : A) → take 1 xs ≡ x ∷ [] → take 1 (xs ++ z ∷ []) ≡ x ∷ []
first_before [] x z e = absurd (let no = ap length e in omega (arith, no))
first_before (y ∷ ys) x z e = e

module _ {X : Type 0} (q : Query) (params : Row) (cells : X → Row) (passes : X → Bool) (kept : (x : X) → has_key (keys_of q) params (cells x) ≡ passes x) (all : List X) (found : List Row) where
  pub kept_rows : filter (has_key (keys_of q) params) (map cells all) ≡ map cells (filter passes all)
  kept_rows = filter-map _ cells all ∙ ap (map cells) (filter_same _ _ all (all_of _ kept all))

  -- with no order, where one row passes at most
  pub the_one : most_of q ≡ None → length (filter passes all) ≤ 1 → IsAnswer q params (map cells all) found → found ≡ map cells (filter passes all)
  the_one most few answer =
      ∥∥₁_elim answer (rows_set _ _) (λ it.
      it.first ∙ ap (λ m. limited m it.whole) most
      ∙ short_permutation _ it.whole (omega (arith, few, length-map (filter passes all) cells)) (subst (λ xs. IsPermutation xs it.whole) kept_rows it.same))

  -- as many rows as pass
  pub so_many : most_of q ≡ None → IsAnswer q params (map cells all) found → length found ≡ length (filter passes all)
  so_many most answer =
      ∥∥₁_elim answer (Coded-set coded_ℕ _ _) (λ it.
      ap length (it.first ∙ ap (λ m. limited m it.whole) most)
      ∙ length_permutation _ it.whole it.same ∙ ap length kept_rows ∙ length-map (filter passes all) cells)

  module _ (number : X → ℕ) (picked : (x : X) → picks q (cells x) ≡ Int (pos (number x)) ∷ []) where
    abbrev cmp : List Key → Row → Row → Ordering
    cmp keys = on (picks q) (key_cmp 0 keys)

    comes_first : (x y : X) → number x < number y → cmp (rising ∷ []) (cells x) (cells y) ≡ Less
    comes_first x y low =
        let lower : int_cmp (pos (number x)) (pos (number y)) ≡ Less = grind (arith, ints) in
        ap (λ a. key_cmp 0 (rising ∷ []) a (picks q (cells y))) (picked x) ∙ ap (key_cmp 0 (rising ∷ []) (Int (pos (number x)) ∷ [])) (picked y)
        ∙ ap (λ o. ordering_then o Equal) (value_cmp-Int (pos (number x)) (pos (number y)) ∙ lower)

    comes_last : (x y : X) → number x < number y → cmp (falling ∷ []) (cells y) (cells x) ≡ Less
    comes_last x y low =
        let lower : int_cmp (pos (number x)) (pos (number y)) ≡ Less = grind (arith, ints) in
        ap (λ a. key_cmp 0 (falling ∷ []) a (picks q (cells x))) (picked y) ∙ ap (key_cmp 0 (falling ∷ []) (Int (pos (number y)) ∷ [])) (picked x)
        ∙ ap (λ o. ordering_then o Equal) (value_cmp-Int (pos (number x)) (pos (number y)) ∙ lower)

    each_above : (n : ℕ) (xs : List X) → AllByRecursion (λ m. n < m) (map number xs) → AllByRecursion (λ x. n < number x) xs
    each_above n [] h = tt
    each_above n (x ∷ xs) h = (h.0, each_above n xs h.1)

    ascends : (xs : List X) → Rises (map number xs) → IsAscending (λ a b. cmp (rising ∷ []) a b ≡ Less) (map cells xs)
    ascends [] rises = tt
    ascends (x ∷ xs) rises =
        (all-map (λ r. cmp (rising ∷ []) (cells x) r ≡ Less) cells xs (all_weaker _ _ (λ y low. comes_first x y low) xs (each_above (number x) xs rises.0)), ascends xs rises.1)

    -- in the order of their numbers
    pub in_order : directions q ≡ rising ∷ [] → most_of q ≡ None → Rises (map number (filter passes all)) → IsAnswer q params (map cells all) found → found ≡ map cells (filter passes all)
    in_order by most rises answer =
        ∥∥₁_elim answer (rows_set _ _) (λ it.
        it.first ∙ ap (λ m. limited m it.whole) most
        ∙ sorted_unique (cmp (rising ∷ [])) (on_total (picks q) (key_cmp_total (rising ∷ []) 0)) (map cells (filter passes all)) it.whole (ascends (filter passes all) rises)
        (subst (λ xs. IsPermutation xs it.whole) kept_rows it.same) (subst (λ ks. IsSorted (cmp ks) it.whole) by it.sorted))

    falls : (xs : List X) → Rises (map number xs) → IsAscending (λ a b. cmp (falling ∷ []) a b ≡ Less) (flipped (map cells xs))
    falls [] rises = tt
    falls (x ∷ xs) rises =
        ascending-snoc (λ a b. cmp (falling ∷ []) a b ≡ Less) (flipped (map cells xs)) (cells x) (falls xs rises.1)
        (all-flipped (λ r. cmp (falling ∷ []) r (cells x) ≡ Less) (map cells xs)
        (all-map (λ r. cmp (falling ∷ []) r (cells x) ≡ Less) cells xs (all_weaker _ _ (λ y low. comes_last x y low) xs (each_above (number x) xs rises.0))))

    last_of : (Is : X → Type 0) (n : ℕ) (xs : List X) → RunsFrom n (map number xs) → AllByRecursion Is xs → 0 < length xs
        → (x : X) × (number x + 1 ≡ n + length xs) × Is x × (take 1 (flipped (map cells xs)) ≡ cells x ∷ [])
    last_of Is n [] runs all some = absurd (omega (arith, some))
    last_of Is n (x ∷ []) runs all some = (x, omega (arith, runs.0), all.0, refl)
    last_of Is n (x ∷ y ∷ ys) runs all some =
        let it = last_of Is (suc n) (y ∷ ys) runs.1 all.1 (omega arith) in
        (it.0, omega (arith, it.1), it.2, first_before (flipped (map cells (y ∷ ys))) (cells it.0) (cells x) it.3)

    -- the row of the highest number, where the numbers run from 1
    pub the_last : (Is : X → Type 0) → directions q ≡ falling ∷ [] → most_of q ≡ Some 1 → RunsFrom 1 (map number (filter passes all)) → AllByRecursion Is (filter passes all)
        → IsAnswer q params (map cells all) found
        → ((length (filter passes all) ≡ 0) × (found ≡ [])) ⊎ ((x : X) × (number x ≡ length (filter passes all)) × Is x × (found ≡ cells x ∷ []))
    the_last Is by most runs each answer = split (filter passes all) refl
      where
        are : found ≡ take 1 (flipped (map cells (filter passes all)))
        are = ∥∥₁_elim answer (rows_set _ _) (λ it.
            it.first ∙ ap (λ m. limited m it.whole) most
            ∙ ap (take 1) (sorted_unique (cmp (falling ∷ [])) (on_total (picks q) (key_cmp_total (falling ∷ []) 0)) (flipped (map cells (filter passes all))) it.whole
            (falls (filter passes all) (rises_running 1 _ runs))
            (IsPermutation-trans _ _ _ (IsPermutation-sym _ _ (flipped_same (map cells (filter passes all)))) (subst (λ xs. IsPermutation xs it.whole) kept_rows it.same))
            (subst (λ ks. IsSorted (cmp ks) it.whole) by it.sorted)))

        split : (xs : List X) → filter passes all ≡ xs
            → ((length (filter passes all) ≡ 0) × (found ≡ [])) ⊎ ((x : X) × (number x ≡ length (filter passes all)) × Is x × (found ≡ cells x ∷ []))
        split [] e = inl (ap length e, are ∙ ap (λ xs. take 1 (flipped (map cells xs))) e)
        split (y ∷ ys) e =
            let it = last_of Is 1 (filter passes all) runs each (omega (arith, ap length e)) in
            inr (it.0, omega (arith, it.1), it.2, are ∙ it.3)

-- all rows of a table, in the order of their numbers
pub all_in_order : {X : Type 0} (q : Query) (cells : X → Row) (number : X → ℕ) (all : List X) (found : List Row) → ((x : X) → has_key (keys_of q) [] (cells x) ≡ true)
    → ((x : X) → picks q (cells x) ≡ Int (pos (number x)) ∷ []) → directions q ≡ rising ∷ [] → most_of q ≡ None → Rises (map number all) → IsAnswer q [] (map cells all) found → found ≡ map cells all
all_in_order q cells number all found kept picked by most rises answer =
    let same = filter_all (λ _. true) all (all_of _ (λ _. refl) all) in
    in_order q [] cells (λ _. true) kept all found number picked by most (subst (λ xs. Rises (map number xs)) (sym same) rises) answer ∙ ap (map cells) same
