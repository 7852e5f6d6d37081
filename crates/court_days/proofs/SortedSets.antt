-- Sets of days that are kept in ascending order.
use Rattle.std.proofs.Common.{◌≡◌, ℕ, ◌<◌, List, [], ◌∷◌, length, get_or, false, ◌||◌, Result, Ok, Err, inl, inr, is_ok, sym, ap, ◌∙◌, arith}
use Rattle.std.proofs.lemmas.Bool.{cases_lt, ne_eqb, eq-eqb}
use Rattle.std.proofs.lemmas.List.{get_or_default}
use Rattle.std.proofs.lemmas.List.Edits.{length-insert}
use Rattle.std.proofs.lemmas.List.Elements.{All-from_get_or}
use Rattle.std.proofs.lemmas.List.Folds.{list_any_at, list_any_none}
use Rattle.std.proofs.lemmas.List.Sorted.{searched, IsPermutation-insert, list_any-IsPermutation, IsNonDecreasingBy-insert, IsNonDecreasingBy-short}
use Rattle.std.specs.List as list
use Rattle.std.specs.List.Sorted.{IsNonDecreasing, IsBinarySearchResult}
use Rattle.std.specs.Prelude.{nat_eq}
use Rattle.std.specs.Ordering.{nat_cmp, eq_by_cmp}
use Rattle.std.specs.Cmp.{nat_cmp_total}
use Rattle.std.specs.FinSet as set
use Rattle.court_days.specs.SortedDays.{IsSortedDays}

-- a binary search finds whether the day is a member
pub search-contains : (days : List ℕ) (day : ℕ) (r : Result ℕ ℕ) → IsNonDecreasing days → IsBinarySearchResult (λ y. nat_cmp y day) days r → is_ok r ≡ set.contains (set.from_list {R = nat_cmp} days) day
search-contains days day (Ok place) ascending search =
    let found = searched days day (Ok place) search (λ i j le lt. ascending i j 0 le lt) in
    sym (set.contains-from_list_nat days day ∙ list_any_at (λ y. nat_eq y day) days place 0 found.0 (eq-eqb _ _ found.1))
search-contains days day (Err place) ascending search =
    let found = searched days day (Err place) search (λ i j le lt. ascending i j 0 le lt) in
    let other : (k : ℕ) → k < length days → nat_eq (get_or days k 0) day ≡ false =
    λ k lt. elim (cases_lt k place) [
      | inl below ↦ ne_eqb (get_or days k 0) day (λ e. omega (arith, found.1 k below, e))
      | inr from ↦ ne_eqb (get_or days k 0) day (λ e. omega (arith, found.2 k from lt, e))
    ] in
    sym (set.contains-from_list_nat days day ∙ list_any_none (λ y. nat_eq y day) days (All-from_get_or (λ y. nat_eq y day ≡ false) days 0 other))

-- a list with one more day, as a set
pub from_list-insert : (days : List ℕ) (place day : ℕ) → set.from_list {R = nat_cmp} (list.insert days place day) ≡ set.insert (set.from_list days) day
from_list-insert days place day =
    set.same_set nat_cmp_total set.nat_cmp-IsAntisymmetric _ _ (λ q.
    set.contains-from_list nat_cmp_total (list.insert days place day) q
    ∙ sym (list_any-IsPermutation (eq_by_cmp nat_cmp q) (day ∷ days) (list.insert days place day) (IsPermutation-insert days place day))
    ∙ sym (set.contains-insert nat_cmp_total (set.from_list days) day q ∙ ap (λ b. eq_by_cmp nat_cmp q day || b) (set.contains-from_list nat_cmp_total days q)))

-- a new day at its place keeps the order
pub keeps_sorted : (days : List ℕ) (place day : ℕ) → IsSortedDays days → IsBinarySearchResult (λ y. nat_cmp y day) days (Err place) → set.contains (set.from_list {R = nat_cmp} days) day ≡ false → IsSortedDays (list.insert days place day)
keeps_sorted days place day kept search other =
    let found = searched days day (Err place) search (λ i j le lt. kept.ascending i j 0 le lt) in
    record {
      ascending = IsNonDecreasingBy-insert (λ x. x) days place day kept.ascending found.0
          (λ k d below. omega (arith, found.1 k below, get_or_default days k d 0 (omega (arith, found.0, below))))
          (λ k d from lt. omega (arith, found.2 k from lt, get_or_default days k d 0 lt));
      once = ap set.len (from_list-insert days place day) ∙ set.len-insert nat_cmp_total (set.from_list days) day ∙ rw other (omega (arith, kept.once, length-insert days place day found.0));
    }

pub empty_sorted : (days : List ℕ) → days ≡ [] → IsSortedDays days
empty_sorted days e = rw e (record { ascending = IsNonDecreasingBy-short (λ x. x) [] (omega arith); once = set.len-empty nat_cmp })
