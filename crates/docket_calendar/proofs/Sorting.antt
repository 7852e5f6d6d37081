-- A list has an order in which it is sorted.
use Rattle.std.proofs.Common.{◌≡◌, ◌∙◌, ℕ, zero, suc, ◌+◌, Bool, true, false, cond, List, [], ◌∷◌, Ordering, Less, Equal, Greater, IsSorted, is_lt, is_gt, refl, sym, ap, arith}
use Rattle.std.specs.Cmp.{IsTotalOrder}
use Rattle.std.specs.List.{AllByRecursion}
use Rattle.std.specs.Ordering.{ordering_reverse}
use Rattle.sqlite_keyed.proofs.ListLemmas.{all_weaker}
use Rattle.sqlite_keyed.specs.Lists.{insert_sorted, sort_by}
use Rattle.sqlite_trees.specs.Tree.{IsAscending}

module _ {X : Type 0} (cmp : X → X → Ordering) (total : IsTotalOrder cmp) where
  abbrev IsAtMost : X → X → Type 0
  IsAtMost a b = is_lt (cmp b a) ≡ false

  all-insert : (P : X → Type 0) (new : X) (xs : List X) → P new → AllByRecursion P xs → AllByRecursion P (insert_sorted cmp new xs)
  all-insert P new [] h all = (h, tt)
  all-insert P new (x ∷ xs) h all =
      elim (is_gt (cmp new x)) as (λ b. AllByRecursion P (cond b (x ∷ insert_sorted cmp new xs) (new ∷ x ∷ xs))) [ true ↦ (all.0, all-insert P new xs h all.1) | false ↦ (h, all) ]

  not_less : (o : Ordering) → (o ≡ Less → ⊥) → is_lt o ≡ false
  not_less Less never = absurd (never refl)
  not_less Equal never = refl
  not_less Greater never = refl

  less_no : (o : Ordering) → is_lt o ≡ false → o ≡ Less → ⊥
  less_no o e less = absurd (let one = sym (ap is_lt less) ∙ e in cc)

  below : (new x y : X) → cmp new x ≡ Less → IsAtMost x y → IsAtMost new y
  below new x y less most = not_less (cmp y new) (λ e. less_no (cmp y x) most (total.trans y new x e less))

  beside : (new x y : X) → cmp new x ≡ Equal → IsAtMost x y → IsAtMost new y
  beside new x y same most =
      let is : cmp y new ≡ cmp y x = total.antisymm y new ∙ ap ordering_reverse (total.congr new x y same) ∙ sym (total.antisymm y x) in
      ap is_lt is ∙ most

  up-insert : (new : X) (xs : List X) → IsAscending IsAtMost xs → IsAscending IsAtMost (insert_sorted cmp new xs)
  up-insert new [] up = (tt, tt)
  up-insert new (x ∷ xs) up = go (cmp new x) refl (up-insert new xs up.1)
    where
      go : (o : Ordering) → cmp new x ≡ o → IsAscending IsAtMost (insert_sorted cmp new xs) → IsAscending IsAtMost (cond (is_gt o) (x ∷ insert_sorted cmp new xs) (new ∷ x ∷ xs))
      go Less e more = ((ap is_lt (total.antisymm x new ∙ ap ordering_reverse e), all_weaker _ (IsAtMost new) (λ y most. below new x y e most) xs up.0), up)
      go Equal e more = ((ap is_lt (total.antisymm x new ∙ ap ordering_reverse e), all_weaker _ (IsAtMost new) (λ y most. beside new x y e most) xs up.0), up)
      go Greater e more = (all-insert (IsAtMost x) new xs (ap is_lt e) up.0, more)

  up-sorted : (xs : List X) → IsAscending IsAtMost (sort_by cmp xs)
  up-sorted [] = tt
  up-sorted (x ∷ xs) = up-insert x (sort_by cmp xs) (up-sorted xs)

  sorted_up : (xs : List X) → IsAscending IsAtMost xs → IsSorted cmp xs
  sorted_up [] up i d low high = absurd (omega (arith, high))
  sorted_up (x ∷ []) up i d low high = absurd (omega (arith, high))
  sorted_up (x ∷ y ∷ xs) up zero d low high = up.0.0
  sorted_up (x ∷ y ∷ xs) up (suc i) d low high =
      rw Rattle.std.proofs.Common.add-one (rw Rattle.std.proofs.Common.add-one at (sorted_up (y ∷ xs) up.1 i d (omega arith) (omega (arith, high))))

  pub sorted-sort_by : (xs : List X) → IsSorted cmp (sort_by cmp xs)
  sorted-sort_by xs = sorted_up (sort_by cmp xs) (up-sorted xs)
