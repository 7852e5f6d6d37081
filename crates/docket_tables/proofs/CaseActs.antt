-- The acts of a case, as one question shows them: by their deadlines, and by their numbers.
use Rattle.std.proofs.Common.{◌≡◌, ◌∙◌, ◌==◌, ◌&&◌, ◌<◌, ◌≤◌, ℕ, zero, suc, pos, List, [], ◌∷◌, map, filter, length, get_or, Bool, true, false, cond, true≢false, Ordering, Less, Equal, Greater, is_eq, is_lt, is_gt, int_cmp, IsPermutation, IsSorted, refl, sym, ap, ap₂, subst, arith}
use Rattle.std.specs.List.{AllByRecursion}
use Rattle.std.specs.Cmp.{IsTotalOrder}
use Rattle.std.specs.List.Sorted.{IsNonDecreasingBy}
use Rattle.std.specs.Ordering.{on, ordering_then, ordering_reverse}
use Rattle.std.proofs.lemmas.Bool.Decides.{nat_tests}
use Rattle.std.proofs.lemmas.Cmp.{on_total}
use Rattle.std.proofs.lemmas.Int.{ints}
use Rattle.std.proofs.lemmas.List.Sorted.{IsPermutation-sym}
use Rattle.sqlite.specs.declared.types.Value.TheVariants.{Int}
use Rattle.sqlite.specs.Order.{Row}
use Rattle.sqlite.specs.Query.{key_cmp}
use Rattle.sqlite_keyed.specs.Lists.{insert_sorted, sort_by}
use Rattle.sqlite_keyed.proofs.SortLemmas.{sorted_unique, sorted_is-sort_by, sort_by-map, IsPermutation-sort_by, HasNoTies}
use Rattle.sqlite_keyed.proofs.ListLemmas.{all_weaker, ascending-map, ascending-filter, IsPermutation-filter, all_kept}
use Rattle.sqlite_sql.proofs.QueryLemmas.{key_cmp_total}
use Rattle.sqlite_trees.proofs.ListLemmas.{all-filter}
use Rattle.sqlite_trees.specs.Tree.{IsAscending}
use Rattle.sqlite_trees.specs.Props.{rows_set}
use Rattle.sqlite_value.proofs.OrderLemmas.{value_cmp-Int}
use Rattle.std.proofs.Math.Logic.{∥∥₁_elim}
use Rattle.docket_history.specs.declared.row.ActRow.{ActRow}
use Rattle.docket_columns.specs.Cells.{act_cells}
use Rattle.docket_orderly.specs.Orderly.{Rises, RunsFrom, acts_on}
use Rattle.docket_tables.specs.Queries.{picks, IsAnswer}
use Rattle.docket_tables.specs.declared.query.Query.TheVariants as ask
use Rattle.docket_tables.proofs.AnswerLemmas.{rising, kept_rows, rises_running, equal_number}
use Rattle.docket_tables.proofs.HoldsLemmas.{and_yes}

-- a list without ties is sorted so that each is before those after it
module _ {X : Type 0} (cmp : X → X → Ordering) (total : IsTotalOrder cmp) where
  abbrev Climbs : List X → Type 0
  Climbs = IsAscending (λ a b. cmp a b ≡ Less)

  all-insert : (P : X → Type 0) (new : X) (xs : List X) → P new → AllByRecursion P xs → AllByRecursion P (insert_sorted cmp new xs)
  all-insert P new [] h all = (h, tt)
  all-insert P new (x ∷ xs) h all =
      elim (is_gt (cmp new x)) as (λ b. AllByRecursion P (cond b (x ∷ insert_sorted cmp new xs) (new ∷ x ∷ xs))) [ true ↦ (all.0, all-insert P new xs h all.1) | false ↦ (h, all) ]

  all-sorted : (P : X → Type 0) (xs : List X) → AllByRecursion P xs → AllByRecursion P (sort_by cmp xs)
  all-sorted P [] all = tt
  all-sorted P (x ∷ xs) all = all-insert P x _ all.0 (all-sorted P xs all.1)

  climbs-insert : (new : X) (xs : List X) → AllByRecursion (λ y. is_eq (cmp new y) ≡ false) xs → Climbs xs → Climbs (insert_sorted cmp new xs)
  climbs-insert new [] apart up = (tt, tt)
  climbs-insert new (x ∷ xs) apart up = go (cmp new x) refl (climbs-insert new xs apart.1 up.1)
    where
      go : (o : Ordering) → cmp new x ≡ o → Climbs (insert_sorted cmp new xs) → Climbs (cond (is_gt o) (x ∷ insert_sorted cmp new xs) (new ∷ x ∷ xs))
      go Less e more = ((e, all_weaker _ (λ y. cmp new y ≡ Less) (λ y. total.trans new x y e) xs up.0), up)
      go Equal e more = absurd (true≢false (sym (ap is_eq e) ∙ apart.0))
      go Greater e more = (all-insert _ new xs (total.antisymm x new ∙ ap ordering_reverse e) up.0, more)

  climbs-sorted : (xs : List X) → HasNoTies cmp total xs → Climbs (sort_by cmp xs)
  climbs-sorted [] apart = tt
  climbs-sorted (x ∷ xs) apart = climbs-insert x _ (all-sorted _ xs apart.0) (climbs-sorted xs apart.1)

  sorted_climbing : (xs : List X) → Climbs xs → IsSorted cmp xs
  sorted_climbing [] up i d low high = absurd (omega (arith, high))
  sorted_climbing (x ∷ []) up i d low high = absurd (omega (arith, high))
  sorted_climbing (x ∷ y ∷ xs) up zero d low high = ap is_lt (total.antisymm y x ∙ ap ordering_reverse up.0.0)
  sorted_climbing (x ∷ y ∷ xs) up (suc i) d low high =
      rw Rattle.std.proofs.Common.add-one (rw Rattle.std.proofs.Common.add-one at (sorted_climbing (y ∷ xs) up.1 i d (omega arith) (omega (arith, high))))

abbrev act_order : ActRow → ActRow → Ordering
act_order a b = on (picks ask.Acts) (key_cmp 0 (rising ∷ rising ∷ [])) (act_cells a) (act_cells b)

act_total : IsTotalOrder act_order
act_total = on_total (λ row. picks ask.Acts (act_cells row)) (key_cmp_total (rising ∷ rising ∷ []) 0)

-- by the deadlines, and then by the numbers
order_is : (a b : ActRow) → act_order a b ≡ ordering_then (int_cmp (pos a.deadline) (pos b.deadline)) (ordering_then (int_cmp (pos a.number) (pos b.number)) Equal)
order_is a b = ap₂ (λ x y. ordering_then x (ordering_then y Equal)) (value_cmp-Int (pos a.deadline) (pos b.deadline)) (value_cmp-Int (pos a.number) (pos b.number))

climbs_by_number : (a b : ActRow) → a.deadline ≡ b.deadline → a.number < b.number → act_order a b ≡ Less
climbs_by_number a b same low =
    let first : int_cmp (pos a.deadline) (pos b.deadline) ≡ Equal = grind (arith, ints) in
    let second : int_cmp (pos a.number) (pos b.number) ≡ Less = grind (arith, ints) in
    order_is a b ∙ ap₂ (λ x y. ordering_then x (ordering_then y Equal)) first second

untied : (a b : ActRow) → ((a.deadline == b.deadline) ≡ true → a.number < b.number) → is_eq (act_order a b) ≡ false
untied a b low = at (int_cmp (pos a.deadline) (pos b.deadline)) refl
  where
    at : (o : Ordering) → int_cmp (pos a.deadline) (pos b.deadline) ≡ o → is_eq (act_order a b) ≡ false
    at Less e = ap is_eq (order_is a b ∙ ap (λ x. ordering_then x (ordering_then (int_cmp (pos a.number) (pos b.number)) Equal)) e)
    at Greater e = ap is_eq (order_is a b ∙ ap (λ x. ordering_then x (ordering_then (int_cmp (pos a.number) (pos b.number)) Equal)) e)
    at Equal e =
        let same : a.deadline ≡ b.deadline = grind (arith, ints, e) in
        let true_is : (a.deadline == b.deadline) ≡ true = grind (arith, nat_tests, same) in
        ap is_eq (climbs_by_number a b same (low true_is))

not_above : (a b : ActRow) → act_order a b ≡ Less → a.deadline ≤ b.deadline
not_above a b less = at (int_cmp (pos a.deadline) (pos b.deadline)) refl
  where
    at : (o : Ordering) → int_cmp (pos a.deadline) (pos b.deadline) ≡ o → a.deadline ≤ b.deadline
    at Less e = grind (arith, ints, e)
    at Equal e = grind (arith, ints, e)
    at Greater e =
        let above = order_is a b ∙ ap (λ x. ordering_then x (ordering_then (int_cmp (pos a.number) (pos b.number)) Equal)) e in
        absurd (true≢false (ap is_gt (sym above ∙ less)))

-- an element of those that all pass
each_of : (P : ActRow → Type 0) (rows : List ActRow) (i : ℕ) (d : ActRow) → AllByRecursion P rows → i < length rows → P (get_or rows i d)
each_of P [] i d all low = absurd (omega (arith, low))
each_of P (row ∷ rows) zero d all low = all.0
each_of P (row ∷ rows) (suc i) d all low = each_of P rows i d all.1 (omega (arith, low))

climbs_by_deadline : (rows : List ActRow) → Climbs act_order act_total rows → IsNonDecreasingBy (λ (row : ActRow). row.deadline) rows
climbs_by_deadline [] up i j d le low = absurd (omega (arith, low))
climbs_by_deadline (row ∷ rows) up zero zero d le low = omega arith
climbs_by_deadline (row ∷ rows) up zero (suc j) d le low = not_above row (get_or rows j d) (each_of (λ other. act_order row other ≡ Less) rows j d up.0 (omega (arith, low)))
climbs_by_deadline (row ∷ rows) up (suc i) zero d le low = absurd (omega (arith, le))
climbs_by_deadline (row ∷ rows) up (suc i) (suc j) d le low = climbs_by_deadline rows up.1 i j d (omega (arith, le)) (omega (arith, low))

-- those that pass two tests
pub passing_both : {X : Type 0} (p q : X → Bool) (xs : List X) → filter q (filter p xs) ≡ filter (λ x. p x && q x) xs
passing_both p q [] = refl
passing_both p q (x ∷ xs) = at (p x) (passing_both p q xs)
  where
    at : (b : Bool) → filter q (filter p xs) ≡ filter (λ y. p y && q y) xs → filter q (cond b (x ∷ filter p xs) (filter p xs)) ≡ cond (b && q x) (x ∷ filter (λ y. p y && q y) xs) (filter (λ y. p y && q y) xs)
    at true more = ap (λ ys. cond (q x) (x ∷ ys) ys) more
    at false more = more

abbrev pub of_deadline : ℕ → List ActRow → List ActRow
of_deadline n rows = filter (λ row. row.deadline == n) rows

abbrev numbers : List ActRow → List ℕ
numbers rows = map (λ (row : ActRow). row.number) rows

above : (n : ℕ) (rows : List ActRow) → AllByRecursion (λ m. n < m) (numbers rows) → AllByRecursion (λ (row : ActRow). n < row.number) rows
above n [] h = tt
above n (row ∷ rows) h = (h.0, above n rows h.1)

head_below : (row : ActRow) (rows : List ActRow) → Rises (numbers (of_deadline row.deadline (row ∷ rows))) → AllByRecursion (λ m. row.number < m) (numbers (of_deadline row.deadline rows))
head_below row rows rises =
    let here : (row.deadline == row.deadline) ≡ true = grind (arith, nat_tests) in
    (subst (λ b. Rises (numbers (cond b (row ∷ of_deadline row.deadline rows) (of_deadline row.deadline rows)))) here rises).0

tail_rises : (n : ℕ) (row : ActRow) (rows : List ActRow) → Rises (numbers (of_deadline n (row ∷ rows))) → Rises (numbers (of_deadline n rows))
tail_rises n row rows rises = at (row.deadline == n) rises
  where
    at : (b : Bool) → Rises (numbers (cond b (row ∷ of_deadline n rows) (of_deadline n rows))) → Rises (numbers (of_deadline n rows))
    at true h = h.1
    at false h = h

no_ties : (rows : List ActRow) → ((n : ℕ) → Rises (numbers (of_deadline n rows))) → HasNoTies act_order act_total rows
no_ties [] rises = tt
no_ties (row ∷ rows) rises =
    let low = all_kept (λ (other : ActRow). row.number < other.number) (λ other. other.deadline == row.deadline) rows (above row.number (of_deadline row.deadline rows) (head_below row rows (rises row.deadline))) in
    (all_weaker _ (λ other. is_eq (act_order row other) ≡ false) (λ other h. untied row other (λ same. h (turned row.deadline other.deadline same))) rows low, no_ties rows (λ n. tail_rises n row rows (rises n)))
  where
    turned : (a b : ℕ) → (a == b) ≡ true → (b == a) ≡ true
    turned a b e = grind (arith, nat_tests, e)

-- one deadline's acts rise already
climbs_alone : (n : ℕ) (rows : List ActRow) → AllByRecursion (λ (row : ActRow). row.deadline ≡ n) rows → Rises (numbers rows) → Climbs act_order act_total rows
climbs_alone n [] same rises = tt
climbs_alone n (row ∷ rows) same rises = (each rows same.1 (above row.number rows rises.0), climbs_alone n rows same.1 rises.1)
  where
    each : (others : List ActRow) → AllByRecursion (λ (other : ActRow). other.deadline ≡ n) others → AllByRecursion (λ (other : ActRow). row.number < other.number) others → AllByRecursion (λ other. act_order row other ≡ Less) others
    each [] a b = tt
    each (other ∷ others) a b = (climbs_by_number row other (same.0 ∙ sym a.0) b.0, each others a.1 b.1)

deadlines_same : (n : ℕ) (rows : List ActRow) → AllByRecursion (λ (row : ActRow). row.deadline ≡ n) (of_deadline n rows)
deadlines_same n [] = tt
deadlines_same n (row ∷ rows) = at (row.deadline == n) refl (deadlines_same n rows)
  where
    at : (b : Bool) → (row.deadline == n) ≡ b → AllByRecursion (λ (r : ActRow). r.deadline ≡ n) (of_deadline n rows) → AllByRecursion (λ (r : ActRow). r.deadline ≡ n) (cond b (row ∷ of_deadline n rows) (of_deadline n rows))
    at true e more = (grind (arith, nat_tests, e), more)
    at false e more = more

module _ (k : ℕ) (acts : List ActRow) (runs : (n : ℕ) → RunsFrom 1 (numbers (acts_on k n acts))) where
  abbrev own : List ActRow
  own = filter (λ row. row.case == k) acts

  own_of : (n : ℕ) → of_deadline n own ≡ acts_on k n acts
  own_of n = passing_both (λ (row : ActRow). row.case == k) (λ row. row.deadline == n) acts

  own_rises : (n : ℕ) → Rises (numbers (of_deadline n own))
  own_rises n = subst (λ rows. Rises (numbers rows)) (sym (own_of n)) (rises_running 1 _ (runs n))

  -- the acts of the case in order
  pub in_turn : List ActRow
  in_turn = sort_by act_order own

  pub in_turn_of : (n : ℕ) → of_deadline n in_turn ≡ acts_on k n acts
  unfolding in_turn
  in_turn_of n =
      let up = ascending-filter (λ a b. act_order a b ≡ Less) (λ row. row.deadline == n) _ (climbs-sorted act_order act_total own (no_ties own own_rises)) in
      sorted_unique act_order act_total (of_deadline n own) (of_deadline n (sort_by act_order own)) (climbs_alone n (of_deadline n own) (deadlines_same n own) (own_rises n))
      (IsPermutation-filter (λ row. row.deadline == n) _ _ (IsPermutation-sym _ _ (IsPermutation-sort_by act_order act_total own))) (sorted_climbing act_order act_total _ up)
      ∙ own_of n

  pub in_turn_rises : IsNonDecreasingBy (λ (row : ActRow). row.deadline) in_turn
  unfolding in_turn
  in_turn_rises = climbs_by_deadline _ (climbs-sorted act_order act_total own (no_ties own own_rises))

  pub answered_in_turn : (found : List Row) → IsAnswer ask.Acts (Int (pos k) ∷ []) (map act_cells acts) found → found ≡ map act_cells in_turn
  unfolding in_turn
  answered_in_turn found answer =
      let order = on (picks ask.Acts) (key_cmp 0 (rising ∷ rising ∷ [])) in
      let total = on_total (picks ask.Acts) (key_cmp_total (rising ∷ rising ∷ []) 0) in
      let kept = kept_rows ask.Acts (Int (pos k) ∷ []) act_cells (λ row. row.case == k) (λ row. and_yes _ ∙ equal_number row.case k) acts found in
      let apart = ascending-map (λ a b. is_eq (order a b) ≡ false) act_cells own (no_ties own own_rises) in
      ∥∥₁_elim answer (rows_set _ _) (λ it.
      it.first ∙ sorted_is-sort_by order total (map act_cells own) it.whole apart (subst (λ xs. IsPermutation xs it.whole) kept it.same) it.sorted ∙ sort_by-map order act_cells own)

  pub in_turn_all : (P : ActRow → Type 0) → AllByRecursion P acts → AllByRecursion P in_turn
  unfolding in_turn
  in_turn_all P all = all-sorted act_order act_total P own (all-filter P (λ row. row.case == k) acts all)
