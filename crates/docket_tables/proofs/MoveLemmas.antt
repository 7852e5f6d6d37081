-- From what UPDATE does to what a table holds: each row that matches shows other cells, and the others stay.
use Rattle.std.proofs.Common.{◌≡◌, ◌∙◌, ℕ, List, [], ◌∷◌, ◌++◌, map, filter, not, Bool, true, false, cond, IsPermutation, refl, sym, ap, subst}
use Rattle.std.proofs.Math.Logic.{∥∥₁_map}
use Rattle.std.proofs.lemmas.Bool.{and_parts, not-true}
use Rattle.std.proofs.lemmas.List.{map-append}
use Rattle.std.proofs.lemmas.List.Sorted.{IsPermutation-refl, IsPermutation-trans, IsPermutation-sym, IsPermutation-cons, IsPermutation-map, IsPermutation-append, IsPermutation-middle, IsPermutation-append_right}
use Rattle.sqlite_trees.proofs.ListLemmas.{map-map, filter-map}
use Rattle.sqlite_trees.proofs.TreeLemmas.{IsShaped-put_row, IsShaped-filter}
use Rattle.sqlite_trees.specs.Tree.{put_row}
use Rattle.sqlite_trees.specs.View.{IsShaped}
use Rattle.sqlite_trees.specs.declared.store.Shape.TheVariants as shape
use Rattle.sqlite_rules.specs.Calls.{ids_of}
use Rattle.sqlite_rules.specs.Edit.{are_fresh, have_rowids}
use Rattle.sqlite.specs.Edit.{without_all, put_all, numbered}
use Rattle.sqlite.specs.Order.{Row, column}
use Rattle.sqlite.specs.Rowids.TheVariants.{Given}
use Rattle.sqlite.specs.Tree.{Trees}
use Rattle.docket_tables.specs.Holds.{cells, Holds}
use Rattle.docket_tables.proofs.CellLemmas.{put_permutes}
use Rattle.docket_tables.proofs.RowidLemmas.{left}

pub numbered_given : (rows news : List Row) → numbered Given rows news ≡ news
numbered_given rows [] = refl
numbered_given rows (r ∷ rs) = ap (λ more. r ∷ more) (numbered_given (put_row r rows) rs)

-- fresh rows are put among those that are there
pub put_all_permutes : (rows news : List Row) → are_fresh rows news ≡ true → IsPermutation (news ++ rows) (put_all rows news)
put_all_permutes rows [] fresh = IsPermutation-refl rows
put_all_permutes rows (r ∷ rs) fresh =
    let parts = and_parts _ _ fresh in
    let one = put_permutes r rows (not-true _ parts.0) in
    IsPermutation-trans _ _ _ (IsPermutation-sym _ _ (IsPermutation-middle rs r rows))
    (IsPermutation-trans _ _ _ (IsPermutation-append_right rs _ _ one) (put_all_permutes (put_row r rows) rs parts.1))

put_all_shaped : (rows news : List Row) → have_rowids news ≡ true → IsShaped shape.Table rows → IsShaped shape.Table (put_all rows news)
put_all_shaped rows [] keyed shaped = shaped
put_all_shaped rows (r ∷ rs) keyed shaped =
    let parts = and_parts _ _ keyed in
    put_all_shaped (put_row r rows) rs parts.1 (IsShaped-put_row r rows parts.0 shaped)

-- those that match and are changed, and those that do not
pub moved_parts : (match : Row → Bool) (move : Row → Row) (all : List Row) → IsPermutation (map move (filter match all) ++ filter (λ c. not (match c)) all) (map (λ c. cond (match c) (move c) c) all)
moved_parts match move [] = IsPermutation-refl _
moved_parts match move (c ∷ all) = at (match c) (moved_parts match move all)
  where
    at : (b : Bool) → IsPermutation (map move (filter match all) ++ filter (λ x. not (match x)) all) (map (λ x. cond (match x) (move x) x) all)
        → IsPermutation (map move (cond b (c ∷ filter match all) (filter match all)) ++ cond (not b) (c ∷ filter (λ x. not (match x)) all) (filter (λ x. not (match x)) all)) (cond b (move c) c ∷ map (λ x. cond (match x) (move x) x) all)
    at true more = IsPermutation-cons _ _ _ more
    at false more = IsPermutation-trans _ _ _ (IsPermutation-middle (map move (filter match all)) c _) (IsPermutation-cons _ _ _ more)

module _ (tree : ℕ) (places : List ℕ) (match : Row → Bool) (move made show : Row → Row) (kept_id : (r : Row) → column (show r) 0 ≡ column r 0) (shows : (r : Row) → cells places (made (show r)) ≡ move (cells places r))
    (found : List Row) (old new : Trees) (same : IsPermutation (map show (filter (λ r. match (cells places r)) (old tree))) found) where
  abbrev hit : List Row
  hit = filter (λ r. match (cells places r)) (old tree)

  abbrev rest : List Row
  rest = filter (λ r. not (match (cells places r))) (old tree)

  abbrev id_alone : Row → Row
  id_alone s = column s 0 ∷ []

  ids_same : IsPermutation (map id_alone hit) (map id_alone found)
  ids_same = subst (λ xs. IsPermutation xs (map id_alone found)) (map-map id_alone show hit ∙ ap (λ f. map f hit) (λ i r. kept_id r i ∷ [])) (IsPermutation-map id_alone _ _ same)

  left_is : IsShaped shape.Table (old tree) → without_all (old tree) (ids_of found) ≡ rest
  left_is shaped = ap (without_all (old tree)) (sym (map-map _ id_alone found)) ∙ left (λ r. match (cells places r)) (old tree) (map id_alone found) shaped ids_same

  -- the cells of the rows that were written anew
  anew : IsPermutation (map (cells places) (map made found)) (map move (filter match (map (cells places) (old tree))))
  anew =
      let at_hit : map (cells places) (map made (map show hit)) ≡ map move (map (cells places) hit) =
      ap (map (cells places)) (map-map made show hit) ∙ map-map (cells places) (λ r. made (show r)) hit ∙ ap (λ f. map f hit) (λ i r. shows r i) ∙ sym (map-map move (cells places) hit) in
      let kept : map (cells places) hit ≡ filter match (map (cells places) (old tree)) = sym (filter-map match (cells places) (old tree)) in
      subst (IsPermutation _) (at_hit ∙ ap (map move) kept) (IsPermutation-map (cells places) _ _ (IsPermutation-map made _ _ (IsPermutation-sym _ _ same)))

  pub holds_moved : (all : List Row) → Holds tree places all old → have_rowids (map made found) ≡ true → are_fresh (without_all (old tree) (ids_of found)) (map made found) ≡ true
      → new tree ≡ put_all (without_all (old tree) (ids_of found)) (map made found) → Holds tree places (map (λ c. cond (match c) (move c) c) all) new
  holds_moved all holds keyed fresh is =
      ∥∥₁_map holds (λ was.
      let there = left_is was.1 in
      let now : new tree ≡ put_all rest (map made found) = is ∙ ap (λ xs. put_all xs (map made found)) there in
      let put : IsPermutation (map made found ++ rest) (new tree) = subst (IsPermutation (map made found ++ rest)) (sym now) (put_all_permutes rest (map made found) (subst (λ xs. are_fresh xs (map made found) ≡ true) there fresh)) in
      let stay : map (cells places) rest ≡ filter (λ c. not (match c)) (map (cells places) (old tree)) = sym (filter-map (λ c. not (match c)) (cells places) (old tree)) in
      let shown : IsPermutation (map (cells places) (new tree)) (map (cells places) (map made found) ++ filter (λ c. not (match c)) (map (cells places) (old tree))) =
      subst (IsPermutation (map (cells places) (new tree))) (map-append (cells places) (map made found) rest ∙ ap (λ xs. map (cells places) (map made found) ++ xs) stay) (IsPermutation-map (cells places) _ _ (IsPermutation-sym _ _ put)) in
      let parts : IsPermutation (map (cells places) (new tree)) (map (λ c. cond (match c) (move c) c) (map (cells places) (old tree))) =
      IsPermutation-trans _ _ _ shown (IsPermutation-trans _ _ _ (IsPermutation-append _ _ _ _ anew (IsPermutation-refl _)) (moved_parts match move (map (cells places) (old tree)))) in (
        IsPermutation-trans _ _ _ parts (IsPermutation-map (λ c. cond (match c) (move c) c) _ _ was.0),
        subst (IsShaped shape.Table) (sym now) (put_all_shaped rest (map made found) keyed (IsShaped-filter shape.Table (λ r. not (match (cells places r))) (old tree) was.1)),
      ))
