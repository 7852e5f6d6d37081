-- What answers the question, over the rows of the two trees.
use Rattle.std.proofs.Common.{◌≡◌, ℕ, ◌^◌, nat_le, Option, None, unwrap_or, Bool, true, false, cond, List, [], ◌∷◌, map, All, IsPermutation, IsSorted, refl, sym, ap, ap₂, subst, subst₂, ◌∙◌}
use Rattle.std.specs.Ordering.{on}
use Rattle.std.specs.List.{list_all, flat_map}
use Rattle.std.proofs.lemmas.List.Sorted.{IsPermutation-map, All-permutation}
use Rattle.std.proofs.lemmas.List.Elements.{All-from_recursion}
use Rattle.sqlite_trees.proofs.ListLemmas.{map-map, map-flat_map, flat_map-map, flat_map_same_on, all_of, all-map}
use Rattle.sqlite.specs.declared.types.Value.TheVariants.{Null}
use Rattle.sqlite.specs.Order.{Row}
use Rattle.sqlite.specs.Tree.{Trees}
use Rattle.sqlite.specs.Term.{eval_all, holds}
use Rattle.sqlite.specs.Query.{inner, end, Output, output, key_cmp, IsAnswerAs, matches_as}
use Rattle.sqlite.specs.Program.{overlay}
use Rattle.sqlite_value.specs.declared.keys.Key.{Key}
use Rattle.docket_tables.specs.Holds.{cells}
use Rattle.docket_tables.proofs.SelectLemmas.{sorted_shown}
use Rattle.docket_calendar.proofs.JoinMeans.{due_places, deadline_places}
use Rattle.docket_calendar.specs.Joined.{joined, shown_cells, order_cells}
use Rattle.docket_calendar.proofs.JoinMeans.{asked, tests, by_number}

not_overlaid : (db : Trees) (t : ℕ) → overlay db [] t ≡ db t
not_overlaid db t = elim (nat_le (2 ^ 31) t) as (λ b. unwrap_or (cond {A = Option (List Row)} b None None) (db t) ≡ db t) [ true ↦ refl | false ↦ refl ]

-- the rows pass the tests, which see no rowid
abbrev pub passes : Row → Row → Row → Bool
passes params due deadline = list_all (holds (params ∷ (Null ∷ due) ∷ (Null ∷ deadline) ∷ [])) tests

abbrev pub keys : List Key
keys = by_number ∷ by_number ∷ by_number ∷ by_number ∷ []

abbrev env_of : Row → Row → Row → List Row
env_of params d l = params ∷ d ∷ l ∷ []

abbrev one : Row → Row → Row → List (List Row)
one params d l = cond (list_all (holds (env_of params d l)) tests) (env_of params d l ∷ []) []

matched : (db : Trees) (params : Row) → matches_as Null (overlay db []) tests (inner 15 (inner 9 end)) (params ∷ []) ≡ flat_map (λ d. flat_map (one params d) (db 9)) (db 15)
matched db params = ap₂ (λ (ds ls : List Row). flat_map (λ d. flat_map (one params d) ls) ds) (not_overlaid db 15) (not_overlaid db 9)

shown_one : (params d l : Row) → map (λ env. eval_all asked.project env) (one params d l) ≡ cond (passes params (cells due_places d) (cells deadline_places l)) (shown_cells (cells due_places d) (cells deadline_places l) ∷ []) []
shown_one params d l = by (list_all (holds (env_of params d l)) tests)
  where
    by : (b : Bool) → map (λ env. eval_all asked.project env) (cond b (env_of params d l ∷ []) []) ≡ cond b (shown_cells (cells due_places d) (cells deadline_places l) ∷ []) []
    by true = refl
    by false = refl

shown_are : (db : Trees) (params : Row)
    → map (λ env. eval_all asked.project env) (flat_map (λ d. flat_map (one params d) (db 9)) (db 15)) ≡ joined (passes params) shown_cells (map (cells due_places) (db 15)) (map (cells deadline_places) (db 9))
shown_are db params =
    let show : List Row → Row = λ env. eval_all asked.project env in
    let right : Row → List Row → List Row = λ D Ls. flat_map (λ L. cond (passes params D L) (shown_cells D L ∷ []) []) Ls in
    map-flat_map show (λ d. flat_map (one params d) (db 9)) (db 15)
    ∙ flat_map_same_on _ _ (λ d. map-flat_map show (one params d) (db 9) ∙ flat_map_same_on _ _ (shown_one params d) (db 9) ∙ sym (flat_map-map (λ L. cond (passes params (cells due_places d) L) (shown_cells (cells due_places d) L ∷ []) []) (cells deadline_places) (db 9))) (db 15)
    ∙ sym (flat_map-map (λ D. right D (map (cells deadline_places) (db 9))) (cells due_places) (db 15))

-- the rows are those of the join, in order
pub record IsJoin (params : Row) (db : Trees) (rows : List Row) : Type 0 where
  pub same : IsPermutation (joined (passes params) shown_cells (map (cells due_places) (db 15)) (map (cells deadline_places) (db 9))) rows
  pub sorted : IsSorted (on order_cells (key_cmp 0 keys)) rows

pub answered : (db : Trees) (params : Row) (rows : List Row) → IsAnswerAs Null asked (overlay db []) params rows → IsJoin params db rows
answered db params rows a =
    let show : Output → Row = λ o. o.1 in
    let found = flat_map (λ d. flat_map (one params d) (db 9)) (db 15) in
    let staged : a.staged ≡ found = a.grouped ∙ matched db params in
    let kept_is : a.kept ≡ map (output asked) found = a.distinct ∙ ap (map (output asked)) staged in
    let same : IsPermutation (map (output asked) found) a.ordered = subst (λ k. IsPermutation k a.ordered) kept_is a.same in
    let rows_are : rows ≡ map show a.ordered = a.shown in
    let each : All (λ (o : Output). o.0 ≡ order_cells o.1) a.ordered =
    All-permutation (λ (o : Output). o.0 ≡ order_cells o.1) (map (output asked) found) a.ordered same (All-from_recursion _ _ (all-map (λ (o : Output). o.0 ≡ order_cells o.1) (output asked) found (all_of _ (λ env. refl) found))) in
    let shown : map show (map (output asked) found) ≡ joined (passes params) shown_cells (map (cells due_places) (db 15)) (map (cells deadline_places) (db 9)) = map-map show (output asked) found ∙ shown_are db params in
    record {
      same = subst₂ (λ xs ys. IsPermutation xs ys) shown (sym rows_are) (IsPermutation-map show _ _ same);
      sorted = subst (λ ys. IsSorted (on order_cells (key_cmp 0 keys)) ys) (sym rows_are) (sorted_shown (key_cmp 0 keys) order_cells a.ordered each a.sorted);
    }
