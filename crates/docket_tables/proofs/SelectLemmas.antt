-- What a query of one table answers.
use Rattle.std.proofs.Common.{◌≡◌, ℕ, ◌+◌, ◌<◌, List, [], ◌∷◌, map, filter, length, ◌++◌, ◌^◌, nat_le, Option, None, unwrap_or, Bool, true, false, Ordering, is_lt, cond, All, IsPermutation, IsSorted, refl, sym, ap, ap₂, subst, ◌∙◌, arith}
use Rattle.std.specs.Ordering.{on}
use Rattle.std.specs.List.{list_all, flat_map}
use Rattle.std.proofs.lemmas.List.{get_or-map, length-map}
use Rattle.std.proofs.lemmas.List.Sorted.{IsPermutation-map, IsPermutation-sym, IsPermutation-trans, All-permutation}
use Rattle.std.proofs.lemmas.List.Elements.{All-from_recursion}
use Rattle.sqlite_trees.proofs.ListLemmas.{map-map, filter-map, filter_same, all_of, IsPermutation-filter, all-map}
use Rattle.sqlite.specs.declared.types.Value.TheVariants.{Null}
use Rattle.sqlite.specs.Order.{Row}
use Rattle.sqlite.specs.Collation.{Collation}
use Rattle.sqlite_value.specs.declared.keys.Key.{Key}
use Rattle.std.proofs.Math.Logic.{∥∥₁_map}
use Rattle.sqlite.specs.Term.{Term, eval, eval_all, holds}
use Rattle.sqlite.specs.Query.{inner, end, Output, output, key_cmp, IsAnswerAs, matches_as, limited, as_count}
use Rattle.sqlite.specs.Program.{overlay}
use Rattle.sqlite.specs.Schema.{Schema}
use Rattle.sqlite.specs.Tree.{Trees}
use Rattle.sqlite.specs.Command.TheVariants.{Select}
use Rattle.sqlite.specs.Listing.{understood, reads_listing}
use Rattle.sqlite.specs.State.{State, Shown}
use Rattle.sqlite.proofs.Callers.{IsPlain, command_of, reads_as}
use Rattle.docket_tables.specs.Holds.{cells, plain_query, Holds}

-- what the text of a query means under the schema: which rows of the table it keeps, by what they show, and in which order
pub record SelectsFrom (schema : Schema) (sql : List ℕ) (tree : ℕ) (places : List ℕ) (keep : Row → Row → Bool) (picks : Row → Row) (keys : List Key) (most : Option ℕ) : Type 0 where
  pub keeps : List Term
  pub shows : List Term
  pub collations : List Collation
  pub order : List (Term × Key)
  pub limit : Term
  pub names : List (List ℕ)
  pub is : command_of (understood schema sql) ≡ Select (record { lets = []; body = plain_query tree keeps shows collations order limit }) names
  pub plain : IsPlain (understood schema sql)
  pub unlisted : reads_listing schema sql ≡ false
  pub kept : (params row : Row) → list_all (holds (params ∷ row ∷ [])) keeps ≡ keep params (cells places row)
  pub shown : (params row : Row) → eval_all shows (params ∷ row ∷ []) ≡ cells places row
  pub sorted : (params row : Row) → eval_all (map (λ k. k.0) order) (params ∷ row ∷ []) ≡ picks (cells places row)
  pub keyed : map (λ k. k.1) order ≡ keys
  pub limited_to : (params : Row) → as_count (eval limit (params ∷ [])) ≡ most

-- the rows that pass, in an order by their keys, and the first of them
pub record Answered (keep : Row → Bool) (picks : Row → Row) (keys : List Key) (most : Option ℕ) (all rows : List Row) : Type 0 where
  pub whole : List Row
  pub same : IsPermutation (filter keep all) whole
  pub sorted : IsSorted (on picks (key_cmp 0 keys)) whole
  pub first : rows ≡ limited most whole

pub not_overlaid : (db : Trees) (t : ℕ) → overlay db [] t ≡ db t
not_overlaid db t = elim (nat_le (2 ^ 31) t) as (λ b. unwrap_or (cond {A = Option (List Row)} b None None) (db t) ≡ db t) [ true ↦ refl | false ↦ refl ]

pub sorted_shown : (cmp : Row → Row → Ordering) (picks : Row → Row) (all : List Output) → All (λ o. o.0 ≡ picks o.1) all → IsSorted (on (λ o. o.0) cmp) all → IsSorted (on picks cmp) (map (λ o. o.1) all)
sorted_shown cmp picks all each sorted k d low high =
    let inside : k + 1 < length all = rw length-map at high in
    let e : Output = (picks d, d) in
    let is = ap₂ (λ a b. is_lt (cmp a b)) (each (k + 1) e inside) (each k e (omega arith)) in
    rw (get_or-map (λ (o : Output). o.1) all (k + 1) e d inside, get_or-map (λ (o : Output). o.1) all k e d (omega arith)) (sym is ∙ sorted k e low inside)

pub matched : (db : Trees) (keeps : List Term) (tree : ℕ) (params : Row) → matches_as Null db keeps (inner tree end) (params ∷ []) ≡ map (λ r. params ∷ r ∷ []) (filter (λ r. list_all (holds (params ∷ r ∷ [])) keeps) (db tree))
matched db keeps tree params = go (db tree)
  where
    go : (rows : List Row) → flat_map (λ r. cond (list_all (holds (params ∷ r ∷ [])) keeps) ((params ∷ r ∷ []) ∷ []) []) rows ≡ map (λ r. params ∷ r ∷ []) (filter (λ r. list_all (holds (params ∷ r ∷ [])) keeps) rows)
    go [] = refl
    go (r ∷ rows) =
        elim (list_all (holds (params ∷ r ∷ [])) keeps) as (λ b. cond b ((params ∷ r ∷ []) ∷ []) [] ++ flat_map (λ x. cond (list_all (holds (params ∷ x ∷ [])) keeps) ((params ∷ x ∷ []) ∷ []) []) rows ≡ map (λ x. params ∷ x ∷ []) (cond b (r ∷ filter (λ x. list_all (holds (params ∷ x ∷ [])) keeps) rows) (filter (λ x. list_all (holds (params ∷ x ∷ [])) keeps) rows)))
        [ true ↦ ap (λ more. (params ∷ r ∷ []) ∷ more) (go rows) | false ↦ go rows ]

-- the rows as they are shown, in the order of the query
pub answers : (db : Trees) (tree : ℕ) (places : List ℕ) (keep : Row → Row → Bool) (picks : Row → Row) (keys : List Key) (keeps shows : List Term) (by : List Collation) (order : List (Term × Key)) (limit : Term) (most : Option ℕ)
    → ((params row : Row) → list_all (holds (params ∷ row ∷ [])) keeps ≡ keep params (cells places row))
    → ((params row : Row) → eval_all shows (params ∷ row ∷ []) ≡ cells places row)
    → ((params row : Row) → eval_all (map (λ k. k.0) order) (params ∷ row ∷ []) ≡ picks (cells places row))
    → map (λ k. k.1) order ≡ keys → ((params : Row) → as_count (eval limit (params ∷ [])) ≡ most)
    → (params : Row) (rows : List Row) → IsAnswerAs Null (plain_query tree keeps shows by order limit) (overlay db []) params rows
    → Answered (keep params) picks keys most (map (cells places) (db tree)) rows
answers db tree places keep picks keys keeps shows by order limit most kept shown sorted keyed limited_to params rows a =
    let q = plain_query tree keeps shows by order limit in
    let found = filter (λ r. list_all (holds (params ∷ r ∷ [])) keeps) (db tree) in
    let out : Row → Output = λ r. output q (params ∷ r ∷ []) in
    let staged : a.staged ≡ map (λ r. params ∷ r ∷ []) found =
    a.grouped ∙ ap (λ rs. flat_map (λ r. cond (list_all (holds (params ∷ r ∷ [])) keeps) ((params ∷ r ∷ []) ∷ []) []) rs) (not_overlaid db tree) ∙ matched db keeps tree params in
    let kept_is : a.kept ≡ map out found = a.distinct ∙ ap (map (output q)) staged ∙ map-map (output q) (λ r. params ∷ r ∷ []) found in
    let same : IsPermutation (map out found) a.ordered = subst (λ k. IsPermutation k a.ordered) kept_is a.same in
    let rows_are : rows ≡ limited most (map (λ o. o.1) a.ordered) = a.shown ∙ ap (λ n. limited n (map (λ (o : Output). o.1) a.ordered)) (limited_to params) in
    let each : (r : Row) → (out r).0 ≡ picks (out r).1 = λ r. sorted params r ∙ ap picks (sym (shown params r)) in
    let all_each : All (λ (o : Output). o.0 ≡ picks o.1) a.ordered =
    All-permutation (λ (o : Output). o.0 ≡ picks o.1) (map out found) a.ordered same (All-from_recursion _ _ (all-map (λ (o : Output). o.0 ≡ picks o.1) out found (all_of _ each found))) in
    let tested : found ≡ filter (λ r. keep params (cells places r)) (db tree) = filter_same _ _ (db tree) (all_of _ (kept params) (db tree)) in
    let shown_is : map (λ o. o.1) (map out found) ≡ filter (keep params) (map (cells places) (db tree)) =
    map-map (λ (o : Output). o.1) out found ∙ ap (λ f. map f found) (λ i r. shown params r i) ∙ ap (map (cells places)) tested ∙ sym (filter-map (keep params) (cells places) (db tree)) in
    record {
      whole = map (λ (o : Output). o.1) a.ordered;
      first = rows_are;
      same = subst (λ xs. IsPermutation xs (map (λ (o : Output). o.1) a.ordered)) shown_is (IsPermutation-map (λ (o : Output). o.1) _ _ same);
      sorted = (sorted_shown (key_cmp 0 keys) picks a.ordered all_each (subst (λ ks. IsSorted (on (λ (o : Output). o.0) (key_cmp 0 ks)) a.ordered) keyed a.sorted));
    }

pub selects : (schema : Schema) (sql : List ℕ) (tree : ℕ) (places : List ℕ) (keep : Row → Row → Bool) (picks : Row → Row) (keys : List Key) (most : Option ℕ) (text : SelectsFrom schema sql tree places keep picks keys most)
    → (params : Row) (old new : State) (rows : List Row) → old.now.schema ≡ schema → Shown sql params old new rows
    → Answered (keep params) picks keys most (map (cells places) (old.now.trees tree)) rows
selects schema sql tree places keep picks keys most text params old new rows has h =
    let read = reads_as sql params old new schema has _ text.is text.plain text.unlisted rows h in
    answers old.now.trees tree places keep picks keys text.keeps text.shows text.collations text.order text.limit most text.kept text.shown text.sorted text.keyed text.limited_to params rows (read.answer Null)

-- where the table holds these rows, those of them that pass, in an order by their keys
pub answered_as : (tree : ℕ) (places : List ℕ) (keep : Row → Bool) (picks : Row → Row) (keys : List Key) (most : Option ℕ) (all : List Row) (db : Trees) (rows : List Row)
    → Holds tree places all db → Answered keep picks keys most (map (cells places) (db tree)) rows → ∥ Answered keep picks keys most all rows ∥₁
answered_as tree places keep picks keys most all db rows holds a =
    ∥∥₁_map holds (λ same. record { whole = a.whole; same = IsPermutation-trans _ _ _ (IsPermutation-filter keep all _ (IsPermutation-sym _ _ same.0)) a.same; sorted = a.sorted; first = a.first })
