-- The row of the court, and the number of the next calendar row.
use Rattle.std.proofs.Common.{◌≡◌, ◌∙◌, ℕ, pos, negsuc, List, [], ◌∷◌, map, filter, length, Bool, true, cond, not, drop, None, Ok, IsPermutation, codes, refl, sym, ap, subst, arith, nat_lt, ◌+◌, ◌<◌, ◌^◌, Some}
use Rattle.std.specs.List.{list_all, flat_map}
use Rattle.std.proofs.Math.Logic.{∥∥₁_map}
use Rattle.std.proofs.lemmas.List.Sorted.{IsPermutation-map, IsPermutation-sym, IsPermutation-refl}
use Rattle.std.proofs.lemmas.Bool.Decides.{nat_tests}
use Rattle.sqlite_trees.proofs.ListLemmas.{map-map, filter_all, filter_same, all_of}
use Rattle.sqlite.proofs.Callers.{one_permutation}
use Rattle.sqlite.specs.declared.types.Value.{Value}
use Rattle.sqlite.specs.declared.types.Value.TheVariants.{Int, Null, Text}
use Rattle.sqlite.specs.Collation.TheVariants.{Binary}
use Rattle.sqlite.specs.Order.{Row, column}
use Rattle.sqlite.specs.Tree.{Trees}
use Rattle.sqlite.specs.Term.{Term, lit, col, op2, eval_all, holds}
use Rattle.sqlite.specs.Query.{Output, output, IsAnswerAs}
use Rattle.sqlite.specs.Program.{overlay}
use Rattle.sqlite.specs.Edit.{edit_of, edited, with_rowid, without_all, put_all, numbered}
use Rattle.sqlite_trees.specs.Tree.{without_rowid}
use Rattle.sqlite_trees.specs.View.{IsShaped}
use Rattle.sqlite_trees.specs.declared.store.Shape.TheVariants as shape
use Rattle.docket_tables.proofs.HoldsLemmas.{keyed_by, keyed_as, rowid_as}
use Rattle.sqlite.specs.Rowids.TheVariants.{Given}
use Rattle.sqlite.specs.Cast.{cast, cast_row}
use Rattle.sqlite.specs.Kind.TheVariants.{Integer}
use Rattle.sqlite_rules.specs.Calls.{ids_of}
use Rattle.sqlite_sql.specs.declared.ops.BinaryOp.TheVariants.{Compare, Arith}
use Rattle.sqlite_sql.specs.declared.ops.ArithOp.TheVariants.{Add}
use Rattle.sqlite_sql.specs.Ops.{binary, int_or, real_arith, from_int}
use Rattle.sqlite_sql.specs.declared.ops.CompareOp.TheVariants.{Eq}
use Rattle.sqlite.specs.State.{State, Executes, Shows as Turns}
use Rattle.docket_tables.specs.Schema.{docket_schema, shape_of, places_of}
use Rattle.docket_tables.specs.Statements.{count_text}
use Rattle.court_days.specs.Court.{CourtSettings}
use Rattle.docket_columns.specs.Cells.{court_cells, version_number}
use Rattle.docket_columns.specs.declared.version.Version.TheVariants.{Second}
use Rattle.docket_tables.specs.Layouts.{Rows, with_rows}
use Rattle.docket_tables.specs.declared.table.Table.TheVariants.{Court}
use Rattle.docket_tables.proofs.LayoutLemmas.{rows_changed}
use Rattle.docket_tables.specs.Stands.{Sees}
use Rattle.docket_tables.specs.Holds.{Holds, cells, plain_query}
use Rattle.docket_tables.proofs.CellLemmas.{cast_int}
use Rattle.docket_tables.proofs.SelectLemmas.{not_overlaid, matched}
use Rattle.docket_tables.proofs.UpdateLemmas.{updates, court_update}

-- a query with no order answers what it shows of the rows that pass, in some order
pub found_by : (db : Trees) (tree : ℕ) (keep : Row → Row → Bool) (show : Row → Row → Row) (keeps shows : List Term)
    → ((params row : Row) → list_all (holds (params ∷ row ∷ [])) keeps ≡ keep params row) → ((params row : Row) → eval_all shows (params ∷ row ∷ []) ≡ show params row)
    → (params : Row) (rows : List Row) → IsAnswerAs Null (plain_query tree keeps shows [] [] (lit (Int (negsuc 0)))) (overlay db []) params rows
    → IsPermutation (map (show params) (filter (keep params) (db tree))) rows
found_by db tree keep show keeps shows kept shown params rows a =
    let q = plain_query tree keeps shows [] [] (lit (Int (negsuc 0))) in
    let found = filter (λ r. list_all (holds (params ∷ r ∷ [])) keeps) (db tree) in
    let out : Row → Output = λ r. output q (params ∷ r ∷ []) in
    let staged : a.staged ≡ map (λ r. params ∷ r ∷ []) found =
    a.grouped ∙ ap (λ rs. flat_map (λ r. cond (list_all (holds (params ∷ r ∷ [])) keeps) ((params ∷ r ∷ []) ∷ []) []) rs) (not_overlaid db tree) ∙ matched db keeps tree params in
    let kept_is : a.kept ≡ map out found = a.distinct ∙ ap (map (output q)) staged ∙ map-map (output q) (λ r. params ∷ r ∷ []) found in
    let same : IsPermutation (map out found) a.ordered = subst (λ k. IsPermutation k a.ordered) kept_is a.same in
    let tested : found ≡ filter (keep params) (db tree) = filter_same _ _ (db tree) (all_of _ (kept params) (db tree)) in
    let shown_is : map (λ o. o.1) (map out found) ≡ map (show params) (filter (keep params) (db tree)) =
    map-map (λ (o : Output). o.1) out found ∙ ap (λ f. map f found) (λ i r. shown params r i) ∙ ap (map (show params)) tested in
    let are : rows ≡ map (λ (o : Output). o.1) a.ordered = a.shown in
    subst (IsPermutation _) (sym are) (subst (λ xs. IsPermutation xs (map (λ (o : Output). o.1) a.ordered)) shown_is (IsPermutation-map (λ (o : Output). o.1) _ _ same))

abbrev court_shown : Row → Row → Row
court_shown params r = column r 0 ∷ column r 0 ∷ Null ∷ column r 2 ∷ column r 3 ∷ column r 4 ∷ column r 5 ∷ binary (Arith Add) (column r 6) (Int (pos 1)) ∷ []

-- a sum that 64 bits hold
pub one_more : (n : ℕ) → n + 1 < 2 ^ 63 → binary (Arith Add) (Int (pos n)) (Int (pos 1)) ≡ Int (pos (n + 1))
unfolding binary
one_more n small =
    let fits : nat_lt (n + 1) (2 ^ 63) ≡ true = grind (arith, nat_tests, small) in
    ap (λ b. int_or (cond b (Some (pos (n + 1))) None) (real_arith Add (from_int (pos n)) (from_int (pos 1)))) fits

abbrev kept_version : Value
kept_version = Int (pos (version_number Second))

abbrev court_places : List ℕ
court_places = places_of Court

court_as : (rows : List Row) (court : CourtSettings) (n : ℕ) (id none version close next : Value) → id ≡ Int (pos 1) → version ≡ kept_version → close ≡ Int (pos court.close_minute) → next ≡ Int (pos n)
    → cells court_places (with_rowid Given rows (id ∷ none ∷ Text (codes "civil docket") ∷ version ∷ Text court.zone_text ∷ close ∷ next ∷ [])) ≡ court_cells court n
court_as rows court n id none version close next a b d e = rw (a, b, d, e)

module _ (settings : CourtSettings) (n : ℕ) (small : n + 1 < 2 ^ 63) where
  abbrev new_row : Row
  new_row = Int (pos 1) ∷ Int (pos 1) ∷ Null ∷ Text (codes "civil docket") ∷ kept_version ∷ Text settings.zone_text ∷ Int (pos settings.close_minute) ∷ Int (pos (n + 1)) ∷ []

  shown_row : (r : Row) → cells court_places r ≡ court_cells settings n → court_shown [] r ≡ new_row
  shown_row r is =
      let e0 : column r 0 ≡ Int (pos 1) = ap (λ x. column x 0) is in
      let e2 : column r 2 ≡ Text (codes "civil docket") = ap (λ x. column x 1) is in
      let e3 : column r 3 ≡ kept_version = ap (λ x. column x 2) is in
      let e4 : column r 4 ≡ Text settings.zone_text = ap (λ x. column x 3) is in
      let e5 : column r 5 ≡ Int (pos settings.close_minute) = ap (λ x. column x 4) is in
      let e6 : binary (Arith Add) (column r 6) (Int (pos 1)) ≡ Int (pos (n + 1)) = ap (λ x. binary (Arith Add) (column x 5) (Int (pos 1))) is ∙ one_more n small in
      rw (e0, e2, e3, e4, e5, e6)

  module _ (found : List Row) (old new : Trees) (same : IsPermutation (map (court_shown []) (filter (keyed_by (pos 1)) (old 0))) found)
      (is : new 0 ≡ edited old (edit_of old (shape_of Court) (ids_of found) Given 1 found)) where
    abbrev rewritten : List Row → List Row → List Row
    rewritten rows fs = put_all (without_all rows (ids_of fs)) (numbered Given (without_all rows (ids_of fs)) (map (λ s. cast_row (shape_of Court) (drop 1 s)) fs))

    rewritten_as : (r : Row) → old 0 ≡ r ∷ [] → cells court_places r ≡ court_cells settings n → new 0 ≡ with_rowid Given [] (cast_row (shape_of Court) (drop 1 new_row)) ∷ []
    rewritten_as r at shows =
        let e0 : column r 0 ≡ Int (pos 1) = ap (λ x. column x 0) shows in
        let kept : filter (keyed_by (pos 1)) (r ∷ []) ≡ r ∷ [] = filter_all (keyed_by (pos 1)) (r ∷ []) (keyed_as (pos 1) (pos 1) r e0, tt) in
        let first : IsPermutation (court_shown [] r ∷ []) found = subst (λ rs. IsPermutation (map (court_shown []) rs) found) (ap (filter (keyed_by (pos 1))) at ∙ kept) same in
        let found_is : found ≡ new_row ∷ [] = one_permutation _ found first ∙ ap (λ x. x ∷ []) (shown_row r shows) in
        let gone : without_rowid (pos 1) (r ∷ []) ≡ [] = ap (λ b. cond (not b) (r ∷ []) []) (rowid_as (pos 1) (pos 1) r e0) in
        let made : rewritten (r ∷ []) (new_row ∷ []) ≡ with_rowid Given [] (cast_row (shape_of Court) (drop 1 new_row)) ∷ [] =
        ap (λ left. put_all left (numbered Given left (map (λ s. cast_row (shape_of Court) (drop 1 s)) (new_row ∷ [])))) gone in
        is ∙ ap (λ rs. rewritten rs found) at ∙ ap (rewritten (r ∷ [])) found_is ∙ made

    one_row : (r : Row) → old 0 ≡ r ∷ [] → cells court_places r ≡ court_cells settings n → map (cells court_places) (new 0) ≡ court_cells settings (n + 1) ∷ []
    one_row r at shows =
        ap (map (cells court_places)) (rewritten_as r at shows) ∙ ap (λ x. x ∷ []) (court_as [] settings (n + 1) _ (cast Integer Null) _ _ _ (cast_int (pos 1)) (cast_int (pos (version_number Second))) (cast_int (pos settings.close_minute)) (cast_int (pos (n + 1))))

    one_shaped : (r : Row) → old 0 ≡ r ∷ [] → cells court_places r ≡ court_cells settings n → IsShaped shape.Table (new 0)
    one_shaped r at shows = subst (IsShaped shape.Table) (sym (rewritten_as r at shows)) ((tt, tt), (rw (cast_int (pos 1)) refl, tt))

    by_rows : (rows : List Row) → old 0 ≡ rows → map (cells court_places) rows ≡ court_cells settings n ∷ [] → map (cells court_places) (new 0) ≡ court_cells settings (n + 1) ∷ []
    by_rows [] at e = absurd (let no = ap length e in cc)
    by_rows (r ∷ []) at e = one_row r at (let it = e in cc)
    by_rows (r ∷ s ∷ rows) at e = absurd (let no = ap length e in omega (arith, no))

    shaped : (rows : List Row) → old 0 ≡ rows → map (cells court_places) rows ≡ court_cells settings n ∷ [] → IsShaped shape.Table (new 0)
    shaped [] at e = absurd (let no = ap length e in cc)
    shaped (r ∷ []) at e = one_shaped r at (let it = e in cc)
    shaped (r ∷ s ∷ rows) at e = absurd (let no = ap length e in omega (arith, no))

    pub court_holds : Holds 0 court_places (court_cells settings n ∷ []) old → Holds 0 court_places (court_cells settings (n + 1) ∷ []) new
    court_holds holds = ∥∥₁_map holds (λ was.
        let one = one_permutation _ _ (IsPermutation-sym _ _ was.0) in
        (subst (λ xs. IsPermutation xs (court_cells settings (n + 1) ∷ [])) (sym (by_rows (old 0) refl one)) (IsPermutation-refl _), shaped (old 0) refl one))

-- the number of the next calendar row grows by one
pub counted : (settings : CourtSettings) (n : ℕ) (rows : Rows) (old new : State) (count : ℕ) → n + 1 < 2 ^ 63 → rows Court ≡ court_cells settings n ∷ [] → Sees old rows
    → Executes count_text [] old new (Ok count) → Turns old new new.now old.committed true → Sees new (with_rows Court (court_cells settings (n + 1) ∷ []) rows)
counted settings n rows old new count small one sees ran turns =
    let it = updates docket_schema count_text (shape_of Court) _ court_update [] old new count sees.shows.schema ran in
    let moved = it.2 in
    let same = found_by old.now.trees 0 (λ params. keyed_by (pos 1)) court_shown (op2 (Compare Eq Binary) (col 1 0) (lit (Int (pos 1))) ∷ [])
    (col 1 0 ∷ col 1 0 ∷ lit Null ∷ col 1 2 ∷ col 1 3 ∷ col 1 4 ∷ col 1 5 ∷ op2 (Arith Add) (col 1 6) (lit (Int (pos 1))) ∷ []) (λ params row. refl) (λ params row. refl) [] moved.found (moved.answer.answer Null) in
    let was = subst (λ l. Holds 0 court_places l old.now.trees) one (sees.shows.holds Court) in
    record {
      begun = turns.mode;
      shows = record {
        is_open = turns.is_open;
        schema = it.0;
        live = it.1;
        holds = rows_changed Court (court_cells settings (n + 1) ∷ []) rows old.now.trees new.now.trees sees.shows.holds
            (court_holds settings n small moved.found old.now.trees new.now.trees same moved.rows was) moved.others;
      };
    }
