-- The version in the row of the court.
use Rattle.std.proofs.Common.{◌≡◌, ◌∙◌, ℕ, pos, negsuc, List, [], ◌∷◌, map, filter, length, true, cond, not, drop, Ok, IsPermutation, codes, refl, sym, ap, subst, arith}
use Rattle.std.proofs.Math.Logic.{∥∥₁_map}
use Rattle.std.proofs.lemmas.List.Sorted.{IsPermutation-sym, IsPermutation-refl}
use Rattle.sqlite_trees.proofs.ListLemmas.{filter_all}
use Rattle.sqlite.proofs.Callers.{one_permutation}
use Rattle.sqlite.specs.declared.types.Value.{Value}
use Rattle.sqlite.specs.declared.types.Value.TheVariants.{Int, Null, Text}
use Rattle.sqlite.specs.Collation.TheVariants.{Binary}
use Rattle.sqlite.specs.Order.{Row, column}
use Rattle.sqlite.specs.Tree.{Trees}
use Rattle.sqlite.specs.Term.{Term, lit, col, op2}
use Rattle.sqlite_schema.specs.declared.program.Program.{Program}
use Rattle.sqlite.specs.Edit.{edit_of, edited, with_rowid, without_all, put_all, numbered}
use Rattle.sqlite_trees.specs.Tree.{without_rowid}
use Rattle.sqlite_trees.specs.View.{IsShaped}
use Rattle.sqlite_trees.specs.declared.store.Shape.TheVariants as shape
use Rattle.sqlite.specs.Rowids.TheVariants.{Given}
use Rattle.sqlite.specs.Cast.{cast, cast_row}
use Rattle.sqlite.specs.Kind.TheVariants.{Integer}
use Rattle.sqlite_rules.specs.Calls.{ids_of}
use Rattle.sqlite_sql.specs.declared.ops.BinaryOp.TheVariants.{Compare}
use Rattle.sqlite_sql.specs.declared.ops.CompareOp.TheVariants.{Eq}
use Rattle.sqlite.specs.Listing.{understood}
use Rattle.sqlite.specs.State.{State, Executes, Shows as Turns}
use Rattle.sqlite_tied.specs.Compute.{everything}
use Rattle.court_days.specs.Court.{CourtSettings}
use Rattle.docket_columns.specs.Cells.{court_cells, court_cells_of}
use Rattle.docket_columns.specs.declared.version.Version.TheVariants.{First}
use Rattle.docket_tables.specs.Schema.{docket_schema, places_of, shape_of}
use Rattle.docket_tables.specs.Layouts.{Rows, with_rows}
use Rattle.docket_tables.specs.declared.table.Table.TheVariants.{Court}
use Rattle.docket_tables.specs.Stands.{Sees}
use Rattle.docket_tables.specs.Holds.{Holds, cells, plain_query}
use Rattle.docket_tables.proofs.CellLemmas.{cast_int}
use Rattle.docket_tables.proofs.CourtLemmas.{found_by}
use Rattle.docket_tables.proofs.HoldsLemmas.{keyed_by, keyed_as, rowid_as}
use Rattle.docket_tables.proofs.LayoutLemmas.{rows_changed}
use Rattle.docket_tables.proofs.UpdateLemmas.{UpdatesIn, no_actions, updates}
use Rattle.docket_migration.specs.Moving.{version_text}

-- what the text means
abbrev keeps : List Term
keeps = op2 (Compare Eq Binary) (col 1 0) (lit (Int (pos 1))) ∷ []

abbrev shows : List Term
shows = col 1 0 ∷ col 1 0 ∷ lit Null ∷ col 1 2 ∷ lit (Int (pos 2)) ∷ col 1 4 ∷ col 1 5 ∷ col 1 6 ∷ []

abbrev version_program : Program
version_program = record { lets = []; body = plain_query 0 keeps shows [] [] (lit (Int (negsuc 0))) }

version_update : UpdatesIn docket_schema version_text (shape_of Court) version_program
unfolding understood everything
version_update = record { at = 0; is = refl; plain = (refl, refl); place = refl; no_work = no_actions }

abbrev row_shown : Row → Row → Row
row_shown params r = column r 0 ∷ column r 0 ∷ Null ∷ column r 2 ∷ Int (pos 2) ∷ column r 4 ∷ column r 5 ∷ column r 6 ∷ []

abbrev places : List ℕ
places = places_of Court

as_cells : (rows : List Row) (court : CourtSettings) (n : ℕ) (id none version close next : Value) → id ≡ Int (pos 1) → version ≡ Int (pos 2) → close ≡ Int (pos court.close_minute) → next ≡ Int (pos n)
    → cells places (with_rowid Given rows (id ∷ none ∷ Text (codes "civil docket") ∷ version ∷ Text court.zone_text ∷ close ∷ next ∷ [])) ≡ court_cells court n
as_cells rows court n id none version close next a b d e = rw (a, b, d, e)

module _ (settings : CourtSettings) (n : ℕ) where
  abbrev new_row : Row
  new_row = Int (pos 1) ∷ Int (pos 1) ∷ Null ∷ Text (codes "civil docket") ∷ Int (pos 2) ∷ Text settings.zone_text ∷ Int (pos settings.close_minute) ∷ Int (pos n) ∷ []

  shown_row : (r : Row) → cells places r ≡ court_cells_of First settings n → row_shown [] r ≡ new_row
  shown_row r is =
      let e0 : column r 0 ≡ Int (pos 1) = ap (λ x. column x 0) is in
      let e2 : column r 2 ≡ Text (codes "civil docket") = ap (λ x. column x 1) is in
      let e4 : column r 4 ≡ Text settings.zone_text = ap (λ x. column x 3) is in
      let e5 : column r 5 ≡ Int (pos settings.close_minute) = ap (λ x. column x 4) is in
      let e6 : column r 6 ≡ Int (pos n) = ap (λ x. column x 5) is in
      rw (e0, e2, e4, e5, e6)

  module _ (found : List Row) (old new : Trees) (same : IsPermutation (map (row_shown []) (filter (keyed_by (pos 1)) (old 0))) found)
      (is : new 0 ≡ edited old (edit_of old (shape_of Court) (ids_of found) Given 1 found)) where
    abbrev rewritten : List Row → List Row → List Row
    rewritten rows fs = put_all (without_all rows (ids_of fs)) (numbered Given (without_all rows (ids_of fs)) (map (λ s. cast_row (shape_of Court) (drop 1 s)) fs))

    rewritten_as : (r : Row) → old 0 ≡ r ∷ [] → cells places r ≡ court_cells_of First settings n → new 0 ≡ with_rowid Given [] (cast_row (shape_of Court) (drop 1 new_row)) ∷ []
    rewritten_as r at shows =
        let e0 : column r 0 ≡ Int (pos 1) = ap (λ x. column x 0) shows in
        let kept : filter (keyed_by (pos 1)) (r ∷ []) ≡ r ∷ [] = filter_all (keyed_by (pos 1)) (r ∷ []) (keyed_as (pos 1) (pos 1) r e0, tt) in
        let first : IsPermutation (row_shown [] r ∷ []) found = subst (λ rs. IsPermutation (map (row_shown []) rs) found) (ap (filter (keyed_by (pos 1))) at ∙ kept) same in
        let found_is : found ≡ new_row ∷ [] = one_permutation _ found first ∙ ap (λ x. x ∷ []) (shown_row r shows) in
        let gone : without_rowid (pos 1) (r ∷ []) ≡ [] = ap (λ b. cond (not b) (r ∷ []) []) (rowid_as (pos 1) (pos 1) r e0) in
        let made : rewritten (r ∷ []) (new_row ∷ []) ≡ with_rowid Given [] (cast_row (shape_of Court) (drop 1 new_row)) ∷ [] =
        ap (λ left. put_all left (numbered Given left (map (λ s. cast_row (shape_of Court) (drop 1 s)) (new_row ∷ [])))) gone in
        is ∙ ap (λ rs. rewritten rs found) at ∙ ap (rewritten (r ∷ [])) found_is ∙ made

    one_row : (r : Row) → old 0 ≡ r ∷ [] → cells places r ≡ court_cells_of First settings n → map (cells places) (new 0) ≡ court_cells settings n ∷ []
    one_row r at shows =
        ap (map (cells places)) (rewritten_as r at shows) ∙ ap (λ x. x ∷ []) (as_cells [] settings n _ (cast Integer Null) _ _ _ (cast_int (pos 1)) (cast_int (pos 2)) (cast_int (pos settings.close_minute)) (cast_int (pos n)))

    one_shaped : (r : Row) → old 0 ≡ r ∷ [] → cells places r ≡ court_cells_of First settings n → IsShaped shape.Table (new 0)
    one_shaped r at shows = subst (IsShaped shape.Table) (sym (rewritten_as r at shows)) ((tt, tt), (rw (cast_int (pos 1)) refl, tt))

    by_rows : (rows : List Row) → old 0 ≡ rows → map (cells places) rows ≡ court_cells_of First settings n ∷ [] → map (cells places) (new 0) ≡ court_cells settings n ∷ []
    by_rows [] at e = absurd (let no = ap length e in cc)
    by_rows (r ∷ []) at e = one_row r at (let it = e in cc)
    by_rows (r ∷ s ∷ rows) at e = absurd (let no = ap length e in omega (arith, no))

    shaped : (rows : List Row) → old 0 ≡ rows → map (cells places) rows ≡ court_cells_of First settings n ∷ [] → IsShaped shape.Table (new 0)
    shaped [] at e = absurd (let no = ap length e in cc)
    shaped (r ∷ []) at e = one_shaped r at (let it = e in cc)
    shaped (r ∷ s ∷ rows) at e = absurd (let no = ap length e in omega (arith, no))

    court_holds : Holds 0 places (court_cells_of First settings n ∷ []) old → Holds 0 places (court_cells settings n ∷ []) new
    court_holds holds = ∥∥₁_map holds (λ was.
        let one = one_permutation _ _ (IsPermutation-sym _ _ was.0) in
        (subst (λ xs. IsPermutation xs (court_cells settings n ∷ [])) (sym (by_rows (old 0) refl one)) (IsPermutation-refl _), shaped (old 0) refl one))

-- the row of the court is of the second version then, and nothing else changes
pub version_set : (settings : CourtSettings) (n : ℕ) (rows : Rows) (old new : State) (count : ℕ) → rows Court ≡ court_cells_of First settings n ∷ [] → Sees old rows
    → Executes version_text [] old new (Ok count) → Turns old new new.now old.committed true → Sees new (with_rows Court (court_cells settings n ∷ []) rows)
version_set settings n rows old new count one sees ran turns =
    let it = updates docket_schema version_text (shape_of Court) version_program version_update [] old new count sees.shows.schema ran in
    let change = it.2 in
    let same = found_by old.now.trees 0 (λ params. keyed_by (pos 1)) row_shown keeps shows (λ params row. refl) (λ params row. refl) [] change.found (change.answer.answer Null) in
    let was = subst (λ l. Holds 0 places l old.now.trees) one (sees.shows.holds Court) in
    record {
      begun = turns.mode;
      shows = record {
        is_open = turns.is_open;
        schema = it.0;
        live = it.1;
        holds = rows_changed Court (court_cells settings n ∷ []) rows old.now.trees new.now.trees sees.shows.holds
            (court_holds settings n change.found old.now.trees new.now.trees same change.rows was) change.others;
      };
    }
