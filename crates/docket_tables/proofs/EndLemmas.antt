-- The removal of the end of a deadline, and its move.
use Rattle.std.proofs.Common.{◌≡◌, ◌∙◌, ◌==◌, ◌&&◌, ◌+◌, ◌<◌, ℕ, pos, List, [], ◌∷◌, map, not, Ok, IsPermutation, Bool, cond, drop, refl, sym, ap, ap₂, subst, arith, negsuc, true, false}
use Rattle.std.specs.List.{AllByRecursion}
use Rattle.std.proofs.Math.Logic.{∥∥₁_map}
use Rattle.std.proofs.lemmas.List.Sorted.{IsPermutation-trans, IsPermutation-map}
use Rattle.sqlite_trees.proofs.ListLemmas.{filter-map, filter_same, all_of}
use Rattle.sqlite_schema.specs.Rules.{equal}
use Rattle.court_days.specs.Court.{CourtSettings}
use Rattle.docket_decisions.specs.EndRows.{AreRowsFrom, is_of, moved_end, changed_ends, all_changed_ends}
use Rattle.docket_decisions.specs.declared.end_row.EndChange.{EndChange}
use Rattle.docket_decisions.proofs.EndChanges.{all_changed_ends-append}
use Rattle.std.proofs.Common.{length, take, get_or}
use Rattle.std.proofs.lemmas.List.{take_more}
use Rattle.docket_decisions.specs.Tables.{Tables}
use Rattle.docket_decisions.specs.declared.end_row.StoredEnd.{StoredEnd}
use Rattle.docket_decisions.specs.declared.end_row.EndChange.TheVariants.{Remove, Move}
use Rattle.docket_columns.specs.Cells.{end_cells, moment_cell}
use Rattle.docket_tables.specs.Contents.{rows_with, ends_of}
use Rattle.docket_orderly.specs.Orderly.{Rises}
use Rattle.docket_tables.specs.Queries.{IsAnswer}
use Rattle.docket_tables.specs.declared.query.Query.TheVariants as ask
use Rattle.docket_tables.specs.declared.table.Table.{Table}
use Rattle.docket_tables.proofs.AnswerLemmas.{in_order, equal_number}
use Rattle.docket_tables.proofs.HoldsLemmas.{and_yes}
use Rattle.sqlite.specs.declared.types.Value.TheVariants.{Int, Null}
use Rattle.sqlite.specs.Collation.TheVariants.{Binary}
use Rattle.sqlite.specs.Order.{Row, column}
use Rattle.sqlite.specs.Term.{lit, col, op2}
use Rattle.sqlite_sql.specs.declared.ops.BinaryOp.TheVariants.{Compare}
use Rattle.sqlite_sql.specs.declared.ops.CompareOp.TheVariants.{Eq}
use Rattle.sqlite.specs.State.{State, Executes, Shows as Turns}
use Rattle.sqlite.specs.Cast.{cast, cast_row}
use Rattle.sqlite.specs.Edit.{without_all, put_all}
use Rattle.sqlite.specs.Kind.TheVariants.{Integer}
use Rattle.sqlite_rules.specs.Calls.{ids_of}
use Rattle.sqlite_rules.specs.Edit.{have_rowids, are_fresh}
use Rattle.sqlite.specs.Listing.{understood}
use Rattle.sqlite_tied.specs.Compute.{everything}
use Rattle.docket_tables.specs.Schema.{docket_schema, shape_of, places_of, tree_of}
use Rattle.docket_tables.specs.Statements.{delete_end_text, move_end_text}
use Rattle.docket_tables.specs.Holds.{cells, has_key, without_key, plain_query, Holds}
use Rattle.docket_tables.specs.Layouts.{Rows, with_rows}
use Rattle.docket_tables.specs.Tables.{layout_of}
use Rattle.docket_tables.specs.Stands.{Sees}
use Rattle.docket_tables.specs.declared.table.Table.TheVariants.{Due}
use Rattle.docket_tables.proofs.CourtLemmas.{found_by}
use Rattle.docket_tables.proofs.CellLemmas.{cast_int}
use Rattle.docket_tables.proofs.DeleteLemmas.{DeletesFrom, deletes}
use Rattle.docket_tables.proofs.MoveLemmas.{numbered_given, holds_moved}
use Rattle.docket_tables.proofs.UpdateLemmas.{UpdatesIn, updates, no_actions_on_ends}
use Rattle.docket_tables.proofs.LayoutLemmas.{rows_changed}
use Rattle.docket_tables.proofs.RowidLemmas.{holds_unmatched}

end_delete : DeletesFrom docket_schema delete_end_text (shape_of Due)
    (record { lets = []; body = plain_query (tree_of Due) (op2 (Compare Eq Binary) (col 1 1) (col 0 0) ∷ op2 (Compare Eq Binary) (col 1 2) (col 0 1) ∷ []) (col 1 0 ∷ []) [] [] (lit (Int (negsuc 0))) })
unfolding understood everything
end_delete = record { at = (layout_of Due).at; is = refl; plain = (refl, refl); place = refl; no_work = λ olds. refl }

pub end_removed : (k n : ℕ) (rows : Rows) (old new : State) (count : ℕ) → Sees old rows → Executes delete_end_text (Int (pos k) ∷ Int (pos n) ∷ []) old new (Ok count)
    → Turns old new new.now old.committed true → Sees new (with_rows Due (without_key (0 ∷ 1 ∷ []) (Int (pos k) ∷ Int (pos n) ∷ []) (rows Due)) rows)
end_removed k n rows old new count sees ran turns =
    let params = Int (pos k) ∷ Int (pos n) ∷ [] in
    let it = deletes docket_schema delete_end_text (shape_of Due) _ end_delete params old new count sees.shows.schema ran in
    let took = it.2 in
    let same = found_by old.now.trees (tree_of Due) (λ ps row. has_key (0 ∷ 1 ∷ []) ps (cells (places_of Due) row)) (λ ps row. column row 0 ∷ [])
    (op2 (Compare Eq Binary) (col 1 1) (col 0 0) ∷ op2 (Compare Eq Binary) (col 1 2) (col 0 1) ∷ []) (col 1 0 ∷ []) (λ ps row. refl) (λ ps row. refl) params took.found (took.answer.answer Null) in
    record {
      begun = turns.mode;
      shows = record {
        is_open = turns.is_open;
        schema = it.0;
        live = it.1;
        holds = rows_changed Due _ rows old.now.trees new.now.trees sees.shows.holds
            (holds_unmatched (tree_of Due) (places_of Due) (rows Due) (has_key (0 ∷ 1 ∷ []) params) took.found old.now.trees new.now.trees (sees.shows.holds Due) same took.rows) took.others;
      };
    }

end_update : UpdatesIn docket_schema move_end_text (shape_of Due)
    (record { lets = []; body = plain_query (tree_of Due) (op2 (Compare Eq Binary) (col 1 1) (col 0 0) ∷ op2 (Compare Eq Binary) (col 1 2) (col 0 1) ∷ []) (col 1 0 ∷ col 1 0 ∷ col 1 1 ∷ col 1 2 ∷ col 0 2 ∷ col 0 3 ∷ []) [] [] (lit (Int (negsuc 0))) })
unfolding understood everything
end_update = record { at = (layout_of Due).at; is = refl; plain = (refl, refl); place = refl; no_work = no_actions_on_ends }

-- the cells of a row whose end moves, as they are written anew
abbrev moved_cells : Row → Row → Row
moved_cells params c = cast Integer (column c 0) ∷ cast Integer (column c 1) ∷ cast Integer (column params 2) ∷ cast Integer (column params 3) ∷ []

abbrev end_shown : Row → Row → Row
end_shown params r = column r 0 ∷ column r 0 ∷ column r 1 ∷ column r 2 ∷ column params 2 ∷ column params 3 ∷ []

move_cells : (to : StoredEnd) (ends : List StoredEnd)
    → map (λ c. cond (has_key (0 ∷ 1 ∷ []) (end_cells to) c) (moved_cells (end_cells to) c) c) (map end_cells ends) ≡ map end_cells (changed_ends (Move to) ends)
move_cells to [] = refl
move_cells to (row ∷ ends) = ap₂ (λ c more. c ∷ more) (at (is_of to.case to.deadline row) refl) (move_cells to ends)
  where
    found : has_key (0 ∷ 1 ∷ []) (end_cells to) (end_cells row) ≡ is_of to.case to.deadline row
    found = ap (λ b. b && (equal Binary (Int (pos row.deadline)) (Int (pos to.deadline)) && true)) (equal_number row.case to.case) ∙ ap (λ b. (row.case == to.case) && b) (and_yes _ ∙ equal_number row.deadline to.deadline)

    cast_as : moved_cells (end_cells to) (end_cells row) ≡ end_cells (record row { end = to.end })
    cast_as = rw (cast_int (pos row.case), cast_int (pos row.deadline), cast_int (pos to.end.day), cast_int (moment_cell to.end.moment)) refl

    by : (b : Bool) → cond b (moved_cells (end_cells to) (end_cells row)) (end_cells row) ≡ end_cells (cond b (record row { end = to.end }) row)
    by true = cast_as
    by false = refl

    at : (b : Bool) → is_of to.case to.deadline row ≡ b
        → cond (has_key (0 ∷ 1 ∷ []) (end_cells to) (end_cells row)) (moved_cells (end_cells to) (end_cells row)) (end_cells row) ≡ end_cells (moved_end to row)
    at b is = ap (λ x. cond x (moved_cells (end_cells to) (end_cells row)) (end_cells row)) (found ∙ is) ∙ by b ∙ ap (λ x. end_cells (cond x (record row { end = to.end }) row)) (sym is)

-- the end of a deadline moves
pub end_moved : (to : StoredEnd) (ends : List StoredEnd) (rows : Rows) (old new : State) (count : ℕ) → rows Due ≡ map end_cells ends → Sees old rows → Executes move_end_text (end_cells to) old new (Ok count)
    → Turns old new new.now old.committed true → Sees new (with_rows Due (map end_cells (changed_ends (Move to) ends)) rows)
end_moved to ends rows old new count are sees ran turns =
    let params = end_cells to in
    let table = shape_of Due in
    let it = updates docket_schema move_end_text table _ end_update params old new count sees.shows.schema ran in
    let moved = it.2 in
    let made : Row → Row = λ s. cast_row table (drop 1 s) in
    let same = found_by old.now.trees (tree_of Due) (λ ps row. has_key (0 ∷ 1 ∷ []) ps (cells (places_of Due) row)) end_shown
    (op2 (Compare Eq Binary) (col 1 1) (col 0 0) ∷ op2 (Compare Eq Binary) (col 1 2) (col 0 1) ∷ []) (col 1 0 ∷ col 1 0 ∷ col 1 1 ∷ col 1 2 ∷ col 0 2 ∷ col 0 3 ∷ []) (λ ps row. refl) (λ ps row. refl) params moved.found (moved.answer.answer Null) in
    let news = numbered_given (without_all (old.now.trees (tree_of Due)) (ids_of moved.found)) (map made moved.found) in
    let holds = holds_moved (tree_of Due) (places_of Due) (has_key (0 ∷ 1 ∷ []) params) (moved_cells params) made (end_shown params) (λ r. refl) (λ r. refl) moved.found old.now.trees new.now.trees same (rows Due) (sees.shows.holds Due)
    (subst (λ ns. have_rowids ns ≡ true) news moved.keyed) (subst (λ ns. are_fresh (without_all (old.now.trees (tree_of Due)) (ids_of moved.found)) ns ≡ true) news moved.fresh)
    (moved.rows ∙ ap (put_all (without_all (old.now.trees (tree_of Due)) (ids_of moved.found))) news) in
    let shown = ap (map (λ c. cond (has_key (0 ∷ 1 ∷ []) params c) (moved_cells params c) c)) are ∙ move_cells to ends in
    record {
      begun = turns.mode;
      shows = record {
        is_open = turns.is_open;
        schema = it.0;
        live = it.1;
        holds = rows_changed Due _ rows old.now.trees new.now.trees sees.shows.holds (subst (λ cs. Holds (tree_of Due) (places_of Due) cs new.now.trees) shown holds) moved.others;
      };
    }

-- the ends but for that of deadline n of case k
pub kept_ends : (k n : ℕ) (ends : List StoredEnd) → map end_cells (changed_ends (Remove k n) ends) ≡ without_key (0 ∷ 1 ∷ []) (Int (pos k) ∷ Int (pos n) ∷ []) (map end_cells ends)
kept_ends k n ends =
    let params = Int (pos k) ∷ Int (pos n) ∷ [] in
    let same = λ (row : StoredEnd). ap (λ b. b && (equal Binary (Int (pos row.deadline)) (Int (pos n)) && true)) (equal_number row.case k) ∙ ap (λ b. (row.case == k) && b) (and_yes _ ∙ equal_number row.deadline n) in
    sym (filter-map (λ r. not (has_key (0 ∷ 1 ∷ []) params r)) end_cells ends ∙ ap (map end_cells) (filter_same _ _ ends (all_of _ (λ row. ap not (same row)) ends)))

-- rows in the order of their deadlines
rises_above : (k n : ℕ) (rows : List StoredEnd) → AreRowsFrom k (n + 1) rows → AllByRecursion (λ m. n < m) (map (λ (row : StoredEnd). row.deadline) rows)
rises_above k n [] are = tt
rises_above k n (row ∷ rows) are = (omega (arith, are.1), above_more rows (rises_above k row.deadline rows are.2))
  where
    above_more : (xs : List StoredEnd) → AllByRecursion (λ m. row.deadline < m) (map (λ (r : StoredEnd). r.deadline) xs) → AllByRecursion (λ m. n < m) (map (λ (r : StoredEnd). r.deadline) xs)
    above_more [] h = tt
    above_more (x ∷ xs) h = (omega (arith, h.0, are.1), above_more xs h.1)

pub rises_from : (k n : ℕ) (rows : List StoredEnd) → AreRowsFrom k n rows → Rises (map (λ (row : StoredEnd). row.deadline) rows)
rises_from k n [] are = tt
rises_from k n (row ∷ rows) are = (rises_above k row.deadline rows are.2, rises_from k (row.deadline + 1) rows are.2)

-- the ends of a case, as a question shows them
pub ends_shown : (k : ℕ) (ends : List StoredEnd) (found : List Row) → AreRowsFrom k 1 (ends_of k ends) → IsAnswer ask.Due (Int (pos k) ∷ []) (map end_cells ends) found → found ≡ map end_cells (ends_of k ends)
ends_shown k ends found are answer =
    in_order ask.Due (Int (pos k) ∷ []) end_cells (λ row. row.case == k) (λ row. and_yes _ ∙ equal_number row.case k) ends found (λ row. row.deadline) (λ row. refl) refl refl (rises_from k 1 _ are) answer

-- the same ends in another order
pub sees_permuted : (s : State) (court : CourtSettings) (t : Tables) (ends others : List StoredEnd) → IsPermutation ends others → Sees s (rows_with court t ends) → Sees s (rows_with court t others)
sees_permuted s court t ends others same sees = record {
  begun = sees.begun;
  shows = record { is_open = sees.shows.is_open; schema = sees.shows.schema; live = sees.shows.live; holds = holds };
}
  where
    holds : (table : Table) → Holds (tree_of table) (places_of table) (rows_with court t others table) s.now.trees
    holds Due = ∥∥₁_map (sees.shows.holds Due) (λ was. (IsPermutation-trans _ _ _ was.0 (IsPermutation-map end_cells ends others same), was.1))
    holds other = sees.shows.holds other

pub changed_next_end : (xs : List EndChange) (ends : List StoredEnd) (i : ℕ) (d : EndChange) → i < length xs → changed_ends (get_or xs i d) (all_changed_ends (take i xs) ends) ≡ all_changed_ends (take (i + 1) xs) ends
changed_next_end xs ends i d inside =
    sym (all_changed_ends-append (take i xs) (get_or xs i d ∷ []) ends) ∙ ap (λ ys. all_changed_ends ys ends) (sym (take_more xs i d inside))
