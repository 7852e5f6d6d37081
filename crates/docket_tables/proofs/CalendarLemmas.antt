-- A row of the calendar that is withdrawn.
use Rattle.std.proofs.Common.{◌≡◌, ℕ, ℤ, List, [], ◌∷◌, map, filter, not, None, Ok, refl, sym, subst, negsuc, true, IsPermutation}
use Rattle.std.specs.List.{AllByRecursion}
use Rattle.sqlite.specs.declared.types.Value.TheVariants.{Int, Null}
use Rattle.sqlite.specs.Collation.TheVariants.{Binary}
use Rattle.sqlite.specs.Term.{lit, col, op2}
use Rattle.sqlite_sql.specs.declared.ops.BinaryOp.TheVariants.{Compare}
use Rattle.sqlite_sql.specs.declared.ops.CompareOp.TheVariants.{Eq}
use Rattle.sqlite.specs.State.{State, Executes, Shows as Turns}
use Rattle.docket_tables.specs.Schema.{docket_schema, places_of, shape_of, tree_of}
use Rattle.docket_tables.specs.Statements.{delete_text, delete_short_day_text}
use Rattle.docket_tables.specs.Holds.{Holds, cells, has_key, IsKeyed}
use Rattle.docket_tables.proofs.SelectLemmas.{answers}
use Rattle.docket_tables.proofs.DeleteLemmas.{DeletesFrom, deletes, numbered_in, calendar_delete, short_day_delete}
use Rattle.docket_tables.proofs.HoldsLemmas.{holds_without}
use Rattle.docket_tables.specs.declared.table.Table.{Table}
use Rattle.docket_tables.specs.declared.table.Table.TheVariants.{Calendar, ShortDays}
use Rattle.docket_tables.specs.Layouts.{Rows, with_rows}
use Rattle.docket_tables.specs.Stands.{Sees}
use Rattle.docket_tables.proofs.LayoutLemmas.{rows_changed}

-- a table whose key is the rowid loses the row of a number
module _ (table : Table) (rest : List ℕ) (text : List ℕ) (means : DeletesFrom docket_schema text (shape_of table) (numbered_in table)) (places : places_of table ≡ 0 ∷ rest) where
  removed_from : (n : ℤ) (rows : Rows) (old new : State) (count : ℕ) → AllByRecursion IsKeyed (rows table) → Sees old rows → Executes text (Int n ∷ []) old new (Ok count)
      → Turns old new new.now old.committed true → Sees new (with_rows table (filter (λ c. not (has_key (0 ∷ []) (Int n ∷ []) c)) (rows table)) rows)
  removed_from n rows old new count keyed sees ran turns =
      let tree : ℕ = tree_of table in
      let kept = filter (λ c. not (has_key (0 ∷ []) (Int n ∷ []) c)) (rows table) in
      let it = deletes docket_schema text (shape_of table) _ means (Int n ∷ []) old new count sees.shows.schema ran in
      let took = it.2 in
      let found = answers old.now.trees tree (0 ∷ []) (has_key (0 ∷ [])) (λ c. []) [] (op2 (Compare Eq Binary) (col 1 0) (col 0 0) ∷ []) (col 1 0 ∷ []) [] [] (lit (Int (negsuc 0))) None
      (λ params row. refl) (λ params row. refl) (λ params row. refl) refl (λ params. refl) (Int n ∷ []) took.found (took.answer.answer Null) in
      let same : IsPermutation (filter (has_key (0 ∷ []) (Int n ∷ [])) (map (cells (0 ∷ [])) (old.now.trees tree))) took.found = subst (IsPermutation _) (sym found.first) found.same in
      let held = subst (λ ps. Holds tree ps (rows table) old.now.trees) places (sees.shows.holds table) in
      let left = holds_without tree rest (rows table) n took.found old.now.trees new.now.trees held keyed same took.rows in
      record {
        begun = turns.mode;
        shows = record {
          is_open = turns.is_open;
          schema = it.0;
          live = it.1;
          holds = rows_changed table kept rows old.now.trees new.now.trees sees.shows.holds (subst (λ ps. Holds tree ps kept new.now.trees) (sym places) left) took.others;
        };
      }

-- the calendar loses the day or span of a number
pub removed : (n : ℤ) (rows : Rows) (old new : State) (count : ℕ) → AllByRecursion IsKeyed (rows Calendar) → Sees old rows → Executes delete_text (Int n ∷ []) old new (Ok count)
    → Turns old new new.now old.committed true → Sees new (with_rows Calendar (filter (λ c. not (has_key (0 ∷ []) (Int n ∷ []) c)) (rows Calendar)) rows)
removed = removed_from Calendar (2 ∷ 3 ∷ 4 ∷ 5 ∷ []) delete_text calendar_delete refl

-- and the short day
pub short_day_removed : (n : ℤ) (rows : Rows) (old new : State) (count : ℕ) → AllByRecursion IsKeyed (rows ShortDays) → Sees old rows → Executes delete_short_day_text (Int n ∷ []) old new (Ok count)
    → Turns old new new.now old.committed true → Sees new (with_rows ShortDays (filter (λ c. not (has_key (0 ∷ []) (Int n ∷ []) c)) (rows ShortDays)) rows)
short_day_removed = removed_from ShortDays (2 ∷ 3 ∷ 4 ∷ []) delete_short_day_text short_day_delete refl
