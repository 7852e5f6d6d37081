-- What a DELETE of the rows that a query finds does.
use Rattle.std.proofs.Common.{◌≡◌, ◌∙◌, ℕ, List, [], ◌∷◌, slice_get, negsuc, None, Some, Ok, refl, sym, ap, subst}
use Rattle.sqlite.specs.Order.{Row}
use Rattle.sqlite.specs.Collation.TheVariants.{Binary}
use Rattle.sqlite.specs.declared.types.Value.TheVariants.{Int}
use Rattle.sqlite.specs.Term.{lit, col, op2}
use Rattle.sqlite_sql.specs.declared.ops.BinaryOp.TheVariants.{Compare}
use Rattle.sqlite_sql.specs.declared.ops.CompareOp.TheVariants.{Eq}
use Rattle.sqlite.specs.Table.{Table}
use Rattle.sqlite.specs.Schema.{Schema}
use Rattle.sqlite_schema.specs.declared.program.Program.{Program}
use Rattle.sqlite.specs.Command.TheVariants.{Delete}
use Rattle.sqlite.specs.Edit.{Edit, edit_of, without_all}
use Rattle.sqlite_rules.specs.Calls.{ids_of}
use Rattle.sqlite_rules.specs.Edit.{taken_by}
use Rattle.sqlite.specs.Rowids.TheVariants.{Given}
use Rattle.sqlite.specs.Does.{Does, OnRows, AtPlace}
use Rattle.sqlite.specs.Rows.{Written, Task, Deletes}
use Rattle.sqlite.specs.Tree.{Trees}
use Rattle.sqlite.specs.Listing.{understood}
use Rattle.sqlite.specs.Effect.{Database, IsDatabase, Answers}
use Rattle.sqlite.specs.State.{State, mode_of, Executes}
use Rattle.sqlite.proofs.Callers.{IsPlain, command_of, statement_of, runs_as, one_step}
use Rattle.sqlite_schema.specs.declared.schema.Keys.TheVariants.{Enforced}
use Rattle.sqlite_rules.specs.Action.{works, Writes as WritesEdit}
use Rattle.sqlite_tied.specs.Compute.{everything}
use Rattle.docket_tables.specs.Schema.{docket_schema, shape_of, tree_of}
use Rattle.docket_tables.specs.Statements.{delete_text, delete_short_day_text}
use Rattle.docket_tables.specs.Tables.{layout_of}
use Rattle.docket_tables.specs.declared.table.Table.{Table as Named}
use Rattle.docket_tables.specs.declared.table.Table.TheVariants.{Calendar, ShortDays}
use Rattle.docket_tables.specs.Holds.{KeepsOthers, plain_query}
use Rattle.docket_tables.proofs.InsertLemmas.{went, same_value, concludes}

-- the rows with the rowids that the query showed are gone, the other tables as they were
pub record Takes (schema : Schema) (table : Table) (q : Program) (params : Row) (old new : Trees) : Type 0 where
  pub found : List Row
  pub answer : Answers (record { schema = schema; trees = old }) q params found
  pub rows : new table.tree ≡ without_all (old table.tree) (ids_of found)
  pub others : KeepsOthers schema table.tree old new

takes : (task : Task) (q : Program) (db : Trees) (done : Written) → task.keys ≡ Enforced → ((olds : List Row) → works task.schema Enforced 0 task.table.tree olds [] ≡ [])
    → Deletes task q db (Ok done) → Takes task.schema task.table q task.params db done.trees
takes task q db done enforced no_work h =
    let found = went h in
    let wrote = went found.2 in
    let edit : Edit = edit_of db task.table (ids_of found.0) Given 0 [] in
    let trees : done.trees ≡ wrote.0 = ap (λ (it : Written). it.trees) (same_value wrote.2) in
    let applied = one_step task.schema Enforced db wrote.0 edit (no_work (taken_by db edit)) (subst (λ k. WritesEdit task.schema k db edit (Ok wrote.0)) enforced wrote.1) in
    record {
      found = found.0;
      answer = found.1;
      rows = ap (λ (t : Trees). t task.table.tree) trees ∙ applied.rows;
      others = subst (KeepsOthers task.schema task.table.tree db) (sym trees) applied.tables;
    }

-- what the text of a DELETE means under the schema
pub record DeletesFrom (schema : Schema) (sql : List ℕ) (table : Table) (q : Program) : Type 0 where
  pub at : ℕ
  pub is : command_of (understood schema sql) ≡ Delete at q
  pub plain : IsPlain (understood schema sql)
  pub place : slice_get schema.tables at ≡ Some table
  pub no_work : (olds : List Row) → works schema Enforced 0 table.tree olds [] ≡ []

pub deletes : (schema : Schema) (sql : List ℕ) (table : Table) (q : Program) (text : DeletesFrom schema sql table q) (params : Row) (old new : State) (count : ℕ)
    → old.now.schema ≡ schema → Executes sql params old new (Ok count) → (new.now.schema ≡ schema) × IsDatabase new.now × Takes schema table q params old.now.trees new.now.trees
deletes schema sql table q text params old new count has h =
    let db = old.now.trees in
    let w = runs_as sql params old new schema has (Delete text.at q) text.is text.plain count h in
    let words = statement_of sql (understood schema sql) in
    let at_schema = subst (λ s. Does old.step_limit (mode_of old) params (record old.now { schema = s }) words None (Delete text.at q) (Ok (w.tally, new.now))) has w.changed in
    let task : Table → Task = λ t. record { limit = old.step_limit; keys = Enforced; schema = schema; table = t; params = params } in
    let done = went (subst (λ o. AtPlace (λ t. OnRows (task t) (mode_of old) None (Delete text.at q) db) o (Ok (w.tally, new.now))) text.place at_schema) in
    let now = concludes (task table) (mode_of old) done.0 w.tally new.now done.2 in
    let took = takes (task table) q db done.0 refl text.no_work done.1 in
    (ap (λ (d : Database). d.schema) now, w.sound, subst (Takes schema table q params db) (sym (ap (λ (d : Database). d.trees) now)) took)

-- the row of a rowid
abbrev pub numbered_in : Named → Program
numbered_in table = record { lets = []; body = plain_query (tree_of table) (op2 (Compare Eq Binary) (col 1 0) (col 0 0) ∷ []) (col 1 0 ∷ []) [] [] (lit (Int (negsuc 0))) }

pub calendar_delete : DeletesFrom docket_schema delete_text (shape_of Calendar) (numbered_in Calendar)
unfolding understood everything
calendar_delete = record { at = (layout_of Calendar).at; is = refl; plain = (refl, refl); place = refl; no_work = λ olds. refl }

pub short_day_delete : DeletesFrom docket_schema delete_short_day_text (shape_of ShortDays) (numbered_in ShortDays)
unfolding understood everything
short_day_delete = record { at = (layout_of ShortDays).at; is = refl; plain = (refl, refl); place = refl; no_work = λ olds. refl }
