-- What an UPDATE of the rows that a query finds does.
use Rattle.std.proofs.Common.{◌≡◌, ◌∙◌, ℕ, List, [], ◌∷◌, slice_get, length, true, false, pos, negsuc, None, Some, Ok, refl, sym, ap, subst}
use Rattle.sqlite.specs.Order.{Row}
use Rattle.sqlite.specs.Collation.TheVariants.{Binary}
use Rattle.sqlite.specs.declared.types.Value.TheVariants.{Int, Null}
use Rattle.sqlite.specs.Term.{lit, col, op2}
use Rattle.sqlite_sql.specs.declared.ops.BinaryOp.TheVariants.{Compare, Arith}
use Rattle.sqlite_sql.specs.declared.ops.ArithOp.TheVariants.{Add}
use Rattle.sqlite_sql.specs.declared.ops.CompareOp.TheVariants.{Eq}
use Rattle.sqlite.specs.Table.{Table}
use Rattle.sqlite.specs.Schema.{Schema}
use Rattle.sqlite_schema.specs.declared.program.Program.{Program}
use Rattle.sqlite.specs.Command.TheVariants.{Update}
use Rattle.sqlite.specs.Edit.{Edit, edit_of, edited}
use Rattle.sqlite_rules.specs.Calls.{ids_of}
use Rattle.sqlite_rules.specs.Edit.{taken_by, have_rowids, are_fresh, left_by}
use Rattle.sqlite.specs.Rowids.TheVariants.{Given}
use Rattle.sqlite.specs.Does.{Does, OnRows, AtPlace}
use Rattle.sqlite.specs.Rows.{Written, Task, Updates}
use Rattle.sqlite.specs.Tree.{Trees}
use Rattle.sqlite.specs.Listing.{understood}
use Rattle.sqlite.specs.Effect.{Database, IsDatabase, Answers}
use Rattle.sqlite.specs.State.{State, mode_of, Executes}
use Rattle.sqlite.proofs.Callers.{IsPlain, command_of, statement_of, runs_as, one_step}
use Rattle.sqlite_schema.specs.declared.schema.Keys.TheVariants.{Enforced}
use Rattle.sqlite_rules.specs.Action.{works, work_by, pairs, deed_for, Writes as WritesEdit}
use Rattle.std.specs.Prelude.{◌==◌}
use Rattle.std.specs.List.{flat_map, filter_map}
use Rattle.sqlite_schema.specs.Rules.{parent_key}
use Rattle.sqlite_tied.specs.Compute.{everything}
use Rattle.docket_tables.specs.Schema.{docket_schema, shape_of, tree_of}
use Rattle.docket_tables.specs.Statements.{count_text}
use Rattle.docket_tables.specs.declared.table.Table.TheVariants.{Court, Due}
use Rattle.docket_tables.specs.Holds.{KeepsOthers, plain_query}
use Rattle.docket_tables.proofs.InsertLemmas.{went, same_value, concludes}

-- the rows that the query showed, by their old rowids, are replaced by what it showed of them
pub record Changes (schema : Schema) (table : Table) (q : Program) (params : Row) (old new : Trees) : Type 0 where
  pub found : List Row
  pub answer : Answers (record { schema = schema; trees = old }) q params found
  pub rows : new table.tree ≡ edited old (edit_of old table (ids_of found) Given 1 found)
  pub keyed : have_rowids (edit_of old table (ids_of found) Given 1 found).news ≡ true
  pub fresh : are_fresh (left_by old (edit_of old table (ids_of found) Given 1 found)) (edit_of old table (ids_of found) Given 1 found).news ≡ true
  pub others : KeepsOthers schema table.tree old new

changes : (task : Task) (q : Program) (db : Trees) (done : Written) → task.keys ≡ Enforced → ((olds news : List Row) → works task.schema Enforced 0 task.table.tree olds news ≡ [])
    → Updates task q task.params db (Ok done) → Changes task.schema task.table q task.params db done.trees
changes task q db done enforced no_work h =
    let found = went h in
    let wrote = went found.2 in
    let edit : Edit = edit_of db task.table (ids_of found.0) Given 1 found.0 in
    let trees : done.trees ≡ wrote.0 = ap (λ (it : Written). it.trees) (same_value wrote.2) in
    let applied = one_step task.schema Enforced db wrote.0 edit (no_work (taken_by db edit) edit.news) (subst (λ k. WritesEdit task.schema k db edit (Ok wrote.0)) enforced wrote.1) in
    record {
      found = found.0;
      answer = found.1;
      rows = ap (λ (t : Trees). t task.table.tree) trees ∙ applied.rows;
      keyed = applied.keyed;
      fresh = applied.fresh;
      others = subst (KeepsOthers task.schema task.table.tree db) (sym trees) applied.tables;
    }

pub record UpdatesIn (schema : Schema) (sql : List ℕ) (table : Table) (q : Program) : Type 0 where
  pub at : ℕ
  pub is : command_of (understood schema sql) ≡ Update at q
  pub plain : IsPlain (understood schema sql)
  pub place : slice_get schema.tables at ≡ Some table
  pub no_work : (olds news : List Row) → works schema Enforced 0 table.tree olds news ≡ []

pub updates : (schema : Schema) (sql : List ℕ) (table : Table) (q : Program) (text : UpdatesIn schema sql table q) (params : Row) (old new : State) (count : ℕ)
    → old.now.schema ≡ schema → Executes sql params old new (Ok count) → (new.now.schema ≡ schema) × IsDatabase new.now × Changes schema table q params old.now.trees new.now.trees
updates schema sql table q text params old new count has h =
    let db = old.now.trees in
    let w = runs_as sql params old new schema has (Update text.at q) text.is text.plain count h in
    let words = statement_of sql (understood schema sql) in
    let at_schema = subst (λ s. Does old.step_limit (mode_of old) params (record old.now { schema = s }) words None (Update text.at q) (Ok (w.tally, new.now))) has w.changed in
    let task : Table → Task = λ t. record { limit = old.step_limit; keys = Enforced; schema = schema; table = t; params = params } in
    let done = went (subst (λ o. AtPlace (λ t. OnRows (task t) (mode_of old) None (Update text.at q) db) o (Ok (w.tally, new.now))) text.place at_schema) in
    let now = concludes (task table) (mode_of old) done.0 w.tally new.now done.2 in
    let changed = changes (task table) q db done.0 refl text.no_work done.1 in
    (ap (λ (d : Database). d.schema) now, w.sound, subst (Changes schema table q params db) (sym (ap (λ (d : Database). d.trees) now)) changed)

pub no_actions : (olds news : List Row) → works docket_schema Enforced 0 0 olds news ≡ []
no_actions olds news =
    elim (length news == 0) as (λ b. flat_map (λ child. filter_map (λ ref. work_by 0 0 (pairs olds news) child ref (deed_for Enforced b ref) (parent_key docket_schema.tables ref)) child.references) docket_schema.tables ≡ [])
    [ true ↦ refl | false ↦ refl ]

pub no_actions_on_ends : (olds news : List Row) → works docket_schema Enforced 0 (tree_of Due) olds news ≡ []
no_actions_on_ends olds news =
    elim (length news == 0) as (λ b. flat_map (λ child. filter_map (λ ref. work_by 0 (tree_of Due) (pairs olds news) child ref (deed_for Enforced b ref) (parent_key docket_schema.tables ref)) child.references) docket_schema.tables ≡ [])
    [ true ↦ refl | false ↦ refl ]

pub court_update : UpdatesIn docket_schema count_text (shape_of Court)
    (record { lets = []; body = plain_query 0 (op2 (Compare Eq Binary) (col 1 0) (lit (Int (pos 1))) ∷ []) (col 1 0 ∷ col 1 0 ∷ lit Null ∷ col 1 2 ∷ col 1 3 ∷ col 1 4 ∷ col 1 5 ∷ op2 (Arith Add) (col 1 6) (lit (Int (pos 1))) ∷ []) [] [] (lit (Int (negsuc 0))) })
unfolding understood everything
court_update = record { at = 0; is = refl; plain = (refl, refl); place = refl; no_work = no_actions }
