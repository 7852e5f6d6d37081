-- What an INSERT of one row does.
use Rattle.std.proofs.Common.{◌≡◌, ◌⊎◌, inl, inr, ℕ, ◌/◌, List, [], ◌∷◌, length, take, slice_get, Bool, true, false, Some, None, Ok, Err, Result, refl, sym, ap, subst, subst₂, ℤ, ◌∙◌, append-nil, MatchBool, if◌then◌else◌, ap₂}
use Rattle.std.proofs.lemmas.Bool.{and_parts, not-true}
use Rattle.sqlite.specs.Rows.{rowids_for, count_of}
use Rattle.sqlite.specs.Effect.{value_rows}
use Rattle.sqlite_rules.specs.Action.{Writes as WritesEdit}
use Rattle.sqlite.specs.Order.{Row}
use Rattle.sqlite.specs.Term.{Term, eval_all}
use Rattle.sqlite.specs.Table.{Table}
use Rattle.sqlite.specs.Schema.{Schema}
use Rattle.sqlite.specs.Source.TheVariants.{Values}
use Rattle.sqlite.specs.Command.TheVariants.{Insert}
use Rattle.sqlite.specs.Edit.{Edit, edit_of, with_rowid}
use Rattle.sqlite.specs.Cast.{cast_row}
use Rattle.sqlite.specs.Rowids.TheVariants.{Chosen, Above}
use Rattle.sqlite.specs.Does.{Tally, Does, OnRows, AtPlace, Concludes}
use Rattle.sqlite.specs.declared.run.Mode.{Mode}
use Rattle.sqlite.specs.Rows.{Written, Task, stamped, Inserts}
use Rattle.sqlite.specs.Tree.{Trees}
use Rattle.sqlite.specs.Listing.{understood}
use Rattle.sqlite.specs.Effect.{Database, IsDatabase}
use Rattle.sqlite.specs.State.{State, mode_of, Executes}
use Rattle.sqlite.proofs.Callers.{IsPlain, command_of, statement_of, runs_as, one_step}
use Rattle.sqlite_schema.specs.declared.schema.Keys.TheVariants.{Enforced}
use Rattle.sqlite_rules.specs.Action.{works}
use Rattle.docket_tables.specs.Holds.{Puts, KeepsOthers}

-- a part that gave a value did not stop on the way
pub went : {B E R : Type 0} {b : B} {Stops : E → Type 0} → ((stop : E) × Stops stop × (Ok b ≡ Err stop)) ⊎ R → R
went (inl stopped) = absurd (let e = stopped.2 in cc)
went (inr on) = on

pub same_value : {B E : Type 0} {a b : B} → ◌≡◌ {A = Result B E} (Ok a) (Ok b) → a ≡ b
same_value e = cc

passed_by : (b c : Bool) (X Y : Type 0) → b ≡ false → MatchBool (if b then c else false) X Y → Y
passed_by true c X Y e h = absurd (let no = e in cc)
passed_by false c X Y e h = h

-- what the text of an INSERT means under the schema
pub record InsertsInto (schema : Schema) (sql : List ℕ) (table : Table) (terms : List Term) : Type 0 where
  pub at : ℕ
  pub width : ℕ
  pub is : command_of (understood schema sql) ≡ Insert at (Values terms width)
  pub plain : IsPlain (understood schema sql)
  pub place : slice_get schema.tables at ≡ Some table
  pub one : length terms / width ≡ 1
  pub wide : take width terms ≡ terms
  pub uncounted : table.is_counted ≡ false
  pub unstamped : table.stamps.terms ≡ []
  pub no_work : (row : Row) → works schema Enforced 0 table.tree [] (row ∷ []) ≡ []

chosen_for : (table : Table) (top : ℤ) → table.is_counted ≡ false → rowids_for table top ≡ Chosen
chosen_for table top e = ap (λ b. if b then Above top else Chosen) e

-- the work of the statement, before the foreign keys are tested
pub puts : (task : Task) (terms : List Term) (width : ℕ) (db : Trees) (done : Written)
    → task.keys ≡ Enforced → length terms / width ≡ 1 → take width terms ≡ terms → task.table.is_counted ≡ false → task.table.stamps.terms ≡ []
    → ((row : Row) → works task.schema Enforced 0 task.table.tree [] (row ∷ []) ≡ [])
    → Inserts task (Values terms width) db (Ok done) → Puts task.schema task.table (eval_all terms (task.params ∷ [])) db done.trees
puts task terms width db done enforced one wide uncounted unstamped no_work h =
    let given = went h in
    let counter = went given.2 in
    let written = went counter.2 in
    let counted = went written.2 in
    let trees : done.trees ≡ written.0 = ap (λ (it : Written). it.trees) (same_value counted.2) ∙ same_value (passed_by task.table.is_counted _ _ _ uncounted counted.1) in
    let bound : stamped task.table task.params ≡ task.params = rw unstamped (append-nil task.params) in
    let sources : List Row = eval_all terms (task.params ∷ []) ∷ [] in
    let source : given.0 ≡ sources = given.1.1 ∙ ap₂ (λ p n. value_rows p width n terms) bound one ∙ ap (λ ts. eval_all ts (task.params ∷ []) ∷ []) wide in
    let edit : Edit = edit_of db task.table [] Chosen 0 sources in
    let made : edit_of db task.table [] (rowids_for task.table (count_of counter.0)) 0 given.0 ≡ edit =
    ap₂ (λ r s. edit_of db task.table [] r 0 s) (chosen_for task.table (count_of counter.0) uncounted) source in
    let wrote : WritesEdit task.schema Enforced db edit (Ok written.0) =
    subst₂ (λ k e. WritesEdit task.schema k db e (Ok written.0)) enforced made written.1 in
    let new : Row = with_rowid Chosen (db task.table.tree) (cast_row task.table (eval_all terms (task.params ∷ []))) in
    let applied = one_step task.schema Enforced db written.0 edit (no_work new) wrote in
    record {
      row = new;
      is = refl;
      fresh = not-true _ (and_parts _ _ applied.fresh).0;
      rows = ap (λ (t : Trees). t task.table.tree) trees ∙ applied.rows;
      others = subst (KeepsOthers task.schema task.table.tree db) (sym trees) applied.tables;
    }

-- and the trees that the statement leaves are those that the work left
pub concludes : (task : Task) (mode : Mode) (w : Written) (tally : Tally) (after : Database) → Concludes task mode None w (Ok (tally, after)) → after ≡ record { schema = task.schema; trees = w.trees }
concludes task mode w tally after h = ap (λ (p : Tally × Database). p.1) (same_value (went (went h).2).2)

pub inserts : (schema : Schema) (sql : List ℕ) (table : Table) (terms : List Term) (text : InsertsInto schema sql table terms) (params : Row) (old new : State) (count : ℕ)
    → old.now.schema ≡ schema → Executes sql params old new (Ok count)
    → (new.now.schema ≡ schema) × IsDatabase new.now × Puts schema table (eval_all terms (params ∷ [])) old.now.trees new.now.trees
inserts schema sql table terms text params old new count has h =
    let db = old.now.trees in
    let command = Insert text.at (Values terms text.width) in
    let w = runs_as sql params old new schema has command text.is text.plain count h in
    let words = statement_of sql (understood schema sql) in
    let at_schema = subst (λ s. Does old.step_limit (mode_of old) params (record old.now { schema = s }) words None command (Ok (w.tally, new.now))) has w.changed in
    let task : Table → Task = λ t. record { limit = old.step_limit; keys = Enforced; schema = schema; table = t; params = params } in
    let done = went (subst (λ o. AtPlace (λ t. OnRows (task t) (mode_of old) None command db) o (Ok (w.tally, new.now))) text.place at_schema) in
    let now = concludes (task table) (mode_of old) done.0 w.tally new.now done.2 in
    let put = puts (task table) terms text.width db done.0 refl text.one text.wide text.uncounted text.unstamped text.no_work done.1 in
    (ap (λ (d : Database). d.schema) now, w.sound, subst (Puts schema table (eval_all terms (params ∷ [])) db) (sym (ap (λ (d : Database). d.trees) now)) put)
