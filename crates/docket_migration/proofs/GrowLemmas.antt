-- What each CREATE does, and what both leave.
use Rattle.std.proofs.Common.{◌≡◌, ◌∙◌, ℕ, true, false, suc, List, [], slice_get, length, Some, Ok, refl, sym, ap, subst}
use Rattle.std.specs.List.{AllByRecursion}
use Rattle.sqlite.specs.Compile.{table_defined_by}
use Rattle.sqlite.specs.Change.{created, next_tree}
use Rattle.sqlite.specs.Does.{Tally, lacks_sequence}
use Rattle.sqlite.specs.Table.{Table as Shape}
use Rattle.sqlite.specs.Schema.{Schema}
use Rattle.sqlite.specs.Tree.{Trees}
use Rattle.sqlite.specs.Effect.{Database, IsDatabase}
use Rattle.sqlite.specs.Listing.{understood}
use Rattle.sqlite.specs.Command.TheVariants.{CreateTable}
use Rattle.sqlite.specs.State.{State, Executes, Shows as Turns}
use Rattle.sqlite.proofs.Callers.{runs_as}
use Rattle.sqlite_tied.specs.Compute.{everything}
use Rattle.docket_columns.specs.declared.version.Version.TheVariants.{First}
use Rattle.docket_tables.specs.Layouts.{Rows, AreRows, AreRowsIn}
use Rattle.docket_tables.specs.Schema.{made, definition_of, shape_of, tree_of, places_of}
use Rattle.docket_tables.specs.Stands.{IsSettledIn, Sees}
use Rattle.docket_tables.specs.Tables.{IsTableOf, first_tables, layout_of}
use Rattle.docket_tables.specs.Texts.{create_text}
use Rattle.docket_tables.specs.declared.table.Table.{Table}
use Rattle.docket_tables.specs.declared.table.Table.TheVariants.{ShortDays, LocalRules}
use Rattle.docket_tables.proofs.CellLemmas.{holds_same}
use Rattle.docket_tables.proofs.CreateLemmas.{Defines, holds_none}
use Rattle.docket_tables.proofs.InsertLemmas.{went, same_value}
use Rattle.docket_tables.proofs.LayoutLemmas.{all_at}
use Rattle.docket_migration.specs.Growing.{IsGrown, IsNew}
use Rattle.docket_migration.specs.Moving.{grown}

-- what the text of each means where those before it stand
defines : (table : Table) → IsNew table → Defines (layout_of table).at (create_text table) (definition_of table)
unfolding understood everything
defines ShortDays lacks = record { command = refl; plain = (refl, refl); words = refl; defined = refl; next = refl; uncounted = refl }
defines LocalRules lacks = record { command = refl; plain = (refl, refl); words = refl; defined = refl; next = refl; uncounted = refl }
defines table lacks = absurd (lacks tt)

-- the trees of the tables before it stay
abbrev Stay : Table → Trees → Trees → Type 0
Stay table old new = AllByRecursion (λ (t : Shape). new t.tree ≡ old t.tree) (made (layout_of table).at).tables

-- the first version's tables are among them
stands_before : (table t : Table) → IsNew table → IsTableOf First t → slice_get (made (layout_of table).at).tables (layout_of t).at ≡ Some (shape_of t)
stands_before ShortDays ShortDays lacks is = absurd is
stands_before ShortDays LocalRules lacks is = absurd is
stands_before ShortDays t lacks is = refl
stands_before LocalRules ShortDays lacks is = absurd is
stands_before LocalRules LocalRules lacks is = absurd is
stands_before LocalRules t lacks is = refl
stands_before table t lacks is = absurd (lacks tt)

rows_stay : (table : Table) → IsNew table → (rows : Rows) (old new : Trees) → Stay table old new → AreRowsIn First rows old → AreRowsIn First rows new
rows_stay table lacks rows old new stay are t is =
    let same = all_at (λ (t : Shape). new t.tree ≡ old t.tree) (made (layout_of table).at).tables (layout_of t).at (shape_of t) stay (stands_before table t lacks is) in
    holds_same (tree_of t) (places_of t) (rows t) old new same (are t is)

-- a CREATE of the table
module _ (table : Table) (lacks : IsNew table) (rows : Rows) (old new : State) (count : ℕ) (was : IsGrown rows (layout_of table).at old)
    (ran : Executes (create_text table) [] old new (Ok count)) (turns : Turns old new new.now old.committed true) where
  abbrev at : ℕ
  at = (layout_of table).at

  record Grows : Type 0 where
    pub schema : new.now.schema ≡ made (suc at)
    pub live : IsDatabase new.now
    pub stay : Stay table old.now.trees new.now.trees
    pub fresh : new.now.trees (next_tree (made at)) ≡ []

  grows : Grows
  grows =
      let sql : List ℕ = create_text table in
      let defined : Shape = definition_of table in
      let text = defines table lacks in
      let w = runs_as sql [] old new (made at) was.schema CreateTable text.command text.plain count ran in
      let all = went w.changed in
      let first = went all.1 in
      let made_one = first.1 in
      let both : Ok made_one.table ≡ Ok defined = sym made_one.defined ∙ ap table_defined_by (ap (λ t. t) text.words) ∙ text.defined in
      let same : made_one.table ≡ defined = cc in
      let schema : first.0.schema ≡ made (suc at) = made_one.is ∙ ap (λ s. created s made_one.table) was.schema ∙ ap (created (made at)) same ∙ sym text.next in
      let plain : lacks_sequence first.0.schema ≡ false = ap lacks_sequence schema ∙ text.uncounted in
      let now : new.now ≡ first.0 = ap (λ (p : Tally × Database). p.1) (same_value all.2) ∙ same_value (rw plain at first.2) in
      let trees : new.now.trees ≡ first.0.trees = ap (λ (d : Database). d.trees) now in
      let others = subst (λ (s : Schema). AllByRecursion (λ t. first.0.trees t.tree ≡ old.now.trees t.tree) s.tables) was.schema made_one.others in
      record {
        schema = ap (λ (d : Database). d.schema) now ∙ schema;
        live = w.sound;
        stay = subst (λ (f : Trees). Stay table old.now.trees f) (sym trees) others;
        fresh = ap (λ f. f (next_tree (made at))) trees ∙ subst (λ s. first.0.trees (next_tree s) ≡ []) was.schema made_one.empty;
      }

pub one_more : (table : Table) → IsNew table → (rows : Rows) (old new : State) (count : ℕ) → IsGrown rows (layout_of table).at old → Executes (create_text table) [] old new (Ok count)
    → Turns old new new.now old.committed true → IsGrown rows (suc (layout_of table).at) new
one_more ShortDays lacks rows old new count was ran turns =
    let it = grows ShortDays lacks rows old new count was ran turns in
    record {
      begun = turns.mode;
      is_open = turns.is_open;
      schema = it.schema;
      live = it.live;
      holds = rows_stay ShortDays lacks rows old.now.trees new.now.trees it.stay was.holds;
      empty = (it.fresh, tt);
    }
one_more LocalRules lacks rows old new count was ran turns =
    let it = grows LocalRules lacks rows old new count was ran turns in
    record {
      begun = turns.mode;
      is_open = turns.is_open;
      schema = it.schema;
      live = it.live;
      holds = rows_stay LocalRules lacks rows old.now.trees new.now.trees it.stay was.holds;
      empty = (it.stay.1.1.1.1.1.1.1.1.1.0 ∙ was.empty.0, (it.fresh, tt));
    }
one_more table lacks rows old new count was ran turns = absurd (lacks tt)

-- before the first, as a transaction begins
pub none_yet : (start begun : State) (rows : Rows) → IsSettledIn First start rows → begun ≡ record start { in_transaction = true } → IsGrown rows (length first_tables) begun
none_yet start begun rows was begins =
    subst (IsGrown rows (length first_tables)) (sym begins) (record {
      begun = refl;
      is_open = was.shows.is_open;
      schema = was.shows.schema;
      live = was.shows.live;
      holds = was.shows.holds;
      empty = tt;
    })

-- behind the last, all tables stand
pub all_stand : (s : State) (rows : Rows) → IsGrown rows (suc (layout_of LocalRules).at) s → Sees s (grown rows)
all_stand s rows it = record {
  begun = it.begun;
  shows = record { is_open = it.is_open; schema = it.schema; live = it.live; holds = held };
}
  where
    held : AreRows (grown rows) s.now.trees
    held ShortDays = holds_none (tree_of ShortDays) (places_of ShortDays) s.now.trees it.empty.0
    held LocalRules = holds_none (tree_of LocalRules) (places_of LocalRules) s.now.trees it.empty.1.0
    held t = it.holds t tt
