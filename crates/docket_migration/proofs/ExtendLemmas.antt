-- A schema that goes on with more tables, and what a CREATE and an UPDATE leave of a database of any schema.
use Rattle.std.proofs.Common.{◌≡◌, ◌∙◌, ◌++◌, ◌==◌, inl, inr, ℕ, Bool, true, false, List, [], ◌∷◌, length, slice_get, Ok, Option, Some, None, refl, sym, ap, subst, arith}
use Rattle.std.specs.Prelude.{MatchBool, option_and_then, option_map, slice_range}
use Rattle.std.proofs.lemmas.List.{append_assoc}
use Rattle.std.proofs.lemmas.Bool.Decides.{nat_tests}
use Rattle.std.specs.List.{AllByRecursion, flat_map, filter_map}
use Rattle.sqlite_syntax.specs.declared.statement.Parsed.{Parsed}
use Rattle.sqlite_schema.specs.declared.command.Command.TheVariants.{CreateTable}
use Rattle.sqlite_schema.specs.declared.schema.Keys.TheVariants.{Enforced}
use Rattle.sqlite_schema.specs.declared.schema.Reference.{Reference}
use Rattle.sqlite_schema.specs.declared.schema.Schema.{Schema}
use Rattle.sqlite_schema.specs.declared.schema.Table.{Table as Shape}
use Rattle.sqlite_schema.specs.Names.{same_name, table_named}
use Rattle.sqlite_schema.specs.Rules.{declared_order, key_in, key_places, parent_key}
use Rattle.sqlite_resolve.specs.Compile.{first, table_defined_by}
use Rattle.sqlite_rules.specs.Action.{deed_for, pairs, work_by, work_for, works}
use Rattle.sqlite_rules.specs.declared.action.Deed.{Deed}
use Rattle.sqlite_rules.specs.Lists.{Has}
use Rattle.sqlite_rules.proofs.ListLemmas.{all_has, has_left, has_right, has_either}
use Rattle.sqlite_catalog.specs.Change.{created, next_tree}
use Rattle.sqlite_catalog.proofs.StepLemmas.{table_below}
use Rattle.sqlite_catalog.proofs.SoundLemmas.{lowered}
use Rattle.sqlite.specs.Does.{MakesTable, Tally, lacks_sequence, sequence_text}
use Rattle.sqlite.specs.Rows.{Gives}
use Rattle.sqlite.specs.Effect.{Database, IsDatabase}
use Rattle.sqlite.specs.Listing.{understood}
use Rattle.sqlite.specs.Order.{Row}
use Rattle.sqlite.specs.State.{State, Executes, ExecutesIn}
use Rattle.sqlite.proofs.Callers.{IsPlain, command_of, statement_of, runs_as}
use Rattle.sqlite_tied.specs.Compute.{everything}
use Rattle.docket_migration.specs.Keeping.{GoesOn}
use Rattle.docket_migration.proofs.CommandLemmas.{CreatesNew, ListsNothing, UpdatesNamed, create_of, made_of, update_of}
use Rattle.docket_tables.specs.Holds.{KeepsOthers}
use Rattle.docket_tables.proofs.InsertLemmas.{same_value, went}
use Rattle.docket_tables.proofs.UpdateLemmas.{UpdatesIn, updates}

pub stays_in : (a b : Database) → GoesOn a b → (t : Shape) → Has a.schema.tables t → Has b.schema.tables t
stays_in a b it t h = subst (λ ts. Has ts t) (sym it.tables) (has_left a.schema.tables it.more t h)

pub extends_then : (a b c : Database) → GoesOn a b → GoesOn b c → GoesOn a c
extends_then a b c p q = record {
  more = p.more ++ q.more;
  tables = q.tables ∙ ap (λ ts. ts ++ q.more) p.tables ∙ append_assoc a.schema.tables p.more q.more;
  kept = λ t h. q.kept t (stays_in a b p t h) ∙ p.kept t h;
  apart = λ t u h k. elim (has_either p.more q.more u k) [ inl early ↦ p.apart t u h early | inr late ↦ q.apart t u (stays_in a b p t h) late ];
  refers = λ u k. elim (has_either p.more q.more u k) [ inl early ↦ p.refers u early | inr late ↦ q.refers u late ];
}

-- one table more
abbrev placed_at : Schema → Shape → Shape
placed_at schema table = record table { tree = next_tree schema }

extends_by : (a b : Database) (table : Shape) → table.references ≡ [] → b.schema ≡ created a.schema table → AllByRecursion (λ (t : Shape). b.trees t.tree ≡ a.trees t.tree) a.schema.tables → GoesOn a b
extends_by a b table none is others = record {
  more = placed_at a.schema table ∷ [];
  tables = ap (λ (s : Schema). s.tables) is;
  kept = λ t h. all_has _ a.schema.tables t others h;
  apart = λ t u h k. elim k [ inl same ↦ λ e. let low = table_below a.schema t h in omega (arith, low, ap (λ (x : Shape). x.tree) same, e) | inr none_such ↦ absurd none_such ];
  refers = λ u k. elim k [ inl same ↦ ap (λ (x : Shape). x.references) same ∙ none | inr none_such ↦ absurd none_such ];
}

extends_none : (a b : Database) → b ≡ a → GoesOn a b
extends_none a b same = subst (GoesOn a) (sym same) (record {
  more = [];
  tables = sym (append_nil a.schema.tables);
  kept = λ t h. refl;
  apart = λ t u h k. absurd k;
  refers = λ u k. absurd k;
})
  where
    append_nil : {X : Type 0} (xs : List X) → xs ++ [] ≡ xs
    append_nil [] = refl
    append_nil (x ∷ xs) = ap (λ ys. x ∷ ys) (append_nil xs)

-- what a text is that makes a table which refers to nothing
pub record MakesOne (sql : List ℕ) (table : Shape) : Type 0 where
  pub parsed : Parsed
  pub first_is : first sql ≡ Ok parsed
  pub creates : CreatesNew parsed
  pub whole : slice_range sql parsed.start parsed.end ≡ sql
  pub lists : ListsNothing sql
  pub defined : table_defined_by sql ≡ Ok table
  pub refers : table.references ≡ []

sequence_defined : (table : Shape) × (table_defined_by sequence_text ≡ Ok table) × (table.references ≡ [])
unfolding everything
sequence_defined = (_, refl, refl)

-- the table stands behind those that stood
pub record Grows (table : Shape) (old new : Database) : Type 0 where
  pub extends : GoesOn old new
  pub stands : Has new.schema.tables (record table { tree = next_tree old.schema })
  pub live : IsDatabase new

pub grows : (sql : List ℕ) (table : Shape) (text : MakesOne sql table) (old new : State) (count : ℕ) → Executes sql [] old new (Ok count) → Grows table old.now new.now
unfolding ExecutesIn extends_by
grows sql table text old new count ran =
    let made = made_of old.now.schema sql text.parsed ran.0 text.first_is text.lists ran.1.is in
    let one = create_of old.now.schema text.parsed ran.0 text.creates made in
    let command : command_of (understood old.now.schema sql) ≡ CreateTable = ap command_of ran.1.is ∙ one.is in
    let plain : IsPlain (understood old.now.schema sql) = subst IsPlain (sym ran.1.is) (one.returning, one.formats) in
    let words : statement_of sql (understood old.now.schema sql) ≡ sql = ap (statement_of sql) ran.1.is ∙ ap (λ n. slice_range sql n ran.0.end) made.start ∙ ap (slice_range sql text.parsed.start) made.end_is ∙ text.whole in
    let w = runs_as sql [] old new old.now.schema refl CreateTable command plain count ran in
    let all = went w.changed in
    let start = went all.1 in
    let both : Ok start.1.table ≡ Ok table = sym start.1.defined ∙ ap table_defined_by words ∙ text.defined in
    let same : start.1.table ≡ table = cc in
    let now : new.now ≡ all.0 = ap (λ (p : Tally × Database). p.1) (same_value all.2) in
    let early = extends_by old.now start.0 start.1.table (ap (λ (t : Shape). t.references) same ∙ text.refers) start.1.is start.1.others in
    let late : GoesOn start.0 all.0 = after start.0 all.0 (lacks_sequence start.0.schema) start.2 in
    let there : Has start.0.schema.tables (placed_at old.now.schema table) =
    subst (λ ts. Has ts (placed_at old.now.schema table)) (sym early.tables) (has_right old.now.schema.tables early.more (placed_at old.now.schema table) (inl (ap (placed_at old.now.schema) (sym same)))) in
    record {
      extends = subst (GoesOn old.now) (sym now) (extends_then old.now start.0 all.0 early late);
      stands = subst (λ (d : Database). Has d.schema.tables (placed_at old.now.schema table)) (sym now) (stays_in start.0 all.0 late (placed_at old.now.schema table) there);
      live = w.sound;
    }
  where
    after : (mid end : Database) (b : Bool) → MatchBool b (MakesTable sequence_text mid (Ok end)) (Gives mid (Ok end)) → GoesOn mid end
    after mid end false is = extends_none mid end (same_value is)
    after mid end true is =
        let both : Ok is.table ≡ Ok sequence_defined.0 = sym is.defined ∙ sequence_defined.1 in
        let same : is.table ≡ sequence_defined.0 = cc in
        extends_by mid end is.table (ap (λ (t : Shape). t.references) same ∙ sequence_defined.2) is.is is.others

-- what an UPDATE of a table leaves, where no foreign key acts on it
pub record Rewrites (name : List ℕ) (old new : Database) : Type 0 where
  pub at : ℕ
  pub table : Shape
  pub named : table_named old.schema name ≡ Some at
  pub place : slice_get old.schema.tables at ≡ Some table
  pub schema : new.schema ≡ old.schema
  pub live : IsDatabase new
  pub others : KeepsOthers old.schema table.tree old.trees new.trees

pub record UpdatesOne (sql name : List ℕ) : Type 0 where
  pub parsed : Parsed
  pub first_is : first sql ≡ Ok parsed
  pub updates : UpdatesNamed name parsed
  pub lists : ListsNothing sql

pub rewrites : (sql name : List ℕ) (text : UpdatesOne sql name) (old new : State) (count : ℕ) → Executes sql [] old new (Ok count)
    → ((at : ℕ) (table : Shape) → table_named old.now.schema name ≡ Some at → slice_get old.now.schema.tables at ≡ Some table → (olds news : List Row) → works old.now.schema Enforced 0 table.tree olds news ≡ [])
    → Rewrites name old.now new.now
unfolding ExecutesIn
rewrites sql name text old new count ran quiet =
    let made = made_of old.now.schema sql text.parsed ran.0 text.first_is text.lists ran.1.is in
    let one = update_of name old.now.schema text.parsed ran.0 text.updates made in
    let means : UpdatesIn old.now.schema sql one.table one.program = record {
      at = one.at;
      is = ap command_of ran.1.is ∙ one.is;
      plain = subst IsPlain (sym ran.1.is) (one.returning, one.formats);
      place = one.place;
      no_work = quiet one.at one.table one.named one.place;
    } in
    let it = updates old.now.schema sql one.table one.program means [] old new count refl ran in
    record { at = one.at; table = one.table; named = one.named; place = one.place; schema = it.0; live = it.1; others = it.2.others }

-- where no foreign key refers to a table, and no other has its tree, none acts on it

pub record IsAlone (name : List ℕ) (tree : ℕ) (tables : List Shape) : Type 0 where
  pub refers : (t : Shape) → Has tables t → AllByRecursion (λ (ref : Reference). same_name ref.parent name ≡ false) t.references
  pub apart : (t : Shape) → Has tables t → t.tree ≡ tree → same_name t.name name ≡ true

pub same_together : (a b name : List ℕ) → same_name a name ≡ true → same_name a b ≡ true → same_name b name ≡ true
same_together a b name p q = (lowered b name).1 (sym ((lowered a b).0 q) ∙ (lowered a name).0 p)

module _ (name : List ℕ) (tree : ℕ) (tables : List Shape) (alone : IsAlone name tree tables) (ref : Reference) (free : same_name ref.parent name ≡ false) where
  other_tree : (p : Shape) → Has tables p → same_name p.name ref.parent ≡ true → (p.tree == tree) ≡ false
  other_tree p h same = go (p.tree == tree) refl
    where
      go : (b : Bool) → (p.tree == tree) ≡ b → (p.tree == tree) ≡ false
      go false e = e
      go true e =
          let equal : p.tree ≡ tree = grind (arith, nat_tests) in
          let both = same_together p.name ref.parent name (alone.apart p h equal) same in
          absurd (let never = sym both ∙ free in cc)

  module _ (depth : ℕ) (moves : List (Row × Row)) (child : Shape) where
    by_key : (deed : Option Deed) (p : Shape) (places : Option (List ℕ)) → (other : (p.tree == tree) ≡ false) → work_by depth tree moves child ref deed (option_and_then (key_in p) places) ≡ None
    by_key None p places other = refl
    by_key (Some deed) p None other = refl
    by_key (Some deed) p (Some places) other = elim (declared_order p places) as (λ o. work_by depth tree moves child ref (Some deed) (option_map (λ x. (p.tree, places, x)) o) ≡ None) [ None ↦ refl | Some o ↦ rw other ]

    no_parent : (deed : Option Deed) → work_by depth tree moves child ref deed None ≡ None
    no_parent None = refl
    no_parent (Some deed) = refl

    in_tables : (deed : Option Deed) (ts : List Shape) → ((p : Shape) → Has ts p → Has tables p) → work_by depth tree moves child ref deed (parent_key ts ref) ≡ None
    in_tables deed [] are = no_parent deed
    in_tables deed (p ∷ ts) are = go (same_name p.name ref.parent) refl (in_tables deed ts (λ q h. are q (inr h)))
      where
        go : (b : Bool) → same_name p.name ref.parent ≡ b → work_by depth tree moves child ref deed (parent_key ts ref) ≡ None → work_by depth tree moves child ref deed (parent_key (p ∷ ts) ref) ≡ None
        go true e rest = rw e (by_key deed p (key_places p ref.parent_columns) (other_tree p (are p (inl refl)) e))
        go false e rest = rw e rest

module _ (name : List ℕ) (schema : Schema) (tree : ℕ) (alone : IsAlone name tree schema.tables) (olds news : List Row) where
  of_references : (child : Shape) (refs : List Reference) → AllByRecursion (λ (ref : Reference). same_name ref.parent name ≡ false) refs → filter_map (work_for schema Enforced 0 tree olds news child) refs ≡ []
  of_references child [] free = refl
  of_references child (ref ∷ refs) free =
      let none = in_tables name tree schema.tables alone ref free.0 0 (pairs olds news) child (deed_for Enforced (length news == 0) ref) schema.tables (λ p h. h) in
      rw none (of_references child refs free.1)

  of_tables : (ts : List Shape) → ((t : Shape) → Has ts t → Has schema.tables t) → flat_map (λ (child : Shape). filter_map (work_for schema Enforced 0 tree olds news child) child.references) ts ≡ []
  of_tables [] are = refl
  of_tables (t ∷ ts) are = rw (of_references t t.references (alone.refers t (are t (inl refl)))) (of_tables ts (λ u h. are u (inr h)))

  pub nothing_acts : works schema Enforced 0 tree olds news ≡ []
  nothing_acts = of_tables schema.tables (λ t h. h)

-- so it is still where more tables stand
pub alone_still : (name : List ℕ) (table : Shape) (a b : Database) → GoesOn a b → Has a.schema.tables table → IsAlone name table.tree a.schema.tables → IsAlone name table.tree b.schema.tables
alone_still name table a b it there alone = record {
  refers = λ t h. elim (has_either a.schema.tables it.more t (subst (λ ts. Has ts t) it.tables h)) [
    | inl early ↦ alone.refers t early
    | inr late ↦ subst (AllByRecursion (λ (ref : Reference). same_name ref.parent name ≡ false)) (sym (it.refers t late)) tt
  ];
  apart = λ t h same. elim (has_either a.schema.tables it.more t (subst (λ ts. Has ts t) it.tables h)) [
    | inl early ↦ alone.apart t early same
    | inr late ↦ absurd (it.apart table t there late same)
  ];
}
