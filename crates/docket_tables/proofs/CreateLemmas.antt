-- What each CREATE does, and what all of them leave.
use Rattle.std.proofs.Common.{◌≡◌, ◌∙◌, ◌+◌, ◌<◌, ℕ, true, zero, suc, List, [], ◌∷◌, get_or, length, Result, Ok, refl, sym, ap, subst, map, IsPermutation, false, arith}
use Rattle.std.specs.List.{AllByRecursion}
use Rattle.std.proofs.lemmas.List.{get_or-map}
use Rattle.std.proofs.lemmas.List.Sorted.{IsPermutation-refl}
use Rattle.sqlite.specs.Compile.{table_defined_by}
use Rattle.sqlite.specs.Change.{created, next_tree}
use Rattle.sqlite.specs.Does.{Tally, lacks_sequence}
use Rattle.sqlite.specs.Table.{Table as Shape}
use Rattle.sqlite.specs.Schema.{Schema}
use Rattle.sqlite.specs.Tree.{Trees}
use Rattle.sqlite_trees.specs.View.{IsShaped}
use Rattle.sqlite_trees.specs.declared.store.Shape.TheVariants as shape
use Rattle.sqlite_trees.proofs.ListLemmas.{all-append, all_both}
use Rattle.sqlite.specs.Effect.{Database}
use Rattle.sqlite.specs.Listing.{understood}
use Rattle.sqlite.specs.Command.TheVariants.{CreateTable}
use Rattle.sqlite.specs.State.{State, Executes, Shows as Turns}
use Rattle.sqlite.proofs.Callers.{command_of, statement_of, IsPlain, runs_as}
use Rattle.sqlite_resolve.specs.Compile.{compiled}
use Rattle.sqlite_resolve.specs.declared.compiled.Compiled.{Compiled}
use Rattle.sqlite_resolve.specs.declared.error.CompileError.{CompileError}
use Rattle.sqlite_tied.specs.Compute.{everything}
use Rattle.docket_tables.specs.Creation.{IsMade, no_rows}
use Rattle.docket_tables.specs.Holds.{cells, Holds}
use Rattle.docket_tables.specs.Layouts.{AreRows}
use Rattle.docket_tables.specs.Schema.{no_schema, made, definition_of, tree_of, places_of}
use Rattle.docket_tables.specs.Stands.{Sees}
use Rattle.docket_tables.specs.Tables.{layout_of, tables}
use Rattle.docket_tables.specs.Texts.{counted, create_text}
use Rattle.docket_tables.specs.declared.table.Table.{Table}
use Rattle.docket_tables.proofs.EachLemmas.{each_table}
use Rattle.docket_tables.proofs.InsertLemmas.{went, same_value}
use Rattle.docket_tables.proofs.LayoutLemmas.{of_each}
use Rattle.docket_tables.proofs.TextLemmas.{IsRead, whole_text, is_read, read_command, read_plain, read_words}

-- what the text of a table means where those before it stand
pub record Defines (n : ℕ) (sql : List ℕ) (table : Shape) : Type 0 where
  pub command : command_of (understood (made n) sql) ≡ CreateTable
  pub plain : IsPlain (understood (made n) sql)
  pub words : statement_of sql (understood (made n) sql) ≡ sql
  pub defined : table_defined_by sql ≡ Ok table
  pub next : made (suc n) ≡ created (made n) table
  pub uncounted : lacks_sequence (made (suc n)) ≡ false

abbrev pub before : Table → Schema
before table = made (layout_of table).at

abbrev after : Table → Schema
after table = made (suc (layout_of table).at)

-- what the text of a table is read as, and which table it defines
abbrev meaning_of : Table → Result Compiled CompileError × Result Shape CompileError
meaning_of table = (compiled (before table) (create_text table), table_defined_by (create_text table))

abbrev wanted_of : Table → Result Compiled CompileError × Result Shape CompileError
wanted_of table = (Ok (whole_text (create_text table) CreateTable []), Ok (definition_of table))

all_read : map meaning_of tables ≡ map wanted_of tables
unfolding everything
all_read = refl

read : (table : Table) → meaning_of table ≡ wanted_of table
read = each_table meaning_of wanted_of all_read

pub create_read : (table : Table) → IsRead (before table) (create_text table) CreateTable []
create_read table = is_read (ap (λ (both : Result Compiled CompileError × Result Shape CompileError). both.0) (read table))

pub defines : (table : Table) → Defines (layout_of table).at (create_text table) (definition_of table)
defines table =
    let it = create_read table in
    record {
      command = read_command it;
      plain = read_plain it;
      words = read_words it;
      defined = ap (λ (both : Result Compiled CompileError × Result Shape CompileError). both.1) (read table);
      next = each_table after (λ t. created (before t) (definition_of t)) refl table;
      uncounted = each_table (λ t. lacks_sequence (after t)) (λ t. false) refl table;
    }

counted_at : {X : Type 0} (m n : ℕ) (xs : List X) → n < length xs → get_or (counted m xs) n 0 ≡ m + n
counted_at m n [] low = absurd (omega (arith, low))
counted_at m zero (x ∷ xs) low = omega arith
counted_at m (suc n) (x ∷ xs) low = let more = counted_at (suc m) n xs (omega (arith, low)) in omega (arith, more)

-- the tables are numbered in their order
pub at_place : (n : ℕ) (table : Table) → n < length tables → table ≡ get_or tables n table → (layout_of table).at ≡ n
at_place n table low is =
    let place : Table → ℕ = λ t. (layout_of t).at in
    let numbers : map place tables ≡ counted 0 tables = refl in
    let from_none : 0 + n ≡ n = omega arith in
    ap place is ∙ sym (get_or-map place tables n table 0 low) ∙ ap (λ ns. get_or ns n 0) numbers ∙ counted_at 0 n tables low ∙ from_none

pub one_more : (table : Table) (old new : State) (count : ℕ) → IsMade old (layout_of table).at → Executes (create_text table) [] old new (Ok count) → Turns old new new.now old.committed true
    → IsMade new (suc (layout_of table).at)
one_more table old new count was ran turns =
    let n : ℕ = (layout_of table).at in
    let sql : List ℕ = create_text table in
    let defined : Shape = definition_of table in
    let text = defines table in
    let w = runs_as sql [] old new (made n) was.schema CreateTable text.command text.plain count ran in
    let all = went w.changed in
    let first = went all.1 in
    let made_one = first.1 in
    let both : Ok made_one.table ≡ Ok defined = sym made_one.defined ∙ ap table_defined_by (ap (λ t. t) text.words) ∙ text.defined in
    let same : made_one.table ≡ defined = cc in
    let schema : first.0.schema ≡ made (suc n) = made_one.is ∙ ap (λ s. created s made_one.table) was.schema ∙ ap (created (made n)) same ∙ sym text.next in
    let plain : lacks_sequence first.0.schema ≡ false = ap lacks_sequence schema ∙ text.uncounted in
    let now : new.now ≡ first.0 = ap (λ (p : Tally × Database). p.1) (same_value all.2) ∙ same_value (rw plain at first.2) in
    let trees : new.now.trees ≡ first.0.trees = ap (λ (d : Database). d.trees) now in
    let others = subst (λ (s : Schema). AllByRecursion (λ t. first.0.trees t.tree ≡ old.now.trees t.tree) s.tables) was.schema made_one.others in
    let before : AllByRecursion (λ (t : Shape). new.now.trees t.tree ≡ []) (made n).tables =
    all_both (λ (t : Shape). first.0.trees t.tree ≡ old.now.trees t.tree) (λ (t : Shape). old.now.trees t.tree ≡ []) (λ (t : Shape). new.now.trees t.tree ≡ []) (λ t p q. ap (λ f. f t.tree) trees ∙ p ∙ q) (made n).tables others was.empty in
    let fresh : new.now.trees (next_tree (made n)) ≡ [] = ap (λ f. f (next_tree (made n))) trees ∙ subst (λ s. first.0.trees (next_tree s) ≡ []) was.schema made_one.empty in
    let added = all-append (λ (t : Shape). new.now.trees t.tree ≡ []) (made n).tables (record defined { tree = next_tree (made n) } ∷ []) before (fresh, tt) in
    record {
      schema = ap (λ (d : Database). d.schema) now ∙ schema;
      serves = λ low. (turns.is_open, turns.mode, w.sound);
      empty = subst (λ (s : Schema). AllByRecursion (λ t. new.now.trees t.tree ≡ []) s.tables) (sym text.next) added;
    }

pub nothing_yet : (s : State) → s.now.schema ≡ no_schema → IsMade s 0
nothing_yet s is = record { schema = is; serves = λ low. absurd (omega (arith, low)); empty = tt }

pub holds_none : (tree : ℕ) (places : List ℕ) (db : Trees) → db tree ≡ [] → Holds tree places [] db
holds_none tree places db none = ∣ subst (λ rows. IsPermutation (map (cells places) rows) [] × IsShaped shape.Table rows) (sym none) (IsPermutation-refl [], (tt, tt)) ∣₁

holds_nothing : (s : State) → IsMade s (length tables) → AreRows no_rows s.now.trees
holds_nothing s it table = holds_none (tree_of table) (places_of table) s.now.trees (of_each (λ t. s.now.trees t.tree ≡ []) it.empty table)

-- the tables stand, and hold nothing
pub sees_nothing : (s : State) → IsMade s (length tables) → Sees s no_rows
sees_nothing s it =
    let serves = it.serves (omega arith) in
    record { begun = serves.1; shows = record { is_open = serves.0; schema = it.schema; live = serves.2; holds = holds_nothing s it } }
