-- What a statement that writes compiles to under any schema that understands it.
use Rattle.std.proofs.Common.{◌≡◌, ◌∙◌, ◌&&◌, ◌==◌, ℕ, Bool, true, false, if◌then◌else◌, List, [], length, not, slice_get, Ok, Err, Option, Some, None, is_some, refl, sym, ap, subst}
use Rattle.sqlite_ast.specs.declared.Statement.TheVariants as written
use Rattle.sqlite_ast.specs.declared.Expr.{Expr}
use Rattle.sqlite_ast.specs.declared.CreateTable.{CreateTable as Definition}
use Rattle.sqlite_syntax.specs.declared.statement.Parsed.{Parsed}
use Rattle.sqlite_schema.specs.declared.command.Command.{Command}
use Rattle.sqlite_schema.specs.declared.command.Command.TheVariants.{CreateTable, Nothing, Update}
use Rattle.sqlite_schema.specs.declared.command.Returning.{Returning}
use Rattle.sqlite_schema.specs.declared.program.Program.{Program}
use Rattle.sqlite_schema.specs.declared.schema.Schema.{Schema}
use Rattle.sqlite_schema.specs.declared.schema.Table.{Table as Shape}
use Rattle.sqlite_schema.specs.Names.{table_named}
use Rattle.sqlite_resolve.specs.declared.compiled.Compiled.{Compiled}
use Rattle.sqlite_resolve.specs.declared.error.CompileError.{CompileError}
use Rattle.sqlite_resolve.specs.declared.error.CompileError.TheVariants.{NoSuchTable, Exists, Misuse, Unsupported}
use Rattle.sqlite_resolve.specs.Body.{table_at}
use Rattle.sqlite_resolve.specs.Compile.{command, compiled, create_table, creates, first, is_attached, is_reserved, meaning, planned, returning, shows, target, timed, update}
use Rattle.sqlite_resolve.specs.Define as define
use Rattle.sqlite_resolve.specs.Lowering.{Checked, and_then, or_else}
use Rattle.sqlite_resolve.specs.Program.{program}
use Rattle.sqlite_resolve.specs.Scope.{Name}
use Rattle.sqlite_resolve.specs.Write.{updated}
use Rattle.sqlite.specs.Listing.{understood, reads_listing, listing_schema, if_select}

-- what gave a value gave it through each of its parts
through : {A B : Type 0} (r : Checked A) (f : A → Checked B) (b : B) → and_then r f ≡ Ok b → (a : A) × (r ≡ Ok a) × (f a ≡ Ok b)
through (Ok a) f b is = (a, refl, is)
through (Err e) f b is = absurd cc

found_some : {A : Type 0} (o : Option A) (e : CompileError) (a : A) → or_else o e ≡ Ok a → o ≡ Some a
found_some (Some x) e a is = let same : x ≡ a = cc in ap Some same
found_some None e a is = absurd cc

same_ok : {A : Type 0} {a b : A} → ◌≡◌ {A = Checked A} (Ok a) (Ok b) → a ≡ b
same_ok e = cc

-- the statement is no query, so that it is none on the listing of the schema
abbrev pub ListsNothing : List ℕ → Type 0
ListsNothing sql = if_select (compiled listing_schema sql) ≡ Err NoSuchTable

compiled_as : (schema : Schema) (sql : List ℕ) (c : Compiled) → ListsNothing sql → understood schema sql ≡ Ok c → compiled schema sql ≡ Ok c
unfolding understood
compiled_as schema sql c none = go (reads_listing schema sql)
  where
    go : (b : Bool) → (if b then if_select (compiled listing_schema sql) else compiled schema sql) ≡ Ok c → compiled schema sql ≡ Ok c
    go true is = absurd (let e = sym none ∙ is in cc)
    go false is = is

-- the parts of a statement that was understood
pub record IsMade (schema : Schema) (p : Parsed) (c : Compiled) : Type 0 where
  pub base : ℕ
  pub returns : returning schema base p.statement ≡ Ok c.returning
  pub commands : command schema p.formats base p.statement ≡ Ok c.command
  pub formats : c.formats ≡ timed schema p.formats p.statement
  pub start : c.start ≡ p.start
  pub end_is : c.end ≡ p.end

pub made_of : (schema : Schema) (sql : List ℕ) (p : Parsed) (c : Compiled) → first sql ≡ Ok p → ListsNothing sql → understood schema sql ≡ Ok c → IsMade schema p c
unfolding compiled planned meaning
made_of schema sql p c is none known =
    let whole = through (first sql) _ c (compiled_as schema sql c none known) in
    let parsed : whole.0 ≡ p = same_ok (sym whole.1 ∙ is) in
    let plan = through (planned schema whole.0) _ c whole.2 in
    let mean = through _ _ plan.0 plan.1 in
    let shown = through _ _ mean.0 mean.1 in
    let done = through _ _ mean.0 shown.2 in
    let pair = same_ok done.2 in
    let plans = same_ok mean.2 in
    let same = same_ok plan.2 in
    subst (λ q. IsMade schema q c) parsed (record {
      base = _;
      returns = shown.1 ∙ ap Ok (ap (λ (k : Command × Option Returning). k.1) pair ∙ ap (λ (k : List Name × (Command × Option Returning)). k.1.1) plans ∙ ap (λ (k : Compiled). k.returning) same);
      commands = done.1 ∙ ap Ok (ap (λ (k : Command × Option Returning). k.0) pair ∙ ap (λ (k : List Name × (Command × Option Returning)). k.1.0) plans ∙ ap (λ (k : Compiled). k.command) same);
      formats = ap (λ (k : Compiled). k.formats) (sym same) ∙ ap (λ (k : List Name × (Command × Option Returning)). k.0) (sym plans);
      start = ap (λ (k : Compiled). k.start) (sym same);
      end_is = ap (λ (k : Compiled). k.end) (sym same);
    })

-- an UPDATE of a table

pub record IsUpdateOf (name : Name) (schema : Schema) (c : Compiled) : Type 0 where
  pub at : ℕ
  pub table : Shape
  pub program : Program
  pub named : table_named schema name ≡ Some at
  pub place : slice_get schema.tables at ≡ Some table
  pub is : c.command ≡ Update at program
  pub returning : c.returning ≡ None
  pub formats : c.formats ≡ []

abbrev pub UpdatesNamed : Name → Parsed → Type 0
UpdatesNamed name p = (sets : List (Name × Expr)) × (test : Option Expr) × (p.statement ≡ written.Update name sets test []) × (p.formats ≡ [])

pub update_of : (name : Name) (schema : Schema) (p : Parsed) (c : Compiled) → UpdatesNamed name p → IsMade schema p c → IsUpdateOf name schema c
unfolding command returning timed update shows
update_of name schema p c text made =
    let statement = text.2 in
    let place = through (target schema name) _ c.command (subst (λ s. command schema p.formats made.base s ≡ Ok c.command) statement made.commands) in
    let table = through (table_at schema place.0) _ c.command place.2 in
    let draft = through (updated schema place.0 table.0 text.0 text.1) _ c.command table.2 in
    let ends = through (program schema [] draft.0) _ c.command draft.2 in
    record {
      at = place.0;
      table = table.0;
      program = ends.0;
      named = found_some _ NoSuchTable place.0 place.1;
      place = found_some _ NoSuchTable table.0 table.1;
      is = sym (same_ok ends.2);
      returning = sym (same_ok (subst (λ s. returning schema made.base s ≡ Ok c.returning) statement made.returns));
      formats = made.formats ∙ ap (λ s. timed schema p.formats s) statement ∙ text.3;
    }

-- a CREATE TABLE

abbrev pub CreatesNew : Parsed → Type 0
CreatesNew p = (def : Definition) × (p.statement ≡ written.CreateTable def) × (def.if_missing ≡ false)

pub record IsCreate (c : Compiled) : Type 0 where
  pub is : c.command ≡ CreateTable
  pub returning : c.returning ≡ None
  pub formats : c.formats ≡ []

only_true : (missing : Bool) (name : Name) (same other : Option ℕ) (b : Bool) → missing ≡ false → creates missing name same other ≡ Ok b → b ≡ true
unfolding creates
only_true missing name same other b none = go (is_reserved name) (is_some other) (is_some same)
  where
    go : (reserved others sames : Bool) → (if reserved then Err Misuse else (if others then Err Exists else (if sames then (if missing then Ok false else Err Exists) else Ok true))) ≡ Ok b → b ≡ true
    go true others sames is = absurd cc
    go false true sames is = absurd cc
    go false false true is = absurd (let e = rw none at is in cc)
    go false false false is = sym (same_ok is)

abbrev if_made : Bool → Checked Command
if_made fits = if fits then Ok CreateTable else Err Unsupported

pub create_of : (schema : Schema) (p : Parsed) (c : Compiled) → CreatesNew p → IsMade schema p c → IsCreate c
unfolding command returning timed create_table
create_of schema p c text made =
    let def = text.0 in
    record {
      is = go _ _ (is_attached schema def.name) (subst (λ s. command schema p.formats made.base s ≡ Ok c.command) text.1 made.commands);
      returning = sym (same_ok (subst (λ s. returning schema made.base s ≡ Ok c.returning) text.1 made.returns));
      formats = made.formats ∙ ap (λ s. timed schema p.formats s) text.1;
    }
  where
    fits : (b : Bool) → if_made b ≡ Ok c.command → c.command ≡ CreateTable
    fits true is = sym (same_ok is)
    fits false is = absurd cc

    new_one : (b : Bool) (t : Checked Shape) → b ≡ true → (if b then and_then t (λ (t : Shape). if_made (length t.computed == length t.stamps.places && not text.0.resolves)) else Ok Nothing) ≡ Ok c.command → c.command ≡ CreateTable
    new_one true t is made_it = let it = through t _ c.command made_it in fits _ it.2
    new_one false t is made_it = absurd cc

    go : (same other : Option ℕ) (attached : Bool)
        → (if attached then Err Unsupported else and_then (creates text.0.if_missing text.0.name same other) (λ is_new. if is_new then and_then (define.table p.formats text.0) (λ (t : Shape). if_made (length t.computed == length t.stamps.places && not text.0.resolves)) else Ok Nothing)) ≡ Ok c.command
        → c.command ≡ CreateTable
    go same other true is = absurd cc
    go same other false is =
        let it = through (creates text.0.if_missing text.0.name same other) _ c.command is in
        new_one it.0 (define.table p.formats text.0) (only_true text.0.if_missing text.0.name same other it.0 text.2 it.1) it.2
