-- Calls that write nothing: every database that a power failure may leave then is one that it could leave before.
use Rattle.std.proofs.Common.{◌≡◌, ◌+◌, inl, ℕ, Bool, List, map, true, false, IsSome, Some, None, Option, Ok, Err, if◌then◌else◌, refl, subst, arith}
use Rattle.sqlite_ast.specs.declared.Select.{Select}
use Rattle.sqlite_ast.specs.declared.Statement.{Statement}
use Rattle.sqlite_ast.specs.declared.Statement.TheVariants as written
use Rattle.sqlite_syntax.specs.declared.statement.Parsed.{Parsed}
use Rattle.sqlite_schema.specs.declared.schema.Schema.{Schema}
use Rattle.sqlite_schema.specs.declared.command.Command.{Command}
use Rattle.sqlite_schema.specs.declared.command.Returning.{Returning}
use Rattle.sqlite_resolve.specs.Compile.{first, compiled, planned, meaning, returning, timed, command, with_command, small}
use Rattle.sqlite_resolve.specs.Lowering.{Checked, and_then}
use Rattle.sqlite_resolve.specs.declared.compiled.Compiled.{Compiled}
use Rattle.sqlite_resolve.specs.declared.error.CompileError.TheVariants.{NoSuchTable}
use Rattle.sqlite_tied.specs.Compute.{everything}
use Rattle.sqlite.specs.Listing.{understood, reads_listing, listing_schema, if_select, is_select}
use Rattle.sqlite.specs.Order.{Row}
use Rattle.sqlite.specs.State.{State, HasCleanDisk, Survives, CommitsShowing}
use Rattle.sqlite.specs.Tree.{Trees}
use Rattle.sqlite.proofs.StateLemmas.{survives_then, survives_weaker}
use Rattle.docket_tables.specs.Queries.{select_text}
use Rattle.docket_tables.specs.declared.query.Query.{Query}
use Rattle.docket_tables.proofs.EachLemmas.{queries, each_query}

-- no call
pub nothing_called : {s : State} → Survives s s (λ _. ⊥)
nothing_called = record {
  clean = omega arith;
  shield = λ is. is;
  counts = omega arith;
  limit = refl;
  closes = λ clean is_open. inl is_open;
  crash = λ clean db may. inl may;
}

-- what wrote nothing, and then writes nothing
pub nothing_then : {first old new : State} → Survives first old (λ _. ⊥) → Survives old new (λ _. ⊥) → Survives first new (λ _. ⊥)
nothing_then {first} {old} {new} = survives_then first old new _ _ _ (λ clean db none. none) (λ clean db none. none)

-- a disk that is clean was clean
pub clean_before : {old new : State} → Survives old new (λ _. ⊥) → HasCleanDisk new → HasCleanDisk old
clean_before kept clean = omega (arith, kept.clean)

-- a SELECT has no RETURNING, under whatever schema

abbrev is_select_statement : Statement → Bool
is_select_statement (written.Select s) = true
is_select_statement _ = false

abbrev is_select_in : Checked Parsed → Bool
is_select_in (Ok p) = is_select_statement p.statement
is_select_in (Err e) = false

-- by the grammar alone
abbrev pub is_select_text : List ℕ → Bool
is_select_text sql = is_select_in (first sql)

the_select : (statement : Statement) → is_select_statement statement ≡ true → (s : Select) × (statement ≡ written.Select s)
the_select (written.Select s) is = (s, refl)
the_select _ is = absurd cc

abbrev plan_of : Schema → Parsed → Statement → Checked (List (List ℕ) × (Command × Option Returning))
plan_of schema p statement =
    let times = timed schema p.formats statement in
    let base = small p.names + small times in
    and_then (and_then (returning schema base statement) (λ shown. and_then (command schema p.formats base statement) (λ k. Ok (k, shown)))) (λ found. Ok (times, found))

bare_plan : (p : Parsed) (c : Compiled) (times : List (List ℕ)) (r : Checked Command)
    → and_then (and_then (and_then r (λ k. Ok (k, None))) (λ found. Ok (times, found))) (λ plan. Ok (with_command p plan)) ≡ Ok c → c.returning ≡ None
bare_plan p c times (Ok k) is = let same : with_command p (times, (k, None)) ≡ c = cc in subst (λ (x : Compiled). x.returning ≡ None) same refl
bare_plan p c times (Err e) is = absurd cc

compiled_bare : (sql : List ℕ) (schema : Schema) (c : Compiled) → is_select_text sql ≡ true → compiled schema sql ≡ Ok c → c.returning ≡ None
unfolding compiled planned meaning returning
compiled_bare sql schema c = at (first sql)
  where
    here : (p : Parsed) (s : Select) → p.statement ≡ written.Select s → and_then (planned schema p) (λ plan. Ok (with_command p plan)) ≡ Ok c → c.returning ≡ None
    here p s statement is =
        let times = timed schema p.formats (written.Select s) in
        let as_select = subst (λ st. and_then (plan_of schema p st) (λ plan. Ok (with_command p plan)) ≡ Ok c) statement is in
        bare_plan p c times (command schema p.formats (small p.names + small times) (written.Select s)) as_select

    at : (r : Checked Parsed) → is_select_in r ≡ true → and_then r (λ p. and_then (planned schema p) (λ plan. Ok (with_command p plan))) ≡ Ok c → c.returning ≡ None
    at (Ok p) select is = let s = the_select p.statement select in here p s.0 s.1 is
    at (Err e) select is = absurd cc

if_selected : (r : Checked Compiled) (c : Compiled) → if_select r ≡ Ok c → r ≡ Ok c
if_selected (Ok x) c is = at (is_select x.command) is
  where
    at : (b : Bool) → (if b then Ok x else Err NoSuchTable) ≡ Ok c → ◌≡◌ {A = Checked Compiled} (Ok x) (Ok c)
    at true same = same
    at false same = absurd cc
if_selected (Err e) c is = absurd cc

understood_bare : (sql : List ℕ) (schema : Schema) (c : Compiled) → is_select_text sql ≡ true → understood schema sql ≡ Ok c → c.returning ≡ None
unfolding understood
understood_bare sql schema c select = at (reads_listing schema sql)
  where
    at : (b : Bool) → (if b then if_select (compiled listing_schema sql) else compiled schema sql) ≡ Ok c → c.returning ≡ None
    at true is = compiled_bare sql listing_schema c select (if_selected (compiled listing_schema sql) c is)
    at false is = compiled_bare sql schema c select is

no_some : {X : Type 0} (o : Option X) → o ≡ None → IsSome o → ⊥
no_some None none some = absurd (let e = some in cc)
no_some (Some x) none some = absurd cc

never_commits : (sql : List ℕ) (params : Row) (s : State) (db : Trees) → is_select_text sql ≡ true → CommitsShowing sql params s db → ⊥
unfolding CommitsShowing
never_commits sql params s db select h = no_some h.0.returning (understood_bare sql s.now.schema h.0 select h.1.is) h.2

-- so it writes nothing, to whatever database
pub select_writes_nothing : (sql : List ℕ) (params : Row) (old new : State) → is_select_text sql ≡ true → Survives old new (CommitsShowing sql params old) → Survives old new (λ _. ⊥)
select_writes_nothing sql params old new select = survives_weaker old new _ _ (λ _ db. never_commits sql params old db select)

all_select : map (λ q. is_select_text (select_text q)) queries ≡ map (λ _. true) queries
unfolding everything
all_select = refl

-- and no question does
pub question_writes_nothing : (q : Query) (params : Row) (old new : State) → Survives old new (CommitsShowing (select_text q) params old) → Survives old new (λ _. ⊥)
question_writes_nothing q params old new = select_writes_nothing (select_text q) params old new (each_query (λ q. is_select_text (select_text q)) (λ _. true) all_select q)
