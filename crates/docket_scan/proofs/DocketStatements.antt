-- What the statements of a version's tables mean under the schema of a docket in that version.
use Rattle.std.proofs.Common.{◌≡◌, ◌∙◌, inl, inr, ℕ, zero, suc, Bool, List, [], ◌∷◌, map, take, slice_get, true, false, None, Some, Result, Ok, Err, refl, sym, ap, subst, negsuc}
use Rattle.std.specs.List.{list_all}
use Rattle.std.proofs.lemmas.Bool.{false≢true, and_parts}
use Rattle.sqlite.specs.Effect.{RefusesQuery}
use Rattle.sqlite.specs.Listing.{understood, reads_listing}
use Rattle.sqlite.specs.Order.{Row, column}
use Rattle.sqlite.specs.State.{State}
use Rattle.sqlite.specs.Term.{Term, lit, col, eval_all}
use Rattle.sqlite.specs.Tree.{Trees}
use Rattle.sqlite.specs.declared.error.Error.{Error}
use Rattle.sqlite.specs.declared.types.Value.TheVariants.{Int}
use Rattle.sqlite.proofs.Callers.{command_of, IsPlain}
use Rattle.sqlite_schema.specs.Names.{same_name}
use Rattle.sqlite_schema.specs.Program.{lets_of}
use Rattle.sqlite_schema.specs.declared.command.Command.TheVariants.{Select as Run}
use Rattle.sqlite_schema.specs.declared.program.Program.{Program}
use Rattle.sqlite_resolve.specs.declared.compiled.Compiled.{Compiled}
use Rattle.sqlite_resolve.specs.declared.error.CompileError.{CompileError}
use Rattle.sqlite_sql.specs.Program.{ProgramOverflows}
use Rattle.sqlite_tied.specs.Compute.{everything}
use Rattle.sqlite_typing.specs.Types.{accepts_program}
use Rattle.sqlite_value.specs.declared.keys.Key.{Key}
use Rattle.docket_columns.specs.declared.version.Version.{Version}
use Rattle.docket_columns.specs.declared.version.Version.TheVariants.{First, Second}
use Rattle.docket_tables.specs.Holds.{cells, plain_query}
use Rattle.docket_tables.specs.Schema.{schema_of, tree_of, places_of, key_places}
use Rattle.docket_tables.specs.Tables.{IsTableOf, layout_of, tables_of}
use Rattle.docket_tables.specs.Texts.{counted}
use Rattle.docket_tables.specs.declared.table.Table.{Table}
use Rattle.docket_tables.specs.declared.table.Table.TheVariants as table
use Rattle.docket_tables.proofs.AnswerLemmas.{rising}
use Rattle.docket_tables.proofs.SelectLemmas.{SelectsFrom}
use Rattle.docket_scan.specs.Shapes.{has_table, columns_of}
use Rattle.docket_tables.specs.Texts.{scan_text}
use Rattle.docket_scan.proofs.AnySchema.{IsPlainQuery, understood_plain}

-- where each table stands among those of the version
table_at : (v : Version) (t : Table) → IsTableOf v t → slice_get (tables_of v) (layout_of t).at ≡ Some t
table_at First table.ShortDays is = absurd is
table_at First table.LocalRules is = absurd is
table_at First table.Court is = refl
table_at First t is = refl
table_at Second table.Court is = refl
table_at Second t is = refl

-- a test that all tables of a version pass
passes_at : (test : Table → Bool) (ts : List Table) (n : ℕ) (t : Table) → list_all test ts ≡ true → slice_get ts n ≡ Some t → test t ≡ true
passes_at test [] n t all at = absurd cc
passes_at test (u ∷ ts) zero t all at = let same : u ≡ t = cc in subst (λ x. test x ≡ true) same (and_parts _ _ all).0
passes_at test (u ∷ ts) (suc n) t all at = passes_at test ts n t (and_parts _ _ all).1 at

-- all tables of a version are tested at once, so that its schema is computed once
all_there : (v : Version) → list_all (has_table (schema_of v)) (tables_of v) ≡ true
unfolding same_name
all_there First = refl
all_there Second = refl

pub is_there : (v : Version) (t : Table) → IsTableOf v t → has_table (schema_of v) t ≡ true
is_there v t is = passes_at (has_table (schema_of v)) (tables_of v) (layout_of t).at t (all_there v) (table_at v t is)

-- the columns of the key, among the cells that are shown
abbrev pub key_cells : Table → List ℕ
key_cells t = let l = layout_of t in take l.key (counted 0 l.fields)

abbrev pub key_shown : Table → Row → Row
key_shown t row = map (column row) (key_cells t)

abbrev pub upwards : Table → List Key
upwards t = map (λ _. rising) (key_cells t)

abbrev pub shows_of : Table → List Term
shows_of t = map (λ place. col 1 place) (places_of t)

abbrev pub order_of : Table → List (Term × Key)
order_of t = map (λ place. (col 1 place, rising)) (key_places t)

abbrev pub no_limit : Term
no_limit = lit (Int (negsuc 0))

abbrev pub program_of : Table → Program
program_of t = record { lets = []; body = plain_query (tree_of t) [] (shows_of t) [] (order_of t) no_limit }

-- each statement is that query
pub command_is : (v : Version) (t : Table) → IsTableOf v t → command_of (understood (schema_of v) (scan_text t)) ≡ Run (program_of t) (columns_of t)
unfolding understood everything
command_is First table.ShortDays is = absurd is
command_is First table.LocalRules is = absurd is
command_is First table.Court is = refl
command_is First t is = refl
command_is Second table.Court is = refl
command_is Second t is = refl

-- what is understood as a query is plain, and does not read the listing of the schema
plain_unlisted : (sql : List ℕ) (listed : Bool) (p : Program) (names : List (List ℕ)) (r : Result Compiled CompileError) → ((c : Compiled) → r ≡ Ok c → IsPlainQuery sql c × (listed ≡ false))
    → command_of r ≡ Run p names → IsPlain r × (listed ≡ false)
plain_unlisted sql listed p names (Ok c) known is = let k = known c refl in ((k.0.returning, k.0.formats), k.1)
plain_unlisted sql listed p names (Err e) known is = absurd cc

-- it shows the cells, and sorts by those of the key
shows_cells : (places : List ℕ) (params row : Row) → eval_all (map (λ place. col 1 place) places) (params ∷ row ∷ []) ≡ cells places row
shows_cells [] params row = refl
shows_cells (place ∷ places) params row = ap (λ more. column row place ∷ more) (shows_cells places params row)

sorts_keys : (t : Table) (params row : Row) → eval_all (map (λ k. k.0) (order_of t)) (params ∷ row ∷ []) ≡ key_shown t (cells (places_of t) row)
sorts_keys table.Court params row = refl
sorts_keys t params row = refl

keyed_upwards : (t : Table) → map (λ k. k.1) (order_of t) ≡ upwards t
keyed_upwards table.Court = refl
keyed_upwards t = refl

pub means : (v : Version) (t : Table) → IsTableOf v t → SelectsFrom (schema_of v) (scan_text t) (tree_of t) (places_of t) (λ params row. true) (key_shown t) (upwards t) None
means v t is =
    let found = command_is v t is in
    let known = plain_unlisted (scan_text t) (reads_listing (schema_of v) (scan_text t)) (program_of t) (columns_of t) (understood (schema_of v) (scan_text t)) (understood_plain t (schema_of v)) found in
    record {
      keeps = [];
      shows = shows_of t;
      collations = [];
      order = order_of t;
      limit = no_limit;
      names = columns_of t;
      is = found;
      plain = known.0;
      unlisted = known.1;
      kept = λ params row. refl;
      shown = shows_cells (places_of t);
      sorted = sorts_keys t;
      keyed = keyed_upwards t;
      limited_to = λ params. refl;
    }

-- the columns have the types that it asks for
all_accepted : (v : Version) → list_all (λ t. accepts_program (schema_of v) (lets_of (program_of t)) (program_of t).body []) (tables_of v) ≡ true
unfolding everything
all_accepted First = refl
all_accepted Second = refl

accepted : (v : Version) (t : Table) → IsTableOf v t → accepts_program (schema_of v) (lets_of (program_of t)) (program_of t).body [] ≡ true
accepted v t is = passes_at (λ t. accepts_program (schema_of v) (lets_of (program_of t)) (program_of t).body []) (tables_of v) (layout_of t).at t (all_accepted v) (table_at v t is)

-- and nothing in it overflows
no_overflow : (t : Table) (db : Trees) → ProgramOverflows db [] [] [] (program_of t).body → ⊥
no_overflow t db (inl grouped) = grouped
no_overflow t db (inr (k, x, low, is, never)) = never

pub never_refused : (v : Version) (t : Table) → IsTableOf v t → (s : State) → s.now.schema ≡ schema_of v → (e : Error) → RefusesQuery None s.now (program_of t) [] e → ⊥
never_refused v t is s schema e (inl typed) = false≢true (sym typed.1 ∙ ap (λ d. accepts_program d (lets_of (program_of t)) (program_of t).body []) schema ∙ accepted v t is)
never_refused v t is s schema e (inr (inl over)) = no_overflow t s.now.trees over.1
never_refused v t is s schema e (inr (inr stopped)) = absurd (let some = stopped.1 in cc)
