-- What a SELECT means under any schema: a query with no parameters, or nothing at all.
use Rattle.std.proofs.Common.{◌≡◌, ◌∙◌, ◌≤◌, ◌+◌, ℕ, nat_le, Bool, ◌&&◌, List, [], ◌∷◌, length, Ok, Err, Option, None, true, false, refl, sym, subst, if◌then◌else◌, arith}
use Rattle.std.proofs.lemmas.Bool.{false≢true, and_parts}
use Rattle.std.proofs.lemmas.Bool.Decides.{nat_tests}
use Rattle.sqlite_ast.specs.declared.Select.{Select}
use Rattle.sqlite_ast.specs.declared.Statement.{Statement}
use Rattle.sqlite_ast.specs.declared.Statement.TheVariants as written
use Rattle.sqlite_syntax.specs.declared.statement.Parsed.{Parsed}
use Rattle.sqlite_schema.specs.declared.schema.Schema.{Schema}
use Rattle.sqlite_schema.specs.declared.command.Command.{Command}
use Rattle.sqlite_schema.specs.declared.command.Command.TheVariants.{Select as Run}
use Rattle.sqlite_schema.specs.declared.command.Returning.{Returning}
use Rattle.sqlite_schema.specs.declared.program.Program.{Program}
use Rattle.sqlite_schema.specs.declared.program.Table.{Table as Let}
use Rattle.sqlite_resolve.specs.Compile.{first, compiled, planned, meaning, returning, timed, command, read, with_command, small}
use Rattle.sqlite_resolve.specs.Lowering.{Checked, and_then}
use Rattle.sqlite_resolve.specs.declared.compiled.Compiled.{Compiled}
use Rattle.sqlite_resolve.specs.declared.error.CompileError.TheVariants.{NoSuchTable}
use Rattle.sqlite_resolve.specs.Program.{query, program, Shown}
use Rattle.sqlite.specs.Effect.{is_query}
use Rattle.sqlite.specs.Listing.{understood, reads_listing, listing_schema, if_select}
use Rattle.sqlite_tied.specs.Compute.{everything}
use Rattle.docket_tables.specs.Texts.{scan_text}
use Rattle.docket_tables.specs.declared.table.Table.{Table}
use Rattle.docket_tables.specs.declared.table.Table.TheVariants as table

abbrev is_select_statement : Statement → Bool
is_select_statement (written.Select s) = true
is_select_statement _ = false

-- what a text compiles to on the listing of the schema
abbrev on_listing : Parsed → Checked Compiled
on_listing p = if_select (and_then (planned listing_schema p) (λ plan. Ok (with_command p plan)))

-- the text is one query, with no parameters, which does not read the time, and is none on the listing of the schema
abbrev IsQueryText : List ℕ → Checked Parsed → Type 0
IsQueryText sql (Ok p) = (is_select_statement p.statement ≡ true) × (p.names ≡ []) × (p.formats ≡ []) × (nat_le (length sql) p.tail ≡ true) × (on_listing p ≡ Err NoSuchTable)
IsQueryText sql (Err e) = ⊥

-- the same as one test, so that each text is parsed once
abbrev is_nil : List (List ℕ) → Bool
is_nil [] = true
is_nil (x ∷ xs) = false

abbrev is_missing : Checked Compiled → Bool
is_missing (Err NoSuchTable) = true
is_missing _ = false

abbrev is_query_text : List ℕ → Checked Parsed → Bool
is_query_text sql (Ok p) = is_select_statement p.statement && (is_nil p.names && (is_nil p.formats && (nat_le (length sql) p.tail && is_missing (on_listing p))))
is_query_text sql (Err e) = false

nil_from_test : (xs : List (List ℕ)) → is_nil xs ≡ true → xs ≡ []
nil_from_test [] is = refl
nil_from_test (x ∷ xs) is = absurd (false≢true is)

missing_from_test : (r : Checked Compiled) → is_missing r ≡ true → r ≡ Err NoSuchTable
missing_from_test (Err NoSuchTable) is = refl
missing_from_test _ is = absurd (false≢true is)

query_text_from_test : (sql : List ℕ) (r : Checked Parsed) → is_query_text sql r ≡ true → IsQueryText sql r
query_text_from_test sql (Ok p) is =
    let a = and_parts _ _ is in
    let b = and_parts _ _ a.1 in
    let c = and_parts _ _ b.1 in
    let d = and_parts _ _ c.1 in
    (a.0, nil_from_test p.names b.0, nil_from_test p.formats c.0, d.0, missing_from_test (on_listing p) d.1)
query_text_from_test sql (Err e) is = absurd (false≢true is)

text_passes : (t : Table) → is_query_text (scan_text t) (first (scan_text t)) ≡ true
unfolding everything listing_schema
text_passes table.Court = refl
text_passes t = refl

text_is_query : (t : Table) → IsQueryText (scan_text t) (first (scan_text t))
text_is_query t = query_text_from_test (scan_text t) (first (scan_text t)) (text_passes t)

text_lists_nothing : (t : Table) → if_select (compiled listing_schema (scan_text t)) ≡ Err NoSuchTable
unfolding compiled
text_lists_nothing t = at (first (scan_text t)) (text_is_query t)
  where
    at : (r : Checked Parsed) → IsQueryText (scan_text t) r → if_select (and_then r (λ p. and_then (planned listing_schema p) (λ plan. Ok (with_command p plan)))) ≡ Err NoSuchTable
    at (Ok p) is = is.4
    at (Err e) is = absurd is

-- what such a text compiles to under a schema that understands it: a query that writes nothing
pub record IsPlainQuery (sql : List ℕ) (c : Compiled) : Type 0 where
  pub returning : c.returning ≡ None
  pub formats : c.formats ≡ []
  pub names : c.names ≡ []
  pub query : is_query c.command ≡ true
  pub whole : length sql ≤ c.tail

the_select : (statement : Statement) → is_select_statement statement ≡ true → (s : Select) × (statement ≡ written.Select s)
the_select (written.Select s) is = (s, refl)
the_select _ is = absurd cc

read_is_query : (schema : Schema) (s : Select) (k : Command) → read schema s ≡ Ok k → is_query k ≡ true
unfolding read
read_is_query schema s k = at (query schema s)
  where
    second : (names : List (List ℕ)) (r : Checked Program) → and_then r (λ p. Ok (Run p names)) ≡ Ok k → is_query k ≡ true
    second names (Ok p) is = let same : Run p names ≡ k = cc in subst (λ x. is_query x ≡ true) same refl
    second names (Err e) is = absurd cc

    at : (r : Checked (Shown × List Let)) → and_then r (λ q. and_then (program schema q.1 q.0.0) (λ p. Ok (Run p q.0.1))) ≡ Ok k → is_query k ≡ true
    at (Ok q) is = second q.0.1 (program schema q.1 q.0.0) is
    at (Err e) is = absurd cc

abbrev plan_of : Schema → ℕ → Statement → List (List ℕ) → Checked (List (List ℕ) × (Command × Option Returning))
plan_of schema names statement formats =
    let times = timed schema formats statement in
    and_then (and_then (returning schema (names + small times) statement) (λ shown. and_then (command schema formats (names + small times) statement) (λ k. Ok (k, shown)))) (λ found. Ok (times, found))

compiled_plain : (schema : Schema) (sql : List ℕ) (c : Compiled) → IsQueryText sql (first sql) → compiled schema sql ≡ Ok c → IsPlainQuery sql c
unfolding compiled planned meaning returning timed command
compiled_plain schema sql c = at (first sql)
  where
    within : (m n : ℕ) → nat_le m n ≡ true → m ≤ n
    within m n e = grind (arith, nat_tests)

    last : (p : Parsed) (r : Checked Command) (s : Select) → ((k : Command) → r ≡ Ok k → is_query k ≡ true) → p.names ≡ [] → length sql ≤ p.tail
        → and_then (and_then (and_then r (λ k. Ok (k, None))) (λ found. Ok ([], found))) (λ plan. Ok (with_command p plan)) ≡ Ok c → IsPlainQuery sql c
    last p (Ok k) s queries unnamed whole is =
        let same : with_command p ([], (k, None)) ≡ c = cc in
        subst (IsPlainQuery sql) same (record { returning = refl; formats = refl; names = unnamed; query = queries k refl; whole = whole })
    last p (Err e) s queries unnamed whole is = absurd cc

    here : (p : Parsed) (s : Select) → p.statement ≡ written.Select s → p.names ≡ [] → p.formats ≡ [] → length sql ≤ p.tail → and_then (planned schema p) (λ plan. Ok (with_command p plan)) ≡ Ok c → IsPlainQuery sql c
    here p s statement unnamed untimed whole is =
        let as_select = subst (λ st. and_then (plan_of schema (small p.names) st p.formats) (λ plan. Ok (with_command p plan)) ≡ Ok c) statement is in
        let plain = subst (λ fs. and_then (plan_of schema (small p.names) (written.Select s) fs) (λ plan. Ok (with_command p plan)) ≡ Ok c) untimed as_select in
        last p (read schema s) s (read_is_query schema s) unnamed whole plain

    at : (r : Checked Parsed) → IsQueryText sql r → and_then r (λ p. and_then (planned schema p) (λ plan. Ok (with_command p plan))) ≡ Ok c → IsPlainQuery sql c
    at (Ok p) text is = let select = the_select p.statement text.0 in here p select.0 select.1 text.1 text.2 (within (length sql) p.tail text.3) is
    at (Err e) text is = absurd text

-- under any schema the statement of a table is a query that writes nothing, or nothing at all
pub understood_plain : (t : Table) (schema : Schema) (c : Compiled) → understood schema (scan_text t) ≡ Ok c → IsPlainQuery (scan_text t) c × (reads_listing schema (scan_text t) ≡ false)
unfolding understood
understood_plain t schema c = at (reads_listing schema (scan_text t)) refl
  where
    at : (b : Bool) → reads_listing schema (scan_text t) ≡ b → (if b then if_select (compiled listing_schema (scan_text t)) else compiled schema (scan_text t)) ≡ Ok c
        → IsPlainQuery (scan_text t) c × (reads_listing schema (scan_text t) ≡ false)
    at true reads is = absurd (let e = sym (text_lists_nothing t) ∙ is in cc)
    at false reads is = (compiled_plain schema (scan_text t) c (text_is_query t) is, reads)
