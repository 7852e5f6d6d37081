-- A table that stands under a schema is read alike under one that goes on from it.
use Rattle.std.proofs.Common.{◌≡◌, ◌∙◌, ◌+◌, ◌-◌, ◌≤◌, ◌&&◌, ◌==◌, if◌then◌else◌, ℕ, zero, suc, Bool, true, false, List, [], ◌∷◌, ◌++◌, length, take, map, Ok, Err, Some, None, refl, sym, ap, subst, slice_get, arith}
use Rattle.std.specs.List.{list_any}
use Rattle.std.proofs.lemmas.Bool.{and_parts}
use Rattle.std.proofs.lemmas.Bool.Decides.{nat_tests}
use Rattle.sqlite_ast.specs.declared.Shown.{Shown}
use Rattle.sqlite_ast.specs.declared.Sort.{Sort}
use Rattle.sqlite_syntax.specs.declared.statement.Parsed.{Parsed}
use Rattle.sqlite_schema.specs.Names.{same_name, table_named, column_named}
use Rattle.sqlite_schema.specs.declared.schema.Schema.{Schema}
use Rattle.sqlite_schema.specs.declared.schema.Table.{Table as Shape}
use Rattle.sqlite_schema.specs.declared.schema.Column.{Column}
use Rattle.sqlite_schema.specs.declared.command.Command.{Command}
use Rattle.sqlite_schema.specs.declared.command.Command.TheVariants.{Select as Run}
use Rattle.sqlite_resolve.specs.Compile.{compiled, first, planned, meaning, returning, timed, command, read, with_command}
use Rattle.sqlite_resolve.specs.Lowering.{Checked, and_then}
use Rattle.sqlite_resolve.specs.Program as program
use Rattle.sqlite_resolve.specs.declared.error.CompileError.TheVariants.{Mismatch}
use Rattle.sqlite_resolve.specs.declared.scope.Output.{Output}
use Rattle.sqlite_sql.specs.Query.{Query, end, inner}
use Rattle.sqlite_resolve.specs.declared.compiled.Compiled.{Compiled}
use Rattle.sqlite_trees.specs.Tree.{IsAscending}
use Rattle.sqlite_catalog.proofs.StepLemmas.{named_once}
use Rattle.sqlite_catalog.proofs.SoundLemmas.{lowered}
use Rattle.sqlite_typing.specs.Types.{accepts_program}
use Rattle.sqlite.specs.Effect.{Reads}
use Rattle.sqlite.specs.Listing.{understood, reads_listing, if_select, misses_table, listing_schema}
use Rattle.sqlite.specs.Order.{Row}
use Rattle.sqlite.specs.State.{State}
use Rattle.docket_scan.specs.Scans.{AreRowsOf}
use Rattle.docket_scan.specs.Shapes.{columns_of, has_columns, has_table, name_of}
use Rattle.docket_tables.specs.Texts.{scan_text}
use Rattle.docket_scan.proofs.AnySchema.{understood_plain}
use Rattle.docket_tables.specs.declared.table.Table.{Table}
use Rattle.docket_tables.specs.declared.table.Table.TheVariants.{Court, Calendar, Cases, Parties, Entries, Deadlines, Acts, Receipts, Due, ShortDays, LocalRules}
use Rattle.docket_migration.proofs.ListLemmas.{found_on, placed, placed_on, slice_has, slice_on}
use Rattle.docket_migration.proofs.PlainSelects.{Enough, IsPlain, ShowsColumns, SortsColumns, accepts_same, answers_kept, budget_after, IsWhole, find_by_tree, one_answer, outs, query_of_it, read_is}
use Rattle.docket_migration.proofs.ScanTexts.{IsTextOf, OnParsed, ShowsNames, SortsNames, key_width, keys_of, text_is}

abbrev Name : Type 0
Name = List ℕ

-- where a table has columns of these names

module _ (table : Shape) where
  abbrev pub Places : List Name → List (ℕ × Column) → Type 0
  Places [] [] = Unit {0}
  Places (name ∷ names) (p ∷ ps) = (column_named table name ≡ Some p.0) × (slice_get table.columns p.0 ≡ Some p.1) × Places names ps
  Places _ _ = ⊥

  places_of : (names : List Name) → has_columns table.columns names ≡ true → (ps : List (ℕ × Column)) × Places names ps
  places_of [] has = ([], tt)
  places_of (name ∷ names) has =
      let both = and_parts _ _ has in
      let one = placed (λ (c : Column). same_name c.name name) 0 table.columns both.0 in
      let more = places_of names both.1 in
      ((one.at, one.element) ∷ more.0, (one.place ∙ ap Some (omega arith), one.is, more.1))

  first_places : (n : ℕ) (names : List Name) (ps : List (ℕ × Column)) → Places names ps → Places (take n names) (take n ps)
  first_places zero names ps are = tt
  first_places (suc n) [] [] are = tt
  first_places (suc n) [] (p ∷ ps) are = absurd are
  first_places (suc n) (name ∷ names) [] are = absurd are
  first_places (suc n) (name ∷ names) (p ∷ ps) are = (are.0, are.1, first_places n names ps are.2)

  as_many : (names : List Name) (ps : List (ℕ × Column)) → Places names ps → length ps ≡ length names
  as_many [] [] are = refl
  as_many [] (p ∷ ps) are = absurd are
  as_many (name ∷ names) [] are = absurd are
  as_many (name ∷ names) (p ∷ ps) are = ap suc (as_many names ps are.2)

module _ (a : Schema) (table_name : Name) (at : ℕ) (table : Shape) (there : slice_get a.tables at ≡ Some table) where
  shows_columns : (items : List Shown) (names : List Name) (ps : List (ℕ × Column)) → ShowsNames items names → Places table names ps → ShowsColumns a table_name at table there items ps
  shows_columns [] [] [] shows are = tt
  shows_columns [] [] (p ∷ ps) shows are = absurd are
  shows_columns [] (name ∷ names) ps shows are = absurd shows
  shows_columns (s ∷ more) [] ps shows are = absurd shows
  shows_columns (s ∷ more) (name ∷ names) [] shows are = absurd are
  shows_columns (s ∷ more) (name ∷ names) (p ∷ ps) shows are =
      ((shows.0.0, shows.0.1, shows.0.2, record { name = name; is = shows.0.3; named = are.0; has = are.1 }), shows_columns more names ps shows.1 are.2)

  sorts_columns : (items : List Sort) (names : List Name) (ps : List (ℕ × Column)) → SortsNames items names → Places table names ps → SortsColumns a table_name at table there items ps
  sorts_columns [] [] [] shows are = tt
  sorts_columns [] [] (p ∷ ps) shows are = absurd are
  sorts_columns [] (name ∷ names) ps shows are = absurd shows
  sorts_columns (s ∷ more) [] ps shows are = absurd shows
  sorts_columns (s ∷ more) (name ∷ names) [] shows are = absurd are
  sorts_columns (s ∷ more) (name ∷ names) (p ∷ ps) sorts are =
      ((record { name = name; is = sorts.0.0; named = are.0; has = are.1 }, sorts.0.1, sorts.0.2), sorts_columns more names ps sorts.1 are.2)

-- there is enough to read so many
enough : {X : Type 0} (xs : List X) (budget : ℕ) → length xs + 2 ≤ budget → Enough xs budget
enough [] budget low = tt
enough (x ∷ xs) budget low = (grind (arith, nat_tests, low), enough xs (budget - 1) (omega (arith, low)))

left_over : {X : Type 0} (xs : List X) (budget : ℕ) → budget_after xs budget ≡ budget - length xs
left_over [] budget = omega arith
left_over (x ∷ xs) budget = left_over xs (budget - 1) ∙ omega arith

-- the first table of a name, which has the columns

pub record IsThere (t : Table) (a : Schema) : Type 0 where
  pub at : ℕ
  pub table : Shape
  pub named : table_named a (name_of t) ≡ Some at
  pub is : slice_get a.tables at ≡ Some table
  pub columns : has_columns table.columns (columns_of t) ≡ true
  pub same : same_name table.name (name_of t) ≡ true

abbrev pub IsNamedOnce : Schema → Type 0
IsNamedOnce a = IsAscending (λ s t. same_name s.name t.name ≡ false) a.tables

same_together : (a b name : Name) → same_name a name ≡ true → same_name b name ≡ true → same_name a b ≡ true
same_together a b name p q = (lowered a b).1 ((lowered a name).0 p ∙ sym ((lowered b name).0 q))

some_named : (t : Table) (tables : List Shape) → list_any (λ (found : Shape). same_name found.name (name_of t) && has_columns found.columns (columns_of t)) tables ≡ true
    → list_any (λ (found : Shape). same_name found.name (name_of t)) tables ≡ true
some_named t [] any = any
some_named t (x ∷ xs) any = go (some_named t xs) (same_name x.name (name_of t)) refl any
  where
    go : (list_any (λ (found : Shape). same_name found.name (name_of t) && has_columns found.columns (columns_of t)) xs ≡ true → list_any (λ (found : Shape). same_name found.name (name_of t)) xs ≡ true)
        → (b : Bool) → same_name x.name (name_of t) ≡ b
        → list_any (λ (found : Shape). same_name found.name (name_of t) && has_columns found.columns (columns_of t)) (x ∷ xs) ≡ true → list_any (λ (found : Shape). same_name found.name (name_of t)) (x ∷ xs) ≡ true
    go rest true e h = rw e
    go rest false e h = rw e (rest (rw e at h))

pub there_in : (t : Table) (a : Schema) → IsNamedOnce a → has_table a t ≡ true → IsThere t a
there_in t a once has =
    let first_one = placed (λ (found : Shape). same_name found.name (name_of t)) 0 a.tables (some_named t a.tables has) in
    let whole = placed (λ (found : Shape). same_name found.name (name_of t) && has_columns found.columns (columns_of t)) 0 a.tables has in
    let both = and_parts _ _ whole.passes in
    let same : first_one.element ≡ whole.element = named_once a.tables first_one.element whole.element once (slice_has first_one.at first_one.element a.tables first_one.is) (slice_has whole.at whole.element a.tables whole.is)
    (same_together first_one.element.name whole.element.name (name_of t) first_one.passes both.0) in
    record {
      at = first_one.at;
      table = first_one.element;
      named = first_one.place ∙ ap Some (omega arith);
      is = first_one.is;
      columns = subst (λ (x : Shape). has_columns x.columns (columns_of t) ≡ true) (sym same) both.1;
      same = first_one.passes;
    }

-- the same table where the schema goes on
unfoldable pub there_on : (t : Table) (a b : Schema) (more : List Shape) → b.tables ≡ a.tables ++ more → IsThere t a → IsThere t b
there_on t a b more on it = record {
  at = it.at;
  table = it.table;
  named = rw on (placed_on (λ (found : Shape). same_name found.name (name_of t)) 0 it.at a.tables more it.named);
  is = rw on (slice_on it.at it.table a.tables more it.is);
  columns = it.columns;
  same = it.same;
}

-- what the statement of the table means under the schema

few_columns : (t : Table) → length (columns_of t) ≤ 9
few_columns t = elim t as (λ t. length (columns_of t) ≤ 9) [ Court ↦ omega arith | Calendar ↦ omega arith | Cases ↦ omega arith | Parties ↦ omega arith | Entries ↦ omega arith | Deadlines ↦ omega arith | Acts ↦ omega arith | Receipts ↦ omega arith | Due ↦ omega arith | ShortDays ↦ omega arith | LocalRules ↦ omega arith ]

few_keys : (t : Table) → length (keys_of t) ≤ 9
few_keys t = elim t as (λ t. length (keys_of t) ≤ 9) [ Court ↦ omega arith | Calendar ↦ omega arith | Cases ↦ omega arith | Parties ↦ omega arith | Entries ↦ omega arith | Deadlines ↦ omega arith | Acts ↦ omega arith | Receipts ↦ omega arith | Due ↦ omega arith | ShortDays ↦ omega arith | LocalRules ↦ omega arith ]

-- a query is the command of its text, and nothing comes back beside its rows
flattened : (p : Parsed) (r : Checked Command) → and_then (and_then (and_then r (λ k. Ok (k, None))) (λ found. Ok ([], found))) (λ plan. Ok (with_command p plan)) ≡ and_then r (λ k. Ok (with_command p ([], (k, None))))
flattened p (Ok k) = refl
flattened p (Err e) = refl

module _ (t : Table) (p : Parsed) (formats : p.formats ≡ []) (text : IsTextOf t p) where
  meaning_is : (a : Schema) → and_then (planned a p) (λ plan. Ok (with_command p plan)) ≡ and_then (read a text.select) (λ k. Ok (with_command p ([], (k, None))))
  unfolding planned meaning returning timed command
  meaning_is a = rw (text.statement, formats) (flattened p (read a text.select))

  module _ (a : Schema) (it : IsThere t a) (ps : List (ℕ × Column)) (are : Places it.table (columns_of t) ps) where
    abbrev ks : List (ℕ × Column)
    ks = take (key_width t) ps

    keys_are : Places it.table (keys_of t) ks
    keys_are = first_places it.table (key_width t) (columns_of t) ps are

    plain : IsPlain a (name_of t) it.at it.table it.is text.select ps ks
    plain =
        let many : length ps ≡ length (columns_of t) = as_many it.table (columns_of t) ps are in
        let many_keys : length ks ≡ length (keys_of t) = as_many it.table (keys_of t) ks keys_are in
        record {
          core = text.core;
          source = text.source;
          items = text.items;
          sorts = text.sorts;
          select_is = text.select_is;
          core_is = text.core_is;
          source_is = text.source_is;
          shows = shows_columns a (name_of t) it.at it.table it.is text.items (columns_of t) ps text.shows are;
          orders = sorts_columns a (name_of t) it.at it.table it.is text.sorts (keys_of t) ks text.orders keys_are;
          enough = enough ps 100000 (omega (arith, many, few_columns t));
          enough_more = enough ks (budget_after ps 100000) (omega (arith, left_over ps 100000, many, few_columns t, many_keys, few_keys t));
        }

    abbrev query : Query
    query = query_of_it a (name_of t) it.at it.table it.is text.select ps ks plain it.named

    abbrev names : List Name
    names = map (λ (o : Output). o.name) (outs a (name_of t) it.at it.table it.is text.select ps ks plain it.named)

    abbrev if_accepted : Bool → Checked Command
    if_accepted passes = and_then (if passes then Ok (record { lets = []; body = query }) else Err Mismatch) (λ q. Ok (Run q names))

    reads : read a text.select ≡ if_accepted (accepts_program a [] query [])
    unfolding program.program
    reads = read_is a (name_of t) it.at it.table it.is text.select ps ks plain it.named

  -- what it is, where it is anything
  pub record IsQueryOf (tree : ℕ) (c : Compiled) : Type 0 where
    pub names : List Name
    pub query : Query
    pub from : query.from ≡ inner tree end
    pub whole : IsWhole query
    pub command_is : c.command ≡ Run (record { lets = []; body = query }) names

  query_is : (a : Schema) (it : IsThere t a) (c : Compiled) → and_then (planned a p) (λ plan. Ok (with_command p plan)) ≡ Ok c → IsQueryOf it.table.tree c
  query_is a it c is =
      let found = places_of it.table (columns_of t) it.columns in
      go found.0 found.1 (accepts_program a [] (query a it found.0 found.1) []) (ap (λ r. and_then r (λ k. Ok (with_command p ([], (k, None))))) (sym (reads a it found.0 found.1)) ∙ sym (meaning_is a) ∙ is)
    where
      go : (ps : List (ℕ × Column)) (are : Places it.table (columns_of t) ps) (b : Bool) → and_then (if_accepted a it ps are b) (λ k. Ok (with_command p ([], (k, None)))) ≡ Ok c → IsQueryOf it.table.tree c
      go ps are true e =
          let same : with_command p ([], (Run (record { lets = []; body = query a it ps are }) (names a it ps are), None)) ≡ c = cc in
          record { names = names a it ps are; query = query a it ps are; from = refl; whole = (refl, refl, refl, refl); command_is = ap (λ (x : Compiled). x.command) (sym same) }
      go ps are false e = absurd cc

  -- and so it is where the schema goes on
  meanings_same : (a b : Schema) (more : List Shape) (on : b.tables ≡ a.tables ++ more) (it : IsThere t a) → find_by_tree it.table.tree a.tables ≡ find_by_tree it.table.tree b.tables
      → and_then (planned a p) (λ plan. Ok (with_command p plan)) ≡ and_then (planned b p) (λ plan. Ok (with_command p plan))
  unfolding there_on
  meanings_same a b more on it found =
      let later = there_on t a b more on it in
      let cs = places_of it.table (columns_of t) it.columns in
      let one : read a text.select ≡ read b text.select =
      reads a it cs.0 cs.1 ∙ ap (if_accepted a it cs.0 cs.1) (accepts_same a b it.table (query a it cs.0 cs.1) refl found) ∙ sym (reads b later cs.0 cs.1) in
      meaning_is a ∙ ap (λ r. and_then r (λ k. Ok (with_command p ([], (k, None))))) one ∙ sym (meaning_is b)

module _ (t : Table) (a b : Schema) (more : List Shape) (on : b.tables ≡ a.tables ++ more) (it : IsThere t a) where
  same_found : find_by_tree it.table.tree a.tables ≡ find_by_tree it.table.tree b.tables
  same_found =
      let itself : (it.table.tree == it.table.tree) ≡ true = grind (arith, nat_tests) in
      sym (rw on (found_on (λ (x : Shape). x.tree == it.table.tree) it.at it.table a.tables more it.is itself))

  compiled_same : compiled a (scan_text t) ≡ compiled b (scan_text t)
  unfolding compiled
  compiled_same = go (first (scan_text t)) (text_is t)
    where
      go : (r : Checked Parsed) → OnParsed t r → and_then r (λ p. and_then (planned a p) (λ plan. Ok (with_command p plan))) ≡ and_then r (λ p. and_then (planned b p) (λ plan. Ok (with_command p plan)))
      go (Ok p) text = meanings_same t p text.0 text.1 a b more on it same_found
      go (Err e) text = absurd text

  understood_same : understood a (scan_text t) ≡ understood b (scan_text t)
  unfolding understood
  understood_same = ap (λ r. if misses_table r then if_select (compiled listing_schema (scan_text t)) else r) compiled_same

  pub record IsRead (c : Compiled) : Type 0 where
    pub names : List Name
    pub query : Query
    pub from : query.from ≡ inner it.table.tree end
    pub whole : IsWhole query
    pub command_is : c.command ≡ Run (record { lets = []; body = query }) names

  compiled_query : (c : Compiled) → compiled a (scan_text t) ≡ Ok c → IsRead c
  unfolding compiled
  compiled_query c = go (first (scan_text t)) (text_is t)
    where
      go : (r : Checked Parsed) → OnParsed t r → and_then r (λ p. and_then (planned a p) (λ plan. Ok (with_command p plan))) ≡ Ok c → IsRead c
      go (Ok p) text e = let found = query_is t p text.0 text.1 a it c e in record { names = found.names; query = found.query; from = found.from; whole = found.whole; command_is = found.command_is }
      go (Err f) text e = absurd text

  understood_compiled : (c : Compiled) → understood a (scan_text t) ≡ Ok c → compiled a (scan_text t) ≡ Ok c
  unfolding understood
  understood_compiled c known = go (reads_listing a (scan_text t)) (understood_plain t a c known).1 known
    where
      go : (b : Bool) → b ≡ false → (if b then if_select (compiled listing_schema (scan_text t)) else compiled a (scan_text t)) ≡ Ok c → compiled a (scan_text t) ≡ Ok c
      go true never h = absurd cc
      go false never h = h

  read_of : (s : State) (c : Compiled) → s.now.schema ≡ a → understood s.now.schema (scan_text t) ≡ Ok c → IsRead c
  read_of s c is known = compiled_query c (understood_compiled c (ap (λ k. understood k (scan_text t)) (sym is) ∙ known))

  -- the rows of the table are those that they were
  pub rows_kept : (old new : State) (rows : List Row) → old.now.schema ≡ a → new.now.schema ≡ b → new.now.trees it.table.tree ≡ old.now.trees it.table.tree → AreRowsOf t old rows → AreRowsOf t new rows
  rows_kept old new rows first_is then_is same h =
      let q = read_of old h.0 first_is h.1 in
      let read_then = subst (λ k. Reads k old.now [] rows) q.command_is h.2 in (
        h.0,
        ap (λ s. understood s (scan_text t)) then_is ∙ sym understood_same ∙ ap (λ s. understood s (scan_text t)) (sym first_is) ∙ h.1,
        subst (λ k. Reads k new.now [] rows) (sym q.command_is) (record {
          typed = ap (λ s. accepts_program s [] q.query []) then_is ∙ sym (accepts_same a b it.table q.query q.from same_found) ∙ ap (λ s. accepts_program s [] q.query []) (sym first_is) ∙ read_then.typed;
          answer = answers_kept q.query it.table.tree old.now.trees new.now.trees rows q.from same read_then.answer;
        }),
      )

  -- a table that holds one row holds no other
  pub one_row : (s : State) (x y : Row) → s.now.schema ≡ a → AreRowsOf t s (x ∷ []) → AreRowsOf t s (y ∷ []) → x ≡ y
  one_row s x y is h k =
      let both : Ok h.0 ≡ Ok k.0 = sym h.1 ∙ k.1 in
      let same : k.0 ≡ h.0 = cc in
      let q = read_of s h.0 is h.1 in
      let first_read = subst (λ c. Reads c s.now [] (x ∷ [])) q.command_is h.2 in
      let second_read = subst (λ c. Reads c s.now [] (y ∷ [])) q.command_is (subst (λ (c : Compiled). Reads c.command s.now [] (y ∷ [])) same k.2) in
      one_answer q.query q.whole s.now.trees x y first_read.answer second_read.answer
