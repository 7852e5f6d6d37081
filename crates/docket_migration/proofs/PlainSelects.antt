-- What a SELECT of columns of one table, in the order of some of them, means under any schema that has the table.
use Rattle.std.proofs.Common.{◌≡◌, ◌∙◌, ◌-◌, ◌++◌, ◌&&◌, ◌+◌, ℕ, nat_lt, Bool, true, false, List, [], ◌∷◌, map, Ok, Some, None, Option, refl, sym, ap, subst, slice_get, negsuc}
use Rattle.std.proofs.lemmas.List.{append_assoc, append-nil}
use Rattle.std.specs.List.{position_from}
use Rattle.sqlite_ast.specs.declared.Expr.{Expr, out-Expr}
use Rattle.sqlite_ast.specs.declared.Expr.TheOpen.{Expr-F, Shown-F}
use Rattle.sqlite_ast.specs.declared.Shown.{Shown, out-Shown}
use Rattle.sqlite_ast.specs.declared.Sort.{Sort, out-Sort}
use Rattle.sqlite_sql.specs.Term.{Term, col}
use Rattle.sqlite_value.specs.declared.keys.Key.{Key}
use Rattle.sqlite_schema.specs.declared.schema.Schema.{Schema}
use Rattle.sqlite_schema.specs.declared.schema.Table.{Table}
use Rattle.sqlite_schema.specs.declared.schema.Column.{Column}
use Rattle.sqlite_schema.specs.Names.{column_named, place_of, same_name}
use Rattle.sqlite_resolve.specs.declared.scope.Bound.{Bound}
use Rattle.sqlite_resolve.specs.declared.scope.Found.TheVariants as found
use Rattle.sqlite_resolve.specs.declared.scope.Output.{Output}
use Rattle.sqlite_resolve.specs.declared.scope.Level.{Level}
use Rattle.sqlite_resolve.specs.declared.state.State.{State}
use Rattle.sqlite_resolve.specs.declared.state.Carried.{Carried}
use Rattle.sqlite_resolve.specs.Scope.{Name, Context, find, in_level, only, hit, column_in, is_among, term_of, column, column_at, declared}
use Rattle.sqlite_resolve.specs.Expr.{lower, lower_to, node, opened, passes}
use Rattle.sqlite_resolve.specs.Lowering.{spend, begin, finish, alone}
use Rattle.sqlite_ast.specs.declared.Core.{Core, out-Core}
use Rattle.sqlite_ast.specs.declared.Source.{Source, out-Source}
use Rattle.sqlite_ast.specs.declared.Select.{Select, out-Select}
use Rattle.sqlite_ast.specs.declared.Origin.TheVariants as origin
use Rattle.sqlite_schema.specs.Names.{table_named}
use Rattle.sqlite_draft.specs.declared.join.Step.TheVariants.{Inner}
use Rattle.sqlite_draft.specs.declared.query.Draft.{Draft}
use Rattle.sqlite_sql.specs.Term.{lit}
use Rattle.sqlite_sql.specs.Query.{end, inner}
use Rattle.sqlite_value.specs.declared.value.Value.TheVariants.{Int, Null}
use Rattle.sqlite_resolve.specs.Terms.{number}
use Rattle.sqlite_resolve.specs.Lowering.{fresh, max_budget, take_slot}
use Rattle.sqlite_resolve.specs.Select as select
use Rattle.sqlite_resolve.specs.Program as program
use Rattle.sqlite_resolve.specs.Body as body
use Rattle.sqlite_resolve.specs.Compile as compile
use Rattle.sqlite_resolve.specs.Lowering.{and_then}
use Rattle.sqlite_schema.specs.declared.command.Command.TheVariants.{Select as Run}
use Rattle.sqlite_typing.specs.Types.{accepts_program}
use Rattle.sqlite_sql.specs.Query.{Query}
use Rattle.sqlite_sql.specs.Program.{IsProgramAnswer, overlay}
use Rattle.sqlite.specs.Tree.{Trees}
use Rattle.sqlite.specs.Order.{Row}
use Rattle.std.specs.Prelude.{find as found_by, ◌==◌, nat_le, unwrap_or, ◌^◌}
use Rattle.std.proofs.Common.{IsPermutation, arith, cond, length}
use Rattle.std.proofs.lemmas.List.Sorted.{IsPermutation-sym}
use Rattle.sqlite.proofs.Callers.{one_permutation}
use Rattle.sqlite_sql.specs.Query.{Output as Shows, output}
use Rattle.sqlite_resolve.specs.Order as order

abbrev pub find_by_tree : ℕ → List Table → Option Table
find_by_tree tree tables = found_by (λ (t : Table). t.tree == tree) tables

not_overlaid : (db : Trees) (t : ℕ) → overlay db [] t ≡ db t
not_overlaid db t = elim (nat_le (2 ^ 31) t) as (λ b. unwrap_or (cond {A = Option (List Row)} b None None) (db t) ≡ db t) [ true ↦ refl | false ↦ refl ]

-- each column that is read costs one

abbrev pub Enough : {X : Type 0} → List X → ℕ → Type 0
Enough [] budget = Unit {0}
Enough (p ∷ ps) budget = (nat_lt 1 budget ≡ true) × Enough ps (budget - 1)

abbrev pub budget_after : {X : Type 0} → List X → ℕ → ℕ
budget_after [] budget = budget
budget_after (p ∷ ps) budget = budget_after ps (budget - 1)

module _ (a : Schema) (table_name : Name) (at : ℕ) (table : Table) (there : slice_get a.tables at ≡ Some table) where
  abbrev pub bounds : List Bound
  bounds = record { name = table_name; table = at; slot = 1; shared = [] } ∷ []

  abbrev pub level : List Output → Level
  level shown = record { tables = bounds; shown = shown }

  abbrev pub within : List Output → Bool → Context
  within shown aggregates = record { schema = a; levels = level shown ∷ []; may_aggregate = aggregates; may_alias = true }

  found_in : (shown : List Output) (aggregates : Bool) (name : Name) (k : ℕ) → column_named table name ≡ Some k → find (within shown aggregates) None name ≡ Ok (found.Column 1 at k)
  unfolding find in_level only hit column_in is_among
  found_in shown aggregates name k is = rw (there, is)

  column_there : (k : ℕ) (c : Column) → slice_get table.columns k ≡ Some c → column_at a 1 at k ≡ Ok (col 1 (place_of table k), declared table k c)
  unfolding column_at
  column_there k c is = rw (there, is)

  abbrev pub next : State → ℕ → Column → State
  next s k c = record s { budget = s.budget - 1; last = declared table k c }

  -- a column that the text names, and where the table has it
  pub record IsColumn (e : Expr) (k : ℕ) (c : Column) : Type 0 where
    pub name : Name
    pub is : out-Expr e ≡ Expr-F.Column None name
    pub named : column_named table name ≡ Some k
    pub has : slice_get table.columns k ≡ Some c

  lowered : (shown : List Output) (aggregates : Bool) (e : Expr) (k : ℕ) (c : Column) (s : State) → IsColumn e k c → nat_lt 1 s.budget ≡ true → s.written ≡ None
      → lower (within shown aggregates) e s ≡ Ok (col 1 (place_of table k), next s k c)
  unfolding lower_to node opened passes spend begin finish column term_of
  lowered shown aggregates e k c s it enough unwritten = rw (it.is, enough, found_in shown aggregates it.name k it.named, column_there k c it.has, unwritten)

  -- what the result shows

  abbrev pub output_of : ℕ × Column → Output
  output_of p = record { name = p.1.name; is_alias = false; is_column = true; term = col 1 (place_of table p.0); carried = declared table p.0 p.1 }

  abbrev pub ShowsColumns : List Shown → List (ℕ × Column) → Type 0
  ShowsColumns [] [] = Unit {0}
  ShowsColumns (s ∷ more) (p ∷ ps) = ((e : Expr) × (text : Name) × (out-Shown s ≡ Shown-F.One e None text) × IsColumn e p.0 p.1) × ShowsColumns more ps
  ShowsColumns _ _ = ⊥

  abbrev pub last_after : List (ℕ × Column) → Carried → Carried
  last_after [] last = last
  last_after (p ∷ ps) last = last_after ps (declared table p.0 p.1)

  abbrev pub after : List (ℕ × Column) → State → State
  after ps s = record s { budget = budget_after ps s.budget; last = last_after ps s.last }

  heading_is : (shown : List Output) (aggregates : Bool) (e : Expr) (k : ℕ) (c : Column) (text : Name) → IsColumn e k c → body.heading (within shown aggregates) e text ≡ c.name
  unfolding body.heading body.declared
  heading_is shown aggregates e k c text it = rw (it.is, found_in shown aggregates it.name k it.named, there, it.has)

  shown_one : (done : List Output) (s : Shown) (e : Expr) (text : Name) (k : ℕ) (c : Column) (st : State) → out-Shown s ≡ Shown-F.One e None text → IsColumn e k c → nat_lt 1 st.budget ≡ true → st.written ≡ None
      → body.shown lower (within [] true) bounds done s st ≡ Ok (done ++ output_of (k, c) ∷ [], next st k c)
  unfolding body.shown body.is_column
  shown_one done s e text k c st is it enough unwritten = rw (is, lowered [] true e k c st it enough unwritten, heading_is [] true e k c text it, it.is)

  outputs_are : (done : List Output) (items : List Shown) (ps : List (ℕ × Column)) (st : State) → ShowsColumns items ps → Enough ps st.budget → st.written ≡ None
      → body.outputs_from lower (within [] true) bounds done items st ≡ Ok (done ++ map output_of ps, after ps st)
  outputs_are done [] [] st are enough unwritten = ap (λ xs. Ok (xs, st)) (sym (append-nil done))
  outputs_are done [] (p ∷ ps) st are enough unwritten = absurd are
  outputs_are done (s ∷ more) [] st are enough unwritten = absurd are
  outputs_are done (s ∷ more) (p ∷ ps) st are enough unwritten =
      rw (shown_one done s are.0.0 are.0.1 p.0 p.1 st are.0.2 are.0.3 enough.0 unwritten)
      (outputs_are (done ++ output_of p ∷ []) more ps (next st p.0 p.1) are.1 enough.1 unwritten ∙ ap (λ xs. Ok (xs, after (p ∷ ps) st)) (append_assoc done (output_of p ∷ []) (map output_of ps)))

  -- how the rows are ordered

  abbrev pub key_of : ℕ × Column → Term × Key
  key_of p = (col 1 (place_of table p.0), record { collation = alone (declared table p.0 p.1); descending = false })

  abbrev pub SortsColumns : List Sort → List (ℕ × Column) → Type 0
  SortsColumns [] [] = Unit {0}
  SortsColumns (s ∷ more) (p ∷ ps) = (IsColumn (out-Sort s).key p.0 p.1 × ((out-Sort s).descending ≡ false) × ((out-Sort s).nulls_first ≡ None)) × SortsColumns more ps
  SortsColumns _ _ = ⊥

  no_alias : (name : Name) (i : ℕ) (ps : List (ℕ × Column)) → position_from (λ (o : Output). o.is_alias && same_name o.name name) i (map output_of ps) ≡ None
  no_alias name i [] = refl
  no_alias name i (p ∷ ps) = no_alias name (i + 1) ps

  sorted_one : (ps : List (ℕ × Column)) (done : List (Term × Key)) (s : Sort) (k : ℕ) (c : Column) (st : State) → IsColumn (out-Sort s).key k c → (out-Sort s).descending ≡ false → (out-Sort s).nulls_first ≡ None
      → nat_lt 1 st.budget ≡ true → st.written ≡ None
      → order.sort lower (within (map output_of ps) false) (map output_of ps) done s st ≡ Ok (done ++ key_of (k, c) ∷ [], next st k c)
  unfolding order.sort order.peeled order.alias_in order.key order.is_numeral order.collation_of order.written_on order.placed
  sorted_one ps done s k c st it up first enough unwritten =
      rw (it.is, it.is, no_alias it.name 0 ps, lowered (map output_of ps) false (out-Sort s).key k c st it enough unwritten, it.is, up, first)

  sorts_are : (ps : List (ℕ × Column)) (done : List (Term × Key)) (items : List Sort) (ks : List (ℕ × Column)) (st : State) → SortsColumns items ks → Enough ks st.budget → st.written ≡ None
      → order.sorts_from lower (within (map output_of ps) false) (map output_of ps) done items st ≡ Ok (done ++ map key_of ks, after ks st)
  sorts_are ps done [] [] st are enough unwritten = ap (λ xs. Ok (xs, st)) (sym (append-nil done))
  sorts_are ps done [] (p ∷ ks) st are enough unwritten = absurd are
  sorts_are ps done (s ∷ more) [] st are enough unwritten = absurd are
  sorts_are ps done (s ∷ more) (p ∷ ks) st are enough unwritten =
      rw (sorted_one ps done s p.0 p.1 st are.0.0 are.0.1 are.0.2 enough.0 unwritten)
      (sorts_are ps (done ++ key_of p ∷ []) more ks (next st p.0 p.1) are.1 enough.1 unwritten ∙ ap (λ xs. Ok (xs, after (p ∷ ks) st)) (append_assoc done (key_of p ∷ []) (map key_of ks)))

  -- the whole

  pub record IsPlain (s : Select) (ps ks : List (ℕ × Column)) : Type 0 where
    pub core : Core
    pub source : Source
    pub items : List Shown
    pub sorts : List Sort
    pub select_is : out-Select s ≡ record { with = []; first = core; others = []; order = sorts; limit = None; offset = None }
    pub core_is : out-Core core ≡ record { distinct = false; shown = items; from = source ∷ []; filter = None; group = []; having = None }
    pub source_is : out-Source source ≡ record { is_left = false; origin = origin.Table table_name; alias = None; on = None; using = [] }
    pub shows : ShowsColumns items ps
    pub orders : SortsColumns sorts ks
    pub enough : Enough ps max_budget
    pub enough_more : Enough ks (budget_after ps max_budget)

  module _ (s : Select) (ps ks : List (ℕ × Column)) (it : IsPlain s ps ks) (named : table_named a table_name ≡ Some at) where
    abbrev pub begun : State
    begun = record (fresh 1 max_budget) { next = 2 }

    abbrev pub outs : List Output
    outs = map output_of ps

    bounded : body.bounds a (it.source ∷ []) (fresh 1 max_budget) ≡ Ok (bounds, begun)
    unfolding body.bounds body.bound body.table_in take_slot
    bounded = rw (it.source_is, named)

    results : body.result lower (select.outermost a) (level []) it.core begun ≡ Ok (outs, after ps begun)
    unfolding body.result body.outputs
    results = rw it.core_is (outputs_are [] it.items ps begun it.shows it.enough refl)

    matches : (st : State) → body.matching lower (select.outermost a) (level outs) it.core st ≡ Ok (record { steps = Inner table.tree ∷ []; filter = [] }, st)
    unfolding body.matching body.joins body.join body.shared body.inner_join body.tests
    matches st = rw (it.core_is, it.source_is, there)

    body_is : body.body lower (select.outermost a) it.core (fresh 1 max_budget) ≡ Ok (record { level = level outs; steps = Inner table.tree ∷ []; filter = [] }, after ps begun)
    unfolding body.body
    body_is = rw (it.core_is, bounded, results, matches (after ps begun))

    ordered : order.sorts lower (within outs false) outs it.sorts (after ps begun) ≡ Ok (map key_of ks, after ks (after ps begun))
    unfolding order.sorts
    ordered = sorts_are ps [] it.sorts ks (after ps begun) it.orders it.enough_more refl

    abbrev pub page : Term × Term
    page = (lit (Int (negsuc 0)), number 0)

    abbrev pub draft : Draft
    draft = record { from = inner table.tree end; filter = []; group = None; project = map (λ (o : Output). o.term) outs; distinct = false; collations = []; order = map key_of ks; limit = page.0; offset = page.1 }

    named_is : select.named a it.core it.sorts page ≡ Ok (draft, map (λ (o : Output). o.name) outs, map (λ (o : Output). o.carried.collation) outs)
    unfolding select.named select.parts select.having select.assembled select.ungrouped order.keys body.tests
    named_is = rw (body_is, it.core_is, ordered)

    pub query_is : program.query a s ≡ Ok ((draft, map (λ (o : Output). o.name) outs, map (λ (o : Output). o.carried.collation) outs), [])
    unfolding program.query program.query_to program.level program.with program.whole program.alone program.single program.sources program.source program.viewing select.paging select.constant_or
    query_is = rw (it.select_is, it.core_is, it.source_is, named_is)

    -- and it reads the rows of that table's tree alone
    abbrev pub query_of_it : Query
    query_of_it = record { from = inner table.tree end; filter = []; group = None; project = map (λ (o : Output). o.term) outs; distinct = false; collations = []; order = map key_of ks; limit = page.0; offset = page.1 }

    pub read_is : compile.read a s ≡ and_then (program.program a [] draft) (λ p. Ok (Run p (map (λ (o : Output). o.name) outs)))
    unfolding compile.read
    read_is = rw query_is

-- under two schemas that find the same table

pub accepts_same : (a b : Schema) (table : Table) (q : Query) → q.from ≡ inner table.tree end → find_by_tree table.tree a.tables ≡ find_by_tree table.tree b.tables
    → accepts_program a [] q [] ≡ accepts_program b [] q []
accepts_same a b table q from same = rw (from, same)

pub answers_kept : (q : Query) (tree : ℕ) (old new : Trees) (rows : List Row) → q.from ≡ inner tree end → new tree ≡ old tree → IsProgramAnswer [] q old [] rows → IsProgramAnswer [] q new [] rows
answers_kept q tree old new rows from same answer lost =
    let a = answer lost in
    record {
      staged = a.staged;
      grouped = rw (from, overlaid) (rw from at a.grouped);
      kept = a.kept;
      distinct = a.distinct;
      ordered = a.ordered;
      same = a.same;
      sorted = a.sorted;
      shown = a.shown;
    }
  where
    overlaid : overlay new [] tree ≡ overlay old [] tree
    overlaid = not_overlaid new tree ∙ same ∙ sym (not_overlaid old tree)

-- a query that shows each row once, with no page
abbrev pub IsWhole : Query → Type 0
IsWhole q = (q.group ≡ None) × (q.distinct ≡ false) × (q.limit ≡ lit (Int (negsuc 0))) × (q.offset ≡ number 0)

one_output : (x : Row) (outs : List Shows) → x ∷ [] ≡ map (λ o. o.1) outs → (o : Shows) × (outs ≡ o ∷ []) × (x ≡ o.1)
one_output x [] is = absurd (let e = ap length is in cc)
one_output x (o ∷ []) is = (o, refl, let e = is in cc)
one_output x (o ∷ p ∷ outs) is = absurd (let e = ap length is in omega (arith, e))

-- has one answer, if that is one row
pub one_answer : (q : Query) → IsWhole q → (db : Trees) (x y : Row) → IsProgramAnswer [] q db [] (x ∷ []) → IsProgramAnswer [] q db [] (y ∷ []) → x ≡ y
one_answer q whole db x y answer other =
    let a = answer Null in
    let b = other Null in
    let first = one_output x a.ordered (rw (whole.2, whole.3) at a.shown) in
    let second = one_output y b.ordered (rw (whole.2, whole.3) at b.shown) in
    let a_staged = rw whole.0 at a.grouped in
    let b_staged = rw whole.0 at b.grouped in
    let a_kept : a.kept ≡ map (output q) a.staged = rw whole.1 at a.distinct in
    let b_kept : b.kept ≡ map (output q) b.staged = rw whole.1 at b.distinct in
    let a_one = one_permutation first.0 a.kept (IsPermutation-sym a.kept (first.0 ∷ []) (subst (IsPermutation a.kept) first.1 a.same)) in
    let b_one = one_permutation second.0 b.kept (IsPermutation-sym b.kept (second.0 ∷ []) (subst (IsPermutation b.kept) second.1 b.same)) in
    let same : first.0 ∷ [] ≡ second.0 ∷ [] = sym a_one ∙ a_kept ∙ ap (map (output q)) (a_staged ∙ sym b_staged) ∙ sym b_kept ∙ b_one in
    let outputs : first.0 ≡ second.0 = cc in
    first.2 ∙ ap (λ (o : Shows). o.1) outputs ∙ sym second.2
