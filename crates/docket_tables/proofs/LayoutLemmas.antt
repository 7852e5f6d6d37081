-- What an INSERT of each table means, and what one more row makes of all tables.
use Rattle.std.proofs.Common.{◌≡◌, ◌≢◌, ◌==◌, ◌∙◌, ℕ, ℤ, zero, suc, List, [], ◌∷◌, ◌++◌, map, find, length, slice_get, Bool, true, false, cond, drop, take, ◌/◌, Some, Result, Ok, IsTrue, refl, sym, ap, ap₂, subst, arith}
use Rattle.std.specs.List.{AllByRecursion}
use Rattle.std.proofs.lemmas.Bool.{false≢true}
use Rattle.std.proofs.lemmas.Bool.Decides.{nat_tests}
use Rattle.sqlite.specs.declared.types.Value.{Value}
use Rattle.sqlite.specs.declared.types.Value.TheVariants as value
use Rattle.sqlite.specs.declared.types.Value.TheVariants.{Null, Int}
use Rattle.sqlite.specs.Kind.{Kind}
use Rattle.sqlite.specs.Kind.TheVariants.{Integer, Text}
use Rattle.sqlite.specs.Order.{Row, column}
use Rattle.sqlite.specs.Table.{Table as Shape}
use Rattle.sqlite.specs.Tree.{Trees}
use Rattle.sqlite.specs.Cast.{cast, cast_all}
use Rattle.sqlite.specs.Edit.{with_rowid}
use Rattle.sqlite_rules.specs.Edit.{is_chosen, at_least, next_rowid}
use Rattle.sqlite.specs.Rowids.TheVariants.{Chosen}
use Rattle.sqlite.specs.Term.{Term, lit, col, eval_all}
use Rattle.sqlite.specs.Command.{Command}
use Rattle.sqlite.specs.Command.TheVariants.{Insert}
use Rattle.sqlite.specs.Source.TheVariants.{Values}
use Rattle.sqlite.specs.State.{State, Executes, Shows as Turns}
use Rattle.sqlite_trees.specs.Tree.{rowid}
use Rattle.sqlite_trees.specs.View.{is_int}
use Rattle.sqlite_resolve.specs.Compile.{compiled}
use Rattle.sqlite_resolve.specs.declared.compiled.Compiled.{Compiled}
use Rattle.sqlite_resolve.specs.declared.error.CompileError.{CompileError}
use Rattle.sqlite_rules.specs.Action.{Work, works}
use Rattle.sqlite_schema.specs.declared.schema.Keys.TheVariants.{Enforced}
use Rattle.sqlite_tied.specs.Compute.{everything}
use Rattle.docket_tables.specs.declared.table.Table.{Table}
use Rattle.docket_tables.specs.Holds.{Holds, KeepsOthers, cells}
use Rattle.docket_tables.specs.Layouts.{Rows, AreRows, Fits, are_of, with_rows, with_row}
use Rattle.docket_tables.specs.Schema.{docket_schema, tree_of, places_of, shape_of, places_by, kinds_by, columns_by, column_of}
use Rattle.docket_tables.specs.Stands.{Sees}
use Rattle.docket_tables.specs.Tables.{Field, layout_of, tables}
use Rattle.docket_tables.specs.Texts.{counted, insert_text, parameter}
use Rattle.docket_tables.proofs.CellLemmas.{cast_int, cast_null, holds_more, holds_same}
use Rattle.docket_tables.proofs.EachLemmas.{each_table}
use Rattle.docket_tables.proofs.InsertLemmas.{InsertsInto, inserts}
use Rattle.docket_tables.proofs.TextLemmas.{IsRead, whole_text, is_read, read_command, read_plain}

abbrev pub terms_by : Bool → List Field → List Term
terms_by true [] = []
terms_by true (field ∷ more) = col 0 0 ∷ lit Null ∷ map (col 0) (counted 1 more)
terms_by false fields = lit Null ∷ map (col 0) (counted 0 fields)

abbrev pub terms_of : Table → List Term
terms_of table = let l = layout_of table in terms_by l.is_rowid l.fields

-- the command that the text of an INSERT is read as
abbrev pub insert_command : Table → Command
insert_command table = Insert (layout_of table).at (Values (terms_of table) (suc (length (layout_of table).fields)))

abbrev pub parameters_of : Table → List (List ℕ)
parameters_of table = map parameter (counted 1 (layout_of table).fields)

abbrev meaning_of : Table → Result Compiled CompileError
meaning_of table = compiled docket_schema (insert_text table)

abbrev wanted_of : Table → Result Compiled CompileError
wanted_of table = Ok (whole_text (insert_text table) (insert_command table) (parameters_of table))

all_read : map meaning_of tables ≡ map wanted_of tables
unfolding everything
all_read = refl

pub insert_read : (table : Table) → IsRead docket_schema (insert_text table) (insert_command table) (parameters_of table)
insert_read table = is_read (each_table meaning_of wanted_of all_read table)

-- each table stands in the schema at its place
stands_at : (table : Table) → slice_get docket_schema.tables (layout_of table).at ≡ Some (shape_of table)
stands_at = each_table (λ t. slice_get docket_schema.tables (layout_of t).at) (λ t. Some (shape_of t)) refl

pub insert_means : (table : Table) → InsertsInto docket_schema (insert_text table) (shape_of table) (terms_of table)
insert_means table =
    let read = insert_read table in
    record {
      at = (layout_of table).at;
      width = suc (length (layout_of table).fields);
      is = read_command read;
      plain = read_plain read;
      place = stands_at table;
      one = each_table (λ t. length (terms_of t) / suc (length (layout_of t).fields)) (λ t. 1) refl table;
      wide = each_table (λ t. take (suc (length (layout_of t).fields)) (terms_of t)) terms_of refl table;
      uncounted = refl;
      unstamped = refl;
      no_work = λ row. ap (λ (f : Row → List Work). f row) (each_table (λ t r. works docket_schema Enforced 0 (shape_of t).tree [] (r ∷ [])) (λ t r. []) refl table);
    }

pub all_at : {X : Type 0} (P : X → Type 0) (xs : List X) (n : ℕ) (x : X) → AllByRecursion P xs → slice_get xs n ≡ Some x → P x
all_at P [] n x all is = absurd cc
all_at P (y ∷ ys) zero x all is = let same : y ≡ x = cc in subst P same all.0
all_at P (y ∷ ys) (suc n) x all is = all_at P ys n x all.1 is

-- what holds of the tables of the schema holds of each table
pub of_each : (P : Shape → Type 0) → AllByRecursion P docket_schema.tables → (table : Table) → P (shape_of table)
of_each P all table = all_at P docket_schema.tables (layout_of table).at (shape_of table) all (stands_at table)

-- tables have trees of their own
at_its_tree : (table : Table) → find (λ other. tree_of other == tree_of table) tables ≡ Some table
at_its_tree = each_table (λ t. find (λ other. tree_of other == tree_of t) tables) (λ t. Some t) refl

pub same_table : (a b : Table) → tree_of a ≡ tree_of b → a ≡ b
same_table a b e =
    let same : Some a ≡ Some b = sym (at_its_tree a) ∙ ap (λ n. find (λ other. tree_of other == n) tables) e ∙ at_its_tree b in
    cc

pub others_same : (tree : ℕ) (old new : Trees) → KeepsOthers docket_schema tree old new → (other : Table) → tree_of other ≢ tree → new (tree_of other) ≡ old (tree_of other)
others_same tree old new keeps other = of_each (λ t. t.tree ≢ tree → new t.tree ≡ old t.tree) keeps other

-- values of their kinds, one after another

pub no_value : (kind : Kind) (kinds : List Kind) → are_of (kind ∷ kinds) [] ≡ true → ⊥
no_value Integer kinds fits = false≢true fits
no_value _ kinds fits = false≢true fits

pub first_value : (kind : Kind) (v : Value) (kinds : List Kind) (row : Row) → are_of (kind ∷ kinds) (v ∷ row) ≡ true → (cast kind v ≡ v) × (are_of kinds row ≡ true)
first_value Integer (Int n) kinds row fits = (cast_int n, fits)
first_value Text (value.Text t) kinds row fits = (refl, fits)
first_value _ _ kinds row fits = absurd (false≢true fits)

abbrev pub kinds : List Field → List Kind
kinds fields = map (λ (field : Field). field.kind) fields

each_cast : (fields : List Field) (row : Row) → are_of (kinds fields) row ≡ true → cast_all (map column_of fields) row ≡ row
each_cast [] [] fits = refl
each_cast [] (v ∷ row) fits = absurd (false≢true fits)
each_cast (field ∷ more) [] fits = absurd (no_value field.kind (kinds more) fits)
each_cast (field ∷ more) (v ∷ row) fits =
    let first = first_value field.kind v (kinds more) row fits in ap₂ (λ x xs. x ∷ xs) first.0 (each_cast more row first.1)

shifted : {X : Type 0} (first : Value) (row : Row) (n : ℕ) (xs : List X) → map (column (first ∷ row)) (counted (suc n) xs) ≡ map (column row) (counted n xs)
shifted first row n [] = refl
shifted first row n (x ∷ xs) = ap (λ more. column row n ∷ more) (shifted first row (suc n) xs)

each_column : (fields : List Field) (row : Row) → are_of (kinds fields) row ≡ true → map (column row) (counted 0 fields) ≡ row
each_column [] [] fits = refl
each_column [] (v ∷ row) fits = absurd (false≢true fits)
each_column (field ∷ more) [] fits = absurd (no_value field.kind (kinds more) fits)
each_column (field ∷ more) (v ∷ row) fits = ap (λ xs. v ∷ xs) (shifted v row 0 more ∙ each_column more row (first_value field.kind v (kinds more) row fits).1)

each_term : (given : Row) (n : ℕ) (fields : List Field) → eval_all (map (col 0) (counted n fields)) (given ∷ []) ≡ map (column given) (counted n fields)
each_term given n [] = refl
each_term given n (field ∷ more) = ap (λ xs. column given n ∷ xs) (each_term given (suc n) more)

-- the row that is written for these values
abbrev pub written_by : Bool → List Field → Row → Row
written_by is_rowid fields given =
    let source = eval_all (terms_by is_rowid fields) (given ∷ []) in
    cast Integer (column source 0) ∷ cast_all (columns_by is_rowid fields) (drop 1 source)

pub written_hidden : (fields : List Field) (given : Row) → are_of (kinds fields) given ≡ true → written_by false fields given ≡ Null ∷ given
written_hidden fields given fits =
    ap₂ (λ x xs. x ∷ xs) cast_null (ap (cast_all (map column_of fields)) (each_term given 0 fields ∙ each_column fields given fits) ∙ each_cast fields given fits)

pub written_rowid : (field : Field) (more : List Field) (n : ℤ) (row : Row) → are_of (kinds more) row ≡ true → written_by true (field ∷ more) (Int n ∷ row) ≡ Int n ∷ cast Integer Null ∷ row
written_rowid field more n row fits =
    ap₂ (λ x xs. x ∷ cast Integer Null ∷ xs) (cast_int n)
    (ap (cast_all (map column_of more)) (each_term (Int n ∷ row) 1 more ∙ shifted (Int n) row 0 more ∙ each_column more row fits) ∙ each_cast more row fits)

-- a hidden rowid is in no column
kept_columns : (places : List ℕ) (rows : List Row) (row : Row) → ((id : Value) → cells places (id ∷ drop 1 row) ≡ cells places row) → cells places (with_rowid Chosen rows row) ≡ cells places row
kept_columns places rows row same =
    elim (is_chosen Chosen (rowid row)) as (λ b. cells places (cond b (Int (at_least Chosen (next_rowid rows)) ∷ drop 1 row) row) ≡ cells places row) [ true ↦ same _ | false ↦ refl ]

-- the row that is stored shows the values that were given
pub shown : (is_rowid : Bool) (fields : List Field) (rows : List Row) (given : Row) → are_of (kinds_by is_rowid fields) given ≡ true
    → cells (places_by is_rowid fields) (with_rowid Chosen rows (written_by is_rowid fields given)) ≡ given
shown false fields rows given fits =
    ap (λ r. cells (counted 1 fields) (with_rowid Chosen rows r)) (written_hidden fields given fits)
    ∙ kept_columns (counted 1 fields) rows (Null ∷ given) (λ id. shifted id given 0 fields ∙ sym (shifted Null given 0 fields))
    ∙ shifted Null given 0 fields ∙ each_column fields given fits
shown true [] rows [] fits = refl
shown true [] rows (v ∷ row) fits = absurd (false≢true fits)
shown true (field ∷ more) rows [] fits = absurd (false≢true fits)
shown true (field ∷ more) rows (Int n ∷ row) fits =
    ap (λ r. cells (0 ∷ counted 2 more) (with_rowid Chosen rows r)) (written_rowid field more n row fits)
    ∙ ap (λ xs. Int n ∷ xs) (shifted (Int n) (cast Integer Null ∷ row) 1 more ∙ shifted (cast Integer Null) row 0 more ∙ each_column more row fits)
shown true (field ∷ more) rows (_ ∷ row) fits = absurd (false≢true fits)

-- its rowid is a number
chosen : (rows : List Row) (row : Row) → rowid row ≡ Null → IsTrue (is_int (rowid (with_rowid Chosen rows row)))
chosen rows row none = ap (λ b. is_int (rowid (cond b (Int (at_least Chosen (next_rowid rows)) ∷ drop 1 row) row))) (ap (is_chosen Chosen) none)

pub numbered : (is_rowid : Bool) (fields : List Field) (rows : List Row) (given : Row) → are_of (kinds_by is_rowid fields) given ≡ true → IsTrue (is_int (rowid (with_rowid Chosen rows (written_by is_rowid fields given))))
numbered false fields rows given fits = chosen rows (written_by false fields given) cast_null
numbered true [] rows given fits = chosen rows (written_by true [] given) cast_null
numbered true (field ∷ more) rows [] fits = absurd (false≢true fits)
numbered true (field ∷ more) rows (Int n ∷ row) fits = subst (λ r. IsTrue (is_int (rowid (with_rowid Chosen rows r)))) (sym (written_rowid field more n row fits)) refl
numbered true (field ∷ more) rows (_ ∷ row) fits = absurd (false≢true fits)

pub apart : (m n : ℕ) → (m == n) ≡ false → m ≢ n
apart m n other e = grind (arith, nat_tests, other, e)

-- what is tested as equal is
pub together : (m n : ℕ) → (m == n) ≡ true → m ≡ n
together m n same = grind (arith, nat_tests, same)

-- other rows in a table, and the other tables as they were
module _ (table : Table) (list : List Row) (rows : Rows) (old new : Trees) (are : AreRows rows old)
    (here : Holds (tree_of table) (places_of table) list new) (others : KeepsOthers docket_schema (tree_of table) old new) where
  changed_at : (other : Table) (b : Bool) → (tree_of other == tree_of table) ≡ b → Holds (tree_of other) (places_of other) (cond b list (rows other)) new
  changed_at other true e = subst (λ t. Holds (tree_of t) (places_of t) list new) (sym (same_table other table (together _ _ e))) here
  changed_at other false e = holds_same (tree_of other) (places_of other) (rows other) old new (others_same (tree_of table) old new others other (apart _ _ e)) (are other)

  pub rows_changed : AreRows (with_rows table list rows) new
  rows_changed other = changed_at other (tree_of other == tree_of table) refl

-- an INSERT inside a transaction
pub inserted : (table : Table) (given : Row) (rows : Rows) (old new : State) (count : ℕ) → Fits table given → Sees old rows
    → Executes (insert_text table) given old new (Ok count) → Turns old new new.now old.committed true → Sees new (with_row table given rows)
inserted table given rows old new count fits sees ran turns =
    let put = inserts docket_schema (insert_text table) (shape_of table) (terms_of table) (insert_means table) given old new count sees.shows.schema ran in
    let p = put.2 in
    let l = layout_of table in
    let shows : cells (places_of table) p.row ≡ given = ap (cells (places_of table)) p.is ∙ shown l.is_rowid l.fields (old.now.trees (tree_of table)) given fits in
    let id : IsTrue (is_int (rowid p.row)) = subst (λ r. IsTrue (is_int (rowid r))) (sym p.is) (numbered l.is_rowid l.fields (old.now.trees (tree_of table)) given fits) in
    record {
      begun = turns.mode;
      shows = record {
        is_open = turns.is_open;
        schema = put.0;
        live = put.1;
        holds = rows_changed table (rows table ++ given ∷ []) rows old.now.trees new.now.trees sees.shows.holds
            (holds_more (tree_of table) (places_of table) (rows table) p.row given old.now.trees new.now.trees (sees.shows.holds table) id p.fresh p.rows shows) p.others;
      };
    }
