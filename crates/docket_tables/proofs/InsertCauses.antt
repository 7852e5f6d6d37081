-- A row that may stand is not refused: what an INSERT of it stores obeys the rules of its table.
use Rattle.std.proofs.Common.{◌≡◌, ◌≢◌, ◌⊎◌, inl, inr, ◌∙◌, ◌<◌, ◌+◌, ◌&&◌, ◌||◌, ◌==◌, ℕ, ℤ, Bool, not, List, [], ◌∷◌, map, take, length, length-append, slice_get, true, false, cond, None, Some, Option, IsTrue, IsPermutation, refl, sym, ap, subst, arith, true≢false, is_eq, int_cmp}
use mathlib.Core.Logic.{∥∥₁_elim}
use mathlib.Core.HLevel.{⊥_prop}
use Rattle.std.specs.List.{AllByRecursion, list_all, list_any}
use Rattle.sqlite.specs.Edit.{Edit, edit_of}
use Rattle.sqlite.specs.Order.{Row, column, value_cmp}
use Rattle.sqlite.specs.Rowids.TheVariants.{Chosen}
use Rattle.sqlite.specs.Table.{Table as Shape}
use Rattle.sqlite.specs.Term.{eval_all}
use Rattle.sqlite.specs.Collation.TheVariants.{Binary}
use Rattle.sqlite_rules.specs.Edit.{IsRefused, edited, left_by, is_taken, are_fresh, taken_by, id_in, is_referred, IsOversized}
use Rattle.sqlite_rules.specs.Keys.{are_unique}
use Rattle.sqlite_rules.specs.Lists.{Has}
use Rattle.sqlite_rules.specs.declared.error.Refusal.{Refusal}
use Rattle.sqlite_rules.specs.declared.error.Refusal.TheVariants.{Violates, Mismatch, NoRowid, BadReference, TooDeep}
use Rattle.sqlite_schema.specs.Rules.{equal, agree, clashes, has_parent, has_null, Keeps, Refers, differ, ParentKey, is_held, parent_key, table_reals, index_reals}
use Rattle.sqlite_schema.specs.declared.schema.Among.TheVariants as among
use Rattle.sqlite_schema.specs.declared.schema.Constraint.TheVariants.{Datatype, NotNull, Check, PrimaryKey, Unique, ForeignKey}
use Rattle.sqlite_schema.specs.declared.schema.Keys.TheVariants.{Enforced}
use Rattle.sqlite_tied.specs.Compute.{everything}
use Rattle.sqlite_trees.specs.Tree.{Trees, rowid, IsAscending, with_tree}
use Rattle.sqlite_trees.specs.View.{IsShaped, is_int, IsStorable, IsStorableRow}
use Rattle.sqlite_trees.specs.declared.store.Shape.TheVariants as shape
use Rattle.sqlite_value.specs.Keys.{plain, first_key}
use Rattle.docket_tables.specs.Additions.{key_columns, are_alike, MayStand, AreStorable}
use Rattle.docket_tables.specs.Holds.{cells, KeepsOthers}
use Rattle.docket_tables.specs.Layouts.{Rows, AreRows, Fits}
use Rattle.docket_tables.specs.Schema.{docket_schema, shape_of, tree_of, places_of, key_places, uniques_of, kinds_of}
use Rattle.docket_tables.specs.Tables.{layout_of, tables, Layout}
use Rattle.docket_tables.specs.declared.table.Table.{Table}
use Rattle.docket_tables.specs.declared.table.Table.TheVariants.{Court, Calendar, Cases, Parties, Entries, Deadlines, Acts, Receipts, Due, ShortDays, LocalRules}
use Rattle.docket_tables.proofs.LayoutLemmas.{terms_of, all_at, shown, numbered, apart, of_each}
use Rattle.docket_tables.proofs.StoredRows.{stored_by, stored_is, IsLight, stored_typed, stored_present, stored_light, light_stored, light_entry, light_at, stored_long}
use Rattle.std.proofs.lemmas.List.Elements.{All-from_recursion, recursion_from_All}
use Rattle.std.proofs.lemmas.List.Sorted.{IsPermutation-sym, All-permutation}
use Rattle.sqlite_rules.proofs.ListLemmas.{all_has, some_has, some_from, test_has, test_from, all_from}
use Rattle.docket_tables.proofs.HoldsLemmas.{equal_int, and_yes}
use Rattle.std.proofs.lemmas.Bool.{and_parts, both_ways, false_from_ne_true, not_from_false, or_right, and_from, or_from, or_left, or_cases, cases_eq, not-true}
use Rattle.std.proofs.lemmas.Int.{ints}
use Rattle.sqlite.specs.declared.types.Value.{Value}
use Rattle.sqlite.specs.declared.types.Value.TheVariants as value
use Rattle.sqlite.specs.declared.types.Value.TheVariants.{Null}
use Rattle.sqlite_value.proofs.OrderLemmas.{value_cmp-Int}
use Rattle.docket_tables.proofs.CellLemmas.{truth_back}
use Rattle.sqlite_trees.proofs.ListLemmas.{all-permutation, all_weaker}
use Rattle.std.specs.Ordering.{is_ne}
use Rattle.std.specs.Prelude.{nat_le}
use Rattle.std.proofs.lemmas.Bool.Decides.{nat_tests}
use Rattle.std.proofs.lemmas.List.{length-map}
use Rattle.std.proofs.lemmas.Nat.Bits.{bit_at-zero}
use Rattle.sqlite_rules.proofs.EditLemmas.{turns}
use Rattle.sqlite_rules.proofs.TableLemmas.{put_has, int_is}
use Rattle.sqlite_rules.proofs.PlaceLemmas.{next_is_free}
use Rattle.sqlite_rules.proofs.RuleLemmas.{Turns, unique_kept, origin, refers_from, keeps_at, parent_is_table}
use Rattle.sqlite_schema.specs.declared.schema.Reference.{Reference}
use Rattle.sqlite_schema.specs.declared.schema.Index.{Index}
use Rattle.sqlite_sql.specs.Catalog.{entry_of}

-- under the order of an index of these tables rows agree where they are alike
pub agree_plain : (columns : List ℕ) (a b : Row) → agree plain columns a columns b ≡ are_alike columns a b
unfolding first_key
agree_plain [] a b = refl
agree_plain (c ∷ columns) a b = ap (λ more. equal Binary (column a c) (column b c) && more) (agree_plain columns a b)

-- the row clashes with none in what stands once in its table
abbrev is_apart : Table → List Row → Row → Bool
is_apart table rows row = list_all (λ places. not (clashes plain places rows row || false)) (uniques_of table)

-- and that is all that the indexes require of it
unique_means : (table : Table) (db : Trees) (row : Row) → are_unique docket_schema.indexes db (shape_of table) (row ∷ []) ≡ is_apart table (db (tree_of table)) row
unique_means Court db row = refl
unique_means Calendar db row = refl
unique_means Cases db row = refl
unique_means Parties db row = refl
unique_means Entries db row = refl
unique_means Deadlines db row = refl
unique_means Acts db row = refl
unique_means Receipts db row = refl
unique_means Due db row = refl
unique_means ShortDays db row = refl
unique_means LocalRules db row = refl

-- the columns that stand once, where the rowid has none of its own
abbrev once_in : Table → List (List ℕ)
once_in table = let l = layout_of table in cond l.is_rowid l.uniques (key_columns table ∷ l.uniques)

-- what is stored once is shown once
alike_means : (table : Table) (a b : Row) → map (λ places. are_alike places a b) (uniques_of table) ≡ map (λ columns. are_alike columns (cells (places_of table) a) (cells (places_of table) b)) (once_in table)
alike_means Court a b = refl
alike_means Calendar a b = refl
alike_means Cases a b = refl
alike_means Parties a b = refl
alike_means Entries a b = refl
alike_means Deadlines a b = refl
alike_means Acts a b = refl
alike_means Receipts a b = refl
alike_means Due a b = refl
alike_means ShortDays a b = refl
alike_means LocalRules a b = refl

-- a stored row has a parent where one is like the row that is shown
parents_mean : (table : Table) (a b : Row) → map (λ parent. are_alike (key_columns parent) (cells (places_of parent) a) (cells (places_of table) b)) (layout_of table).parents
    ≡ map (λ parent. agree plain (key_places parent) a (take (layout_of parent).key (places_of table)) b) (layout_of table).parents
unfolding first_key
parents_mean Parties a b = refl
parents_mean Entries a b = refl
parents_mean Deadlines a b = refl
parents_mean Acts a b = refl
parents_mean Due a b = refl
parents_mean Court a b = refl
parents_mean Calendar a b = refl
parents_mean Cases a b = refl
parents_mean Receipts a b = refl
parents_mean ShortDays a b = refl
parents_mean LocalRules a b = refl

abbrev has_one : Table → Trees → Row → Table → Bool
has_one table db row parent =
    let places = take (layout_of parent).key (places_of table) in
    has_null places row || list_any (λ other. agree plain (key_places parent) other places row) (db (tree_of parent))

-- what the foreign keys require of a row
refers_means : (table : Table) (db : Trees) (row : Row) → list_all (has_parent docket_schema.tables db row) (shape_of table).references ≡ list_all (has_one table db row) (layout_of table).parents
unfolding everything
refers_means Court db row = refl
refers_means Calendar db row = refl
refers_means Cases db row = refl
refers_means Parties db row = refl
refers_means Entries db row = refl
refers_means Deadlines db row = refl
refers_means Acts db row = refl
refers_means Receipts db row = refl
refers_means Due db row = refl
refers_means ShortDays db row = refl
refers_means LocalRules db row = refl

-- What the tables hold, opened for what has no content: a proof that something is absurd.
abbrev pub HoldsHere : Rows → Trees → Table → Type 0
HoldsHere rows db table = IsPermutation (map (cells (places_of table)) (db (tree_of table))) (rows table) × IsShaped shape.Table (db (tree_of table))

all_opened : (X : Table → Type 0) (ts : List Table) → ((t : Table) → ∥ X t ∥₁) → (AllByRecursion X ts → ⊥) → ⊥
all_opened X [] some go = go tt
all_opened X (t ∷ ts) some go = ∥∥₁_elim (some t) ⊥_prop (λ x. all_opened X ts some (λ more. go (x, more)))

table_at : (table : Table) → slice_get tables (layout_of table).at ≡ Some table
table_at Court = refl
table_at table = refl

pub opened : (rows : Rows) (db : Trees) → AreRows rows db → (((t : Table) → HoldsHere rows db t) → ⊥) → ⊥
opened rows db are go = all_opened (HoldsHere rows db) tables are (λ all. go (λ t. all_at (HoldsHere rows db) tables (layout_of t).at t all (table_at t)))

-- what holds of the rows shown holds of the rows stored

has_permuted : {X : Type 0} (xs ys : List X) (x : X) → IsPermutation xs ys → Has ys x → Has xs x
has_permuted xs ys x same = all_has (Has xs) ys x (all-permutation (Has xs) xs ys same (all_from (Has xs) xs (λ e h. h)))

shown_all : (P : Row → Type 0) (places : List ℕ) (stored list : List Row) → IsPermutation (map (cells places) stored) list → AllByRecursion P list → AllByRecursion (λ r. P (cells places r)) stored
shown_all P places stored list same all =
    unmapped stored (recursion_from_All P (map (cells places) stored) (All-permutation P list _ (IsPermutation-sym _ _ same) (All-from_recursion P list all)))
  where
    unmapped : (rs : List Row) → AllByRecursion P (map (cells places) rs) → AllByRecursion (λ r. P (cells places r)) rs
    unmapped [] h = tt
    unmapped (r ∷ rs) h = (h.0, unmapped rs h.1)

shown_any : (p : Row → Bool) (places : List ℕ) (stored list : List Row) → IsPermutation (map (cells places) stored) list → list_any p list ≡ true → (r : Row) × Has stored r × (p (cells places r) ≡ true)
shown_any p places stored list same any =
    let found = some_has p list any in
    unmapped stored found.0 (has_permuted (map (cells places) stored) list found.0 same found.1) found.2
  where
    unmapped : (rs : List Row) (x : Row) → Has (map (cells places) rs) x → p x ≡ true → (r : Row) × Has rs r × (p (cells places r) ≡ true)
    unmapped [] x h so = absurd h
    unmapped (r ∷ rs) x (inl is) so = (r, inl refl, subst (λ y. p y ≡ true) is so)
    unmapped (r ∷ rs) x (inr h) so = let more = unmapped rs x h so in (more.0, inr more.1, more.2)

no_difference : (v : Value) → IsTrue (is_int v) → differ v v ≡ false
unfolding Rattle.sqlite_sql.specs.Ops.binary
no_difference (value.Int n) keyed =
    let differs : is_ne (int_cmp n n) ≡ false = grind (arith, ints) in
    truth_back (is_ne (value_cmp (value.Int n) (value.Int n))) ∙ ap is_ne (value_cmp-Int n n) ∙ differs
no_difference _ keyed = absurd (let no = keyed in cc)

-- trees of their own

abbrev all_apart : List Shape → Bool
all_apart [] = true
all_apart (t ∷ ts) = list_all (λ (u : Shape). not (t.tree == u.tree)) ts && all_apart ts

apart_all : (ts : List Shape) → all_apart ts ≡ true → IsAscending (λ a b. a.tree ≡ b.tree → ⊥) ts
apart_all [] e = tt
apart_all (t ∷ ts) e =
    let parts = and_parts _ _ e in (all_from _ ts (λ u known same. apart t.tree u.tree (not-true _ (test_has _ ts u parts.0 known)) same), apart_all ts parts.1)

schema_apart : IsAscending (λ a b. a.tree ≡ b.tree → ⊥) docket_schema.tables
schema_apart = apart_all docket_schema.tables refl

shape_listed : (table : Table) → Has docket_schema.tables (shape_of table)
shape_listed table = of_each (λ t. Has docket_schema.tables t) (all_from _ docket_schema.tables (λ t known. known)) table

at_own : (db : Trees) (tree : ℕ) (rows : List Row) → with_tree db tree rows tree ≡ rows
at_own db tree rows = let same : (tree == tree) ≡ true = grind (arith, nat_tests) in ap (λ b. cond b rows (db tree)) same

at_others : (db : Trees) (tree : ℕ) (rows : List Row) → KeepsOthers docket_schema tree db (with_tree db tree rows)
at_others db tree rows = all_from (λ (t : Shape). t.tree ≢ tree → with_tree db tree rows t.tree ≡ db t.tree) docket_schema.tables (λ t known other. let differs : (t.tree == tree) ≡ false = grind (arith, nat_tests, other) in ap (λ b. cond b rows (db t.tree)) differs)

-- no stored row has the rowid of the new one

free_number : (rows : List Row) (n : ℤ) (rest : Row) → AllByRecursion (λ r. IsTrue (is_int (rowid r))) rows → AllByRecursion (λ r. (equal Binary (column r 0) (value.Int n) && true) ≡ false) rows
    → is_taken rows (value.Int n ∷ rest) ≡ false
free_number [] n rest keyed alone = refl
free_number (r ∷ rows) n rest keyed alone =
    let id = int_is (rowid r) keyed.0 in
    let here : is_eq (value_cmp (rowid r) (value.Int n)) ≡ false =
    ap (λ v. is_eq (value_cmp v (value.Int n))) id ∙ ap is_eq (value_cmp-Int (id_in (rowid r)) n) ∙ sym (equal_int (id_in (rowid r)) n)
    ∙ ap (λ v. equal Binary v (value.Int n)) (sym id) ∙ sym (and_yes _) ∙ alone.0 in
    or_from _ _ here (free_number rows n rest keyed.1 alone.1)

abbrev IsFree : Table → Type 0
IsFree table = (given : Row) (rows : List Row) → Fits table given → IsShaped shape.Table rows → AllByRecursion (λ r. are_alike (key_columns table) (cells (places_of table) r) given ≡ false) rows
    → is_taken rows (stored_by (layout_of table).is_rowid rows given) ≡ false

free : (table : Table) → IsFree table
free Court (value.Int n ∷ row) rows fits shaped alone = free_number rows n (Null ∷ row) shaped.1 alone
free Calendar (value.Int n ∷ row) rows fits shaped alone = free_number rows n (Null ∷ row) shaped.1 alone
free Cases (value.Int n ∷ row) rows fits shaped alone = free_number rows n (Null ∷ row) shaped.1 alone
free ShortDays (value.Int n ∷ row) rows fits shaped alone = free_number rows n (Null ∷ row) shaped.1 alone
free LocalRules (value.Int n ∷ row) rows fits shaped alone = free_number rows n (Null ∷ row) shaped.1 alone
free Parties given rows fits shaped alone = next_is_free Chosen rows given shaped.0 shaped.1
free Entries given rows fits shaped alone = next_is_free Chosen rows given shaped.0 shaped.1
free Deadlines given rows fits shaped alone = next_is_free Chosen rows given shaped.0 shaped.1
free Acts given rows fits shaped alone = next_is_free Chosen rows given shaped.0 shaped.1
free Receipts given rows fits shaped alone = next_is_free Chosen rows given shaped.0 shaped.1
free Due given rows fits shaped alone = next_is_free Chosen rows given shaped.0 shaped.1
free _ given rows fits shaped alone = absurd (let no = fits in cc)

-- what is computed of each table

well_referred : (table : Table) (row : Row) → is_referred docket_schema Enforced (record { table = shape_of table; gone = []; news = row ∷ [] }) ≡ true
unfolding everything
well_referred Court row = refl
well_referred Parties row = refl
well_referred Entries row = refl
well_referred Deadlines row = refl
well_referred Acts row = refl
well_referred Due row = refl
well_referred table row = refl

no_reals : (table : Table) → table_reals (shape_of table) ≡ 0
no_reals Court = refl
no_reals table = refl

few_columns : (table : Table) → (nat_le 1 (length (kinds_of table)) ≡ true) × (nat_le (length (kinds_of table)) 9 ≡ true)
few_columns Court = (refl, refl)
few_columns table = (refl, refl)

no_index_reals : (columns : List ℕ) → index_reals 0 columns ≡ 0
no_index_reals [] = refl
no_index_reals (c ∷ columns) = omega (arith, bit_at-zero c, no_index_reals columns)

entry_long : (columns : List ℕ) (row : Row) → length (entry_of columns row) ≡ length columns + 1
entry_long columns row = length-append (map (column row) columns) (rowid row ∷ []) ∙ ap (λ n. n + 1) (length-map columns (column row))

-- the row that is given, and what is stored of it
module _ (table : Table) (given : Row) (rows : Rows) (db : Trees) (fits : Fits table given) where
  abbrev pub stored : Row
  stored = stored_by (layout_of table).is_rowid (db (tree_of table)) given

  abbrev pub entry : Edit
  entry = record { table = shape_of table; gone = []; news = stored ∷ [] }

  pub entered : edit_of db (shape_of table) [] Chosen 0 (eval_all (terms_of table) (given ∷ []) ∷ []) ≡ entry
  entered =
      let l = layout_of table in
      ap (λ (row : Row). record { table = shape_of table; gone = []; news = row ∷ [] }) (stored_is l.is_rowid l.fields (db (tree_of table)) given fits)

  stored_shown : cells (places_of table) stored ≡ given
  stored_shown =
      let l = layout_of table in
      ap (cells (places_of table)) (sym (stored_is l.is_rowid l.fields (db (tree_of table)) given fits)) ∙ shown l.is_rowid l.fields (db (tree_of table)) given fits

  pub stored_keyed : IsTrue (is_int (rowid stored))
  stored_keyed =
      let l = layout_of table in
      subst (λ r. IsTrue (is_int (rowid r))) (stored_is l.is_rowid l.fields (db (tree_of table)) given fits) (numbered l.is_rowid l.fields (db (tree_of table)) given fits)

  module _ (may : MayStand table given rows) (here : (t : Table) → HoldsHere rows db t) where
    -- no stored row has what stands once
    alone_in : AllByRecursion (λ columns. AllByRecursion (λ r. are_alike columns (cells (places_of table) r) given ≡ false) (db (tree_of table))) (key_columns table ∷ (layout_of table).uniques)
    alone_in = all_weaker _ _ (λ columns none. shown_all (λ other. are_alike columns other given ≡ false) (places_of table) (db (tree_of table)) (rows table) (here table).0 none) (key_columns table ∷ (layout_of table).uniques) may.alone

    -- nor has any, among the columns as they are stored
    apart_in : (places : List ℕ) → Has (uniques_of table) places → (r : Row) → Has (db (tree_of table)) r → are_alike places r stored ≡ false
    apart_in places known r there =
        all_has (λ places. are_alike places r stored ≡ false) (uniques_of table) places
        (unmapped (λ places. are_alike places r stored) (uniques_of table)
        (subst (AllByRecursion (λ b. b ≡ false)) (sym (alike_means table r stored ∙ ap (λ shown. map (λ columns. are_alike columns (cells (places_of table) r) shown) (once_in table)) stored_shown))
        (mapped (λ columns. are_alike columns (cells (places_of table) r) given) (once_in table)
        (once_of (layout_of table).is_rowid (all_weaker _ _ (λ columns none. all_has _ (db (tree_of table)) r none there) (key_columns table ∷ (layout_of table).uniques) alone_in))))) known
      where
        mapped : {X : Type 0} (p : X → Bool) (xs : List X) → AllByRecursion (λ x. p x ≡ false) xs → AllByRecursion (λ b. b ≡ false) (map p xs)
        mapped p [] all = tt
        mapped p (x ∷ xs) all = (all.0, mapped p xs all.1)

        unmapped : {X : Type 0} (p : X → Bool) (xs : List X) → AllByRecursion (λ b. b ≡ false) (map p xs) → AllByRecursion (λ x. p x ≡ false) xs
        unmapped p [] all = tt
        unmapped p (x ∷ xs) all = (all.0, unmapped p xs all.1)

        once_of : (b : Bool) → AllByRecursion (λ columns. are_alike columns (cells (places_of table) r) given ≡ false) (key_columns table ∷ (layout_of table).uniques)
            → AllByRecursion (λ columns. are_alike columns (cells (places_of table) r) given ≡ false) (cond b (layout_of table).uniques (key_columns table ∷ (layout_of table).uniques))
        once_of true all = all.1
        once_of false all = all

    -- so it clashes with none, where it is the one row that came in
    unclashed : (rows' : List Row) → ((r : Row) → Has rows' r → (r ≡ stored) ⊎ Has (db (tree_of table)) r) → is_apart table rows' stored ≡ true
    unclashed rows' from = test_from _ (uniques_of table) (λ places known. not_from_false _ (clear places known))
      where
        clear : (places : List ℕ) → Has (uniques_of table) places → (clashes plain places rows' stored || false) ≡ false
        clear places known = ap (λ b. b || false) (false_from_ne_true (clashes plain places rows' stored) (λ clash.
            let other = some_has (λ other. agree plain places other places stored && differ (rowid other) (rowid stored)) rows' clash in
            let parts = and_parts (agree plain places other.0 places stored) (differ (rowid other.0) (rowid stored)) other.2 in
            elim (from other.0 other.1) [
              | inl is ↦ both_ways _ (no_difference (rowid stored) stored_keyed) (subst (λ r. differ (rowid r) (rowid stored) ≡ true) is parts.1)
              | inr was ↦ both_ways _ (apart_in places known other.0 was) (sym (agree_plain places other.0 stored) ∙ parts.0)
            ]))

    -- each parent is stored
    parents_in : AllByRecursion (λ parent. list_any (λ other. agree plain (key_places parent) other (take (layout_of parent).key (places_of table)) stored) (db (tree_of parent)) ≡ true) (layout_of table).parents
    parents_in = each (layout_of table).parents may.parents (λ r. all_equal _ _ (layout_of table).parents (parents_mean table r stored))
      where
        all_equal : (f g : Table → Bool) (ts : List Table) → map f ts ≡ map g ts → AllByRecursion (λ t. f t ≡ g t) ts
        all_equal f g [] e = tt
        all_equal f g (t ∷ ts) e = let both : (f t ≡ g t) × (map f ts ≡ map g ts) = (cc, cc) in (both.0, all_equal f g ts both.1)

        each : (ts : List Table) → AllByRecursion (λ parent. list_any (λ other. are_alike (key_columns parent) other given) (rows parent) ≡ true) ts
            → ((r : Row) → AllByRecursion (λ parent. are_alike (key_columns parent) (cells (places_of parent) r) (cells (places_of table) stored) ≡ agree plain (key_places parent) r (take (layout_of parent).key (places_of table)) stored) ts)
            → AllByRecursion (λ parent. list_any (λ other. agree plain (key_places parent) other (take (layout_of parent).key (places_of table)) stored) (db (tree_of parent)) ≡ true) ts
        each [] has means = tt
        each (parent ∷ ts) has means =
            let found = shown_any (λ other. are_alike (key_columns parent) other given) (places_of parent) (db (tree_of parent)) (rows parent) (here parent).0 has.0 in
            let agrees = sym (means found.0).0 ∙ ap (are_alike (key_columns parent) (cells (places_of parent) found.0)) stored_shown ∙ found.2 in
            (some_from _ (db (tree_of parent)) found.0 found.1 agrees, each ts has.1 (λ r. (means r).1))

    -- and still there, where rows only came in
    referred : (new : Trees) → ((t : Table) (r : Row) → Has (db (tree_of t)) r → Has (new (tree_of t)) r) → list_all (has_parent docket_schema.tables new stored) (shape_of table).references ≡ true
    referred new kept = refers_means table new stored ∙ test_from (has_one table new stored) (layout_of table).parents (λ parent known.
        let found = some_has _ (db (tree_of parent)) (all_has _ (layout_of table).parents parent parents_in known) in
        or_right _ _ (some_from _ (new (tree_of parent)) found.0 (kept parent found.0 found.1) found.2))

    rowid_free : are_fresh (left_by db entry) (stored ∷ []) ≡ true
    rowid_free = and_from _ _ (not_from_false _ (free table given (db (tree_of table)) fits (here table).1 alone_in.0)) refl

    -- what the INSERT makes of the tables
    turn : (next : Trees) → next (tree_of table) ≡ edited db entry → KeepsOthers docket_schema (tree_of table) db next
        → Turns docket_schema db next (shape_of table) (left_by db entry) (taken_by db entry) (stored ∷ [])
    turn next rows' others = turns docket_schema db next entry schema_apart (shape_listed table) (here table).1.0 rowid_free rows' others

    came : (next : Trees) → next (tree_of table) ≡ edited db entry → (r : Row) → Has (next (tree_of table)) r → (r ≡ stored) ⊎ Has (db (tree_of table)) r
    came next rows' r there = put_has stored (db (tree_of table)) r (subst (λ rs. Has rs r) rows' there)

    keeps_unique : Keeps Unique docket_schema db → (next : Trees) → next (tree_of table) ≡ edited db entry → KeepsOthers docket_schema (tree_of table) db next → Keeps Unique docket_schema next
    keeps_unique keeps next rows' others =
        unique_kept docket_schema db next (shape_of table) (left_by db entry) (taken_by db entry) (stored ∷ []) (turn next rows' others)
        (unique_means table next stored ∙ unclashed (next (tree_of table)) (came next rows')) keeps

    -- each row of each table has its parents still
    pub refers_after : Keeps ForeignKey docket_schema db → (next : Trees) → next (tree_of table) ≡ edited db entry → KeepsOthers docket_schema (tree_of table) db next → Refers among.All docket_schema next
    refers_after keeps next rows' others = refers_from among.All docket_schema next (λ t ref row listed known is there.
        let it = turn next rows' others in
        at_origin t ref row listed known (origin docket_schema db next (shape_of table) (left_by db entry) (taken_by db entry) (stored ∷ []) it t row listed there))
      where
        stays_in : (t : Shape) → Has docket_schema.tables t → (r : Row) → Has (db t.tree) r → Has (next t.tree) r
        stays_in t listed r was = elim (cases_eq t.tree (tree_of table)) [
          | inl same ↦ subst (λ n. Has (next n) r) (sym same) ((turn next rows' others).stays r (subst (λ n. Has (db n) r) same was))
          | inr other ↦ subst (λ rs. Has rs r) (sym (all_has (λ (u : Shape). u.tree ≢ tree_of table → next u.tree ≡ db u.tree) docket_schema.tables t others listed other)) was
        ]

        held_still : (columns : List ℕ) (row : Row) (key : Option ParentKey) → ((k : ParentKey) → key ≡ Some k → (t : Shape) × Has docket_schema.tables t × (t.tree ≡ k.0)) → is_held db columns row key ≡ true → is_held next columns row key ≡ true
        held_still columns row None at held = held
        held_still columns row (Some k) at held =
            let t = at k refl in
            let found = some_has _ (db k.0) held in
            some_from _ (next k.0) found.0 (subst (λ n. Has (next n) found.0) t.2 (stays_in t.0 t.1 found.0 (subst (λ n. Has (db n) found.0) (sym t.2) found.1))) found.2

        still : (ref : Reference) (row : Row) → has_parent docket_schema.tables db row ref ≡ true → has_parent docket_schema.tables next row ref ≡ true
        still ref row held = elim (or_cases (has_null ref.columns row) (is_held db ref.columns row (parent_key docket_schema.tables ref)) held) [
          | inl null ↦ or_left (has_null ref.columns row) (is_held next ref.columns row (parent_key docket_schema.tables ref)) null
          | inr there ↦ or_right (has_null ref.columns row) (is_held next ref.columns row (parent_key docket_schema.tables ref)) (held_still ref.columns row (parent_key docket_schema.tables ref) (parent_is_table docket_schema.tables ref) there)
        ]

        had_parent : (t : Shape) (ref : Reference) (row : Row) → t ≡ shape_of table → Has (stored ∷ []) row → Has t.references ref → has_parent docket_schema.tables next row ref ≡ true
        had_parent t ref row is (inl same) known =
            subst (λ r. has_parent docket_schema.tables next r ref ≡ true) (sym same)
            (test_has (has_parent docket_schema.tables next stored) (shape_of table).references ref (referred next (λ u r was. stays_in (shape_of u) (shape_listed u) r was)) (subst (λ (u : Shape). Has u.references ref) is known))
        had_parent t ref row is (inr none) known = absurd none

        at_origin : (t : Shape) (ref : Reference) (row : Row) → Has docket_schema.tables t → Has t.references ref → ((t ≡ shape_of table) × Has (stored ∷ []) row) ⊎ Has (db t.tree) row → has_parent docket_schema.tables next row ref ≡ true
        at_origin t ref row listed known (inl fresh) = had_parent t ref row fresh.0 fresh.1 known
        at_origin t ref row listed known (inr before) = still ref row (test_has (has_parent docket_schema.tables db row) t.references ref (keeps_at ForeignKey docket_schema db t row keeps listed before) known)

    -- the edit is refused only where no rowid is left
    pub refusals : Keeps Unique docket_schema db → (why : Refusal) → IsRefused docket_schema Enforced db entry why → (why ≢ NoRowid) → ⊥
    refusals keeps (Violates Datatype) bad other =
        let l = layout_of table in both_ways _ bad (and_from _ _ (and_from _ _ (stored_typed l.is_rowid l.fields (db (tree_of table)) given fits) refl) refl)
    refusals keeps (Violates NotNull) bad other =
        let l = layout_of table in both_ways _ bad (and_from _ _ (stored_present l.is_rowid l.fields (db (tree_of table)) given fits) refl)
    refusals keeps (Violates Check) bad other = true≢false bad
    refusals keeps (Violates PrimaryKey) bad other = both_ways _ bad rowid_free
    refusals keeps (Violates Unique) bad other =
        bad (keeps_unique keeps (with_tree db (tree_of table) (edited db entry)) (at_own db (tree_of table) (edited db entry)) (at_others db (tree_of table) (edited db entry)))
    refusals keeps (Violates ForeignKey) bad other = bad
    refusals keeps Mismatch bad other = both_ways _ bad (and_from _ _ stored_keyed refl)
    refusals keeps NoRowid bad other = other refl
    refusals keeps BadReference bad other = both_ways _ bad (well_referred table stored)
    refusals keeps TooDeep bad other = bad

  -- what is stored is not too big
  pub sized : AreStorable given → (row : Row) → Has (stored ∷ []) row → IsOversized docket_schema (shape_of table) row → ⊥
  sized storable row (inr none) big = none
  sized storable row (inl is) big = elim big [
    | inl row_big ↦ row_big (subst (IsStorableRow (table_reals (shape_of table))) (sym is) (whole, more_than_one))
    | inr entry_big ↦ entry_big.3 (subst (λ r. IsStorable (index_reals (table_reals (shape_of table)) entry_big.0.columns) (entry_of entry_big.0.columns r)) (sym is) (in_index entry_big.0 entry_big.1))
  ]
    where
      l : Layout
      l = layout_of table

      lights : AllByRecursion IsLight stored
      lights = stored_light l.is_rowid l.fields (db (tree_of table)) given fits storable

      long : length stored ≡ length (kinds_of table) + 1
      long = stored_long l.is_rowid l.fields (db (tree_of table)) given fits

      more_than_one : 1 < length stored
      more_than_one = let few = few_columns table in grind (arith, nat_tests, few.0, long)

      whole : IsStorable (table_reals (shape_of table)) stored
      whole = let few = few_columns table in light_stored (table_reals (shape_of table)) stored (no_reals table) (grind (arith, nat_tests, few.0, long)) (grind (arith, nat_tests, few.1, long)) lights

      in_index : (i : Index) → Has docket_schema.indexes i → IsStorable (index_reals (table_reals (shape_of table)) i.columns) (entry_of i.columns stored)
      in_index i known =
          let few = test_has (λ (i : Index). nat_le (length i.columns) 9) docket_schema.indexes i refl known in
          light_stored _ (entry_of i.columns stored) (ap (λ r. index_reals r i.columns) (no_reals table) ∙ no_index_reals i.columns) (grind (arith, nat_tests, few, entry_long i.columns stored)) (grind (arith, nat_tests, few, entry_long i.columns stored))
          (light_entry i.columns stored (rowid stored) lights (light_at stored 0 lights))
