-- The move of an end fails only for a cause.
use Rattle.std.proofs.Common.{◌≡◌, inl, inr, ℕ, List, [], ◌∷◌, length, true, false, Err, sym, ap, subst, arith, true≢false, ◌∙◌, ◌⊎◌, ◌≢◌, ◌==◌, Bool, not, ◌&&◌, cond, ℤ, pos, negsuc, drop, refl, IsPermutation, map, filter, ap₂, ◌++◌}
use Rattle.sqlite.specs.Edit.{Edit, without_all}
use Rattle.sqlite.specs.Command.TheVariants.{Update}
use Rattle.sqlite.specs.Listing.{understood}
use Rattle.sqlite.specs.Order.{Row, column, number}
use Rattle.sqlite.specs.State.{State, ExecutesInside, is_disk_error}
use Rattle.sqlite.specs.Table.{Table as Shape}
use Rattle.sqlite.specs.Tree.{Trees}
use Rattle.sqlite.specs.declared.error.Error.{Error}
use Rattle.sqlite.specs.declared.error.Error.TheVariants.{SqliteFailure}
use Rattle.sqlite.specs.declared.error.ErrorCode.TheVariants as code
use Rattle.sqlite_rules.specs.Calls.{ids_of}
use Rattle.sqlite_rules.specs.Edit.{IsRefused, IsOversized, edited, are_fresh, id_in, put_all}
use Rattle.sqlite_rules.specs.Lists.{Has}
use Rattle.sqlite_rules.specs.declared.error.Refusal.{Refusal}
use Rattle.sqlite_schema.specs.Rules.{Keeps, passes, has_parent, table_reals, references_fit, Obeys, is_of, agree, differ, equal, index_reals}
use Rattle.sqlite_schema.specs.declared.program.Program.{Program}
use Rattle.sqlite_schema.specs.declared.schema.Keys.TheVariants.{Enforced}
use Rattle.docket_tables.specs.Causes.{HasMakingCause}
use Rattle.docket_tables.specs.Schema.{docket_schema, tree_of, shape_of, places_of}
use Rattle.docket_tables.proofs.MakingCauses.{IsOne}
use Rattle.std.specs.List.{AllByRecursion, list_all, list_any}
use Rattle.docket_tables.specs.Holds.{plain_query, cells, has_key}
use Rattle.docket_tables.specs.declared.table.Table.TheVariants.{Cases, Deadlines, Due}
use Rattle.sqlite_schema.specs.declared.schema.Constraint.TheVariants.{Unique, ForeignKey, Datatype, NotNull, Check, PrimaryKey}
use Rattle.docket_tables.proofs.LayoutLemmas.{apart, others_same, of_each}
use Rattle.sqlite_trees.specs.Tree.{with_tree, rowid, has_rowid}
use Rattle.docket_tables.specs.Statements.{move_end_text}
use Rattle.sqlite_tied.specs.Compute.{everything}
use Rattle.sqlite.specs.Term.{Term, lit, col, op2}
use Rattle.sqlite_sql.specs.declared.ops.BinaryOp.TheVariants.{Compare}
use Rattle.sqlite_sql.specs.declared.ops.CompareOp.TheVariants.{Eq}
use Rattle.sqlite.specs.Collation.TheVariants.{Binary}
use Rattle.sqlite.specs.declared.types.Value.TheVariants.{Int, Null, Text, Real, Blob}
use Rattle.sqlite_sql.specs.Ops.{is_null, fits_i64}
use Rattle.sqlite.specs.Cast.{cast_row, cast}
use Rattle.sqlite_trees.specs.View.{IsStorableRow, is_int, IsShaped, IsStorable}
use Rattle.sqlite_trees.specs.declared.store.Shape.TheVariants as shape
use Rattle.std.specs.Float.{NotNan}
use Rattle.std.proofs.lemmas.List.Elements.{All-from_recursion, recursion_from_All}
use Rattle.std.proofs.lemmas.Nat.Bits.{bit_at-zero}
use Rattle.docket_tables.proofs.CellLemmas.{cast_int}
use Rattle.sqlite_trees.proofs.ListLemmas.{map-map, all-map, all-filter, filter-map, all_weaker}
use Rattle.docket_tables.proofs.CourtLemmas.{found_by}
use Rattle.sqlite_rules.specs.declared.error.Refusal.TheVariants.{Violates, Mismatch, NoRowid, BadReference, TooDeep}
use Rattle.std.proofs.Math.Logic.{∥∥₁_elim}
use mathlib.Core.HLevel.{⊥_prop}
use Rattle.docket_tables.specs.Layouts.{Rows}
use Rattle.docket_tables.specs.Stands.{Sees}
use Rattle.docket_tables.proofs.UpdateLemmas.{no_actions_on_ends}
use Rattle.std.proofs.lemmas.List.Sorted.{IsPermutation-sym, IsPermutation-refl, IsPermutation-trans, IsPermutation-map, All-permutation, list_any-IsPermutation, IsPermutation-append}
use Rattle.sqlite.specs.declared.types.Value.{Value}
use Rattle.std.proofs.lemmas.Bool.{and_parts, and_from, not-true, or_parts, or_from}
use Rattle.sqlite_value.specs.Keys.{plain}
use Rattle.sqlite.specs.Kind.TheVariants.{Integer}
use Rattle.docket_tables.proofs.RowidLemmas.{any_mapped, left}
use Rattle.docket_tables.proofs.MoveLemmas.{moved_parts, numbered_given, put_all_permutes}
use Rattle.std.proofs.lemmas.List.{length-map}
use Rattle.sqlite_schema.specs.declared.schema.Index.{Index}
use Rattle.sqlite_sql.specs.Catalog.{entry_of}
use Rattle.docket_tables.proofs.UpdateCauses.{IsSafe, IsFound, edit_by, update_caused, AreApart, keeps_unique, keeps_parents, referred, not_nan, never_over}
use Rattle.docket_tables.proofs.RowidCounts.{int_is, count, once, count_permuted, count_append, fresh_of}

abbrev ends : Shape
ends = shape_of Due

abbrev due : ℕ
due = tree_of Due

-- the rowids of the ends are numbers of 64 bits, of which the specs of the store say nothing
abbrev pub HasFitIds : Trees → Type 0
HasFitIds db = AllByRecursion (λ r. fits_i64 (id_in (rowid r)) ≡ true) (db (tree_of Due))

abbrev move_keeps : List Term
move_keeps = op2 (Compare Eq Binary) (col 1 1) (col 0 0) ∷ op2 (Compare Eq Binary) (col 1 2) (col 0 1) ∷ []

abbrev move_shows : List Term
move_shows = col 1 0 ∷ col 1 0 ∷ col 1 1 ∷ col 1 2 ∷ col 0 2 ∷ col 0 3 ∷ []

abbrev move_query : Program
move_query = record { lets = []; body = plain_query due move_keeps move_shows [] [] (lit (Int (negsuc 0))) }

move_one : IsOne move_end_text 4 (Update 8 move_query) (understood docket_schema move_end_text)
unfolding understood everything
move_one = (refl, refl, refl, (refl, refl))

ends_apart : AreApart ends docket_schema.tables
ends_apart = (inl refl, (inl refl, (inl refl, (inl refl, (inl refl, (inl refl, (inl refl, (inl refl, (inr refl, (inl refl, (inl refl, tt)))))))))))

ends_referred : (adds removes : Bool) → references_fit docket_schema ends adds removes ≡ true
unfolding Rattle.sqlite_schema.specs.Names.same_name Rattle.sqlite_value.specs.Keys.joined
ends_referred = referred ends refl refl

-- what a column of numbers holds that takes no NULL
whole : (v : Value) → is_of Integer v ≡ true → not (is_null v) ≡ true → v ≡ Int (id_in v)
whole Null typed present = absurd (let no = present in cc)
whole (Int n) typed present = refl
whole (Real x) typed present = absurd (let no = typed in cc)
whole (Text t) typed present = absurd (let no = typed in cc)
whole (Blob b) typed present = absurd (let no = typed in cc)

abbrev IsNumbered : Row → Type 0
IsNumbered r = (column r 0 ≡ Int (id_in (column r 0))) × (column r 1 ≡ Int (id_in (column r 1))) × (column r 2 ≡ Int (id_in (column r 2)))

numbered_row : (db : Trees) (r : Row) → is_int (rowid r) ≡ true → passes Datatype docket_schema db ends r ≡ true → passes NotNull docket_schema db ends r ≡ true → IsNumbered r
numbered_row db [] int typed present = absurd (let no = int in cc)
numbered_row db (x ∷ []) int typed present = absurd (true≢false (sym present))
numbered_row db (x ∷ a ∷ []) int typed present = absurd (true≢false (sym (and_parts _ _ present).1))
numbered_row db (x ∷ a ∷ b ∷ more) int typed present =
    let kinds = and_parts _ _ (and_parts _ _ typed).0 in
    let there = and_parts _ _ present in
    (int_is x int, whole a kinds.0 there.0, whole b (and_parts _ _ kinds.1).0 (and_parts _ _ there.1).0)

three_storable : (a b c : ℤ) → IsStorable 0 (Int a ∷ Int b ∷ Int c ∷ [])
three_storable a b c = record {
  typed = λ n set. absurd (omega (arith, set, bit_at-zero n));
  columns = (omega arith, omega arith);
  numbers = All-from_recursion (λ v. NotNan (number v)) (Int a ∷ Int b ∷ Int c ∷ []) (not_nan a, (not_nan b, (not_nan c, tt)));
  short = omega arith;
}

five_storable : (a b c d e : ℤ) → IsStorable 0 (Int a ∷ Int b ∷ Int c ∷ Int d ∷ Int e ∷ [])
five_storable a b c d e = record {
  typed = λ n set. absurd (omega (arith, set, bit_at-zero n));
  columns = (omega arith, omega arith);
  numbers = All-from_recursion (λ v. NotNan (number v)) (Int a ∷ Int b ∷ Int c ∷ Int d ∷ Int e ∷ []) (not_nan a, (not_nan b, (not_nan c, (not_nan d, (not_nan e, tt)))));
  short = omega arith;
}

-- an index of the ends can store its entry for the row
abbrev IsEntered : Row → Index → Type 0
IsEntered row i = i.table ≡ due → IsStorable (index_reals (table_reals ends) i.columns) (entry_of i.columns row)

all_has : {X : Type 0} (P : X → Type 0) (xs : List X) (x : X) → AllByRecursion P xs → Has xs x → P x
all_has P [] x all has = absurd has
all_has P (y ∷ ys) x all (inl is) = subst P (sym is) all.0
all_has P (y ∷ ys) x all (inr more) = all_has P ys x all.1 more

all_pass : {X : Type 0} (p : X → Bool) (xs : List X) → AllByRecursion (λ x. p x ≡ true) xs → list_all p xs ≡ true
all_pass p [] all = refl
all_pass p (x ∷ xs) all = and_from _ _ all.0 (all_pass p xs all.1)

any_weaker : {X : Type 0} (p q : X → Bool) → ((x : X) → p x ≡ false → q x ≡ false) → (xs : List X) → list_any p xs ≡ false → list_any q xs ≡ false
any_weaker p q f [] none = refl
any_weaker p q f (x ∷ xs) none = let parts = or_parts _ _ none in or_from _ _ (f x parts.0) (any_weaker p q f xs parts.1)

-- another row with the same key, and one with the same end and key too
abbrev clash : Row → Row → Bool
clash e x = agree plain (1 ∷ 2 ∷ []) x (1 ∷ 2 ∷ []) e && differ (rowid x) (rowid e)

abbrev clash_ends : Row → Row → Bool
clash_ends e x = agree plain (3 ∷ 4 ∷ 1 ∷ 2 ∷ []) x (3 ∷ 4 ∷ 1 ∷ 2 ∷ []) e && differ (rowid x) (rowid e)

clash_less : (e x : Row) → clash e x ≡ false → clash_ends e x ≡ false
unfolding Rattle.sqlite_value.specs.Keys.first_key
clash_less e x none =
    go (equal Binary (column x 3) (column e 3)) (equal Binary (column x 4) (column e 4)) (equal Binary (column x 1) (column e 1) && (equal Binary (column x 2) (column e 2) && true)) (differ (rowid x) (rowid e)) none
  where
    go : (a b c d : Bool) → (c && d) ≡ false → ((a && (b && c)) && d) ≡ false
    go true true c d h = h
    go true false c d h = refl
    go false b c d h = refl

-- the rowid and the key of a row
abbrev core : Row → Row
core r = column r 0 ∷ column r 1 ∷ column r 2 ∷ []

module _ (k d : ℕ) (day moment : ℤ) where
  abbrev params_of : Row
  params_of = Int (pos k) ∷ Int (pos d) ∷ Int day ∷ Int moment ∷ []

  abbrev matches : Row → Bool
  matches r = has_key (0 ∷ 1 ∷ []) params_of (cells (places_of Due) r)

  abbrev end_shown : Row → Row → Row
  end_shown ps r = column r 0 ∷ column r 0 ∷ column r 1 ∷ column r 2 ∷ column ps 2 ∷ column ps 3 ∷ []

  abbrev made : Row → Row
  made s = cast_row ends (drop 1 s)

  abbrev moved : Row → Row
  moved r = column r 0 ∷ column r 1 ∷ column r 2 ∷ Int day ∷ Int moment ∷ []

  abbrev after : Row → Row
  after r = cond (matches r) (moved r) r

  core_after : (r : Row) → core (after r) ≡ core r
  core_after r = elim (matches r) as (λ b. core (cond b (moved r) r) ≡ core r) [ true ↦ refl | false ↦ refl ]

  made_is : (r : Row) → IsNumbered r → made (end_shown params_of r) ≡ moved r
  made_is r is = rw (kept _ is.0, kept _ is.1, kept _ is.2, cast_int day, cast_int moment) refl
    where
      kept : (v : Value) → v ≡ Int (id_in v) → cast Integer v ≡ v
      kept v same = subst (λ w. cast Integer w ≡ w) (sym same) (cast_int (id_in v))

  all_made : (rows : List Row) → AllByRecursion IsNumbered rows → map (λ r. made (end_shown params_of r)) rows ≡ map moved rows
  all_made [] are = refl
  all_made (r ∷ rows) are = ap₂ (λ x xs. x ∷ xs) (made_is r are.0) (all_made rows are.1)

  -- a row that is written anew
  abbrev IsNew : Row → Type 0
  IsNew s = (a : ℤ) × (b : ℤ) × (c : ℤ) × (s ≡ Int a ∷ Int b ∷ Int c ∷ Int day ∷ Int moment ∷ [])

  new_row : (r : Row) → IsNumbered r → IsNew (moved r)
  new_row r is = (id_in (column r 0), id_in (column r 1), id_in (column r 2), rw (← is.0, ← is.1, ← is.2) refl)

  -- what the query found, and what is made of it
  module _ (db : Trees) (shaped : IsShaped shape.Table (db due)) (obeyed : Obeys docket_schema db) (found : List Row) (answer : IsFound ends move_query params_of db found) where
    abbrev due_rows : List Row
    due_rows = db due

    abbrev hits : List Row
    hits = filter matches due_rows

    abbrev left_rows : List Row
    left_rows = without_all due_rows (ids_of found)

    abbrev edit : Edit
    edit = edit_by ends move_query params_of db found

    numbered_rows : AllByRecursion IsNumbered due_rows
    numbered_rows =
        let typed = of_each (λ (t : Shape). AllByRecursion (λ row. passes Datatype docket_schema db t row ≡ true) (db t.tree)) (obeyed.rules Datatype) Due in
        let present = of_each (λ (t : Shape). AllByRecursion (λ row. passes NotNull docket_schema db t row ≡ true) (db t.tree)) (obeyed.rules NotNull) Due in
        go due_rows shaped.1 typed present
      where
        go : (rs : List Row) → AllByRecursion (λ r. is_int (rowid r) ≡ true) rs → AllByRecursion (λ r. passes Datatype docket_schema db ends r ≡ true) rs
            → AllByRecursion (λ r. passes NotNull docket_schema db ends r ≡ true) rs → AllByRecursion IsNumbered rs
        go [] a b c = tt
        go (r ∷ rs) a b c = (numbered_row db r a.0 b.0 c.0, go rs a.1 b.1 c.1)

    same : IsPermutation (map (end_shown params_of) hits) found
    same = found_by db due (λ ps row. has_key (0 ∷ 1 ∷ []) ps (cells (places_of Due) row)) end_shown move_keeps move_shows (λ ps row. refl) (λ ps row. refl) params_of found (answer.answer Null)

    news_same : IsPermutation (map moved hits) (map made found)
    news_same = subst (λ xs. IsPermutation xs (map made found)) (map-map made (end_shown params_of) hits ∙ all_made hits (all-filter IsNumbered matches due_rows numbered_rows)) (IsPermutation-map made _ _ same)

    abbrev id_alone : Row → Row
    id_alone s = column s 0 ∷ []

    left_is : left_rows ≡ filter (λ r. not (matches r)) due_rows
    left_is =
        let ids : IsPermutation (map id_alone hits) (map id_alone found) = subst (λ xs. IsPermutation xs (map id_alone found)) (map-map id_alone (end_shown params_of) hits) (IsPermutation-map id_alone _ _ same) in
        ap (without_all due_rows) (sym (map-map (λ (r : Row). id_in (rowid r)) id_alone found)) ∙ left matches due_rows (map id_alone found) shaped ids

    news_is : edit.news ≡ map made found
    news_is = numbered_given left_rows (map made found)

    all_same : IsPermutation (map made found ++ left_rows) (map after due_rows)
    all_same =
        subst (λ l. IsPermutation (map made found ++ l) (map after due_rows)) (sym left_is)
        (IsPermutation-trans _ _ _ (IsPermutation-append _ _ _ _ (IsPermutation-sym _ _ news_same) (IsPermutation-refl _)) (moved_parts matches moved due_rows))

    count_after : (id : ℤ) → count id (map after due_rows) ≡ count id due_rows
    count_after id =
        ap length (filter-map (has_rowid id) after due_rows) ∙ length-map _ after ∙ ap (λ (p : Row → Bool). length (filter p due_rows)) (λ i r. has_rowid id (core_after r i))

    news_int : AllByRecursion (λ r. is_int (rowid r) ≡ true) (map made found)
    news_int =
        let moved_int : AllByRecursion (λ r. is_int (rowid (moved r)) ≡ true) hits = all_weaker IsNumbered _ (λ r is. ap is_int is.0) hits (all-filter IsNumbered matches due_rows numbered_rows) in
        recursion_from_All _ _ (All-permutation (λ r. is_int (rowid r) ≡ true) _ _ news_same (All-from_recursion _ _ (all-map (λ r. is_int (rowid r) ≡ true) moved hits moved_int)))

    fresh : are_fresh left_rows (map made found) ≡ true
    fresh = fresh_of left_rows (map made found) news_int (λ id. omega (arith, once id due_rows shaped, count_after id, count_permuted id _ _ all_same, count_append id (map made found) left_rows))

    permuted : IsPermutation (map after due_rows) (edited db edit)
    permuted =
        subst (λ ns. IsPermutation (map after due_rows) (put_all left_rows ns)) (sym news_is) (IsPermutation-trans _ _ _ (IsPermutation-sym _ _ all_same) (put_all_permutes left_rows (map made found) fresh))

    lifted : (P : Row → Type 0) → AllByRecursion (λ r. P (after r)) due_rows → AllByRecursion P (edited db edit)
    lifted P all = recursion_from_All P _ (All-permutation P _ _ permuted (All-from_recursion P _ (all-map P after due_rows all)))

    -- no other row has the key, as none had it before
    one_of : (r : Row) → list_any (clash r) due_rows ≡ false → list_any (clash (after r)) (edited db edit) ≡ false
    one_of r none =
        let there : list_any (clash (after r)) (map after due_rows) ≡ list_any (clash (after r)) (edited db edit) = list_any-IsPermutation (clash (after r)) _ _ permuted in
        sym there ∙ any_mapped (clash (after r)) after due_rows ∙ ap (λ (p : Row → Bool). list_any p due_rows) (λ i x. clash (core_after r i) (core_after x i)) ∙ none

    unique_after : Keeps Unique docket_schema (with_tree db due (edited db edit))
    unique_after =
        let was = of_each (λ (t : Shape). AllByRecursion (λ row. passes Unique docket_schema db t row ≡ true) (db t.tree)) (obeyed.rules Unique) Due in
        keeps_unique ends db (edited db edit) ends_apart (obeyed.rules Unique)
        (lifted (λ row. passes Unique docket_schema (with_tree db due (edited db edit)) ends row ≡ true) (all_weaker (λ r. passes Unique docket_schema db ends r ≡ true) _ passes_after due_rows was))
      where
        passes_after : (r : Row) → passes Unique docket_schema db ends r ≡ true → passes Unique docket_schema (with_tree db due (edited db edit)) ends (after r) ≡ true
        passes_after r was =
            let old : list_any (clash r) due_rows ≡ false = not-true (list_any (clash r) due_rows) (and_parts _ _ was).0 in
            let key : list_any (clash (after r)) (edited db edit) ≡ false = one_of r old in
            let both : list_any (clash_ends (after r)) (edited db edit) ≡ false = any_weaker (clash (after r)) (clash_ends (after r)) (clash_less (after r)) (edited db edit) key in
            ap₂ (λ a b. not a && (not b && true)) key both

    -- each row has the parent that it had
    parents_after : (next : Trees) → next due ≡ edited db edit → next (tree_of Deadlines) ≡ db (tree_of Deadlines) → AllByRecursion (λ row. passes ForeignKey docket_schema next ends row ≡ true) (next due)
    unfolding Rattle.sqlite_schema.specs.Names.same_name Rattle.sqlite_value.specs.Keys.joined
    parents_after next is deadlines =
        let was = of_each (λ (t : Shape). AllByRecursion (λ row. passes ForeignKey docket_schema db t row ≡ true) (db t.tree)) (obeyed.rules ForeignKey) Due in
        subst (AllByRecursion (λ row. passes ForeignKey docket_schema next ends row ≡ true)) (sym is)
        (lifted (λ row. passes ForeignKey docket_schema next ends row ≡ true) (all_weaker (λ r. passes ForeignKey docket_schema db ends r ≡ true) _ referred_after due_rows was))
      where
        referred_after : (r : Row) → passes ForeignKey docket_schema db ends r ≡ true → passes ForeignKey docket_schema next ends (after r) ≡ true
        referred_after r was = ap₂ (λ (parents : List Row) (row : Row). list_all (has_parent docket_schema.tables (λ _. parents) row) ends.references) deadlines (core_after r) ∙ was

    news_are : AllByRecursion IsNew edit.news
    news_are =
        let all_new = all_weaker IsNumbered (λ r. IsNew (moved r)) new_row hits (all-filter IsNumbered matches due_rows numbered_rows) in
        subst (AllByRecursion IsNew) (sym news_is) (recursion_from_All IsNew _ (All-permutation IsNew _ _ news_same (All-from_recursion IsNew _ (all-map IsNew moved hits all_new))))

    each_new : (p : Row → Bool) → ((a b c : ℤ) → p (Int a ∷ Int b ∷ Int c ∷ Int day ∷ Int moment ∷ []) ≡ true) → list_all p edit.news ≡ true
    each_new p h = all_pass p edit.news (all_weaker IsNew (λ s. p s ≡ true) (λ s new. subst (λ x. p x ≡ true) (sym new.3) (h new.0 new.1 new.2)) edit.news news_are)

    -- the rowids are those that were there
    ids_fit : HasFitIds db → list_all (λ r. fits_i64 (id_in (rowid r))) edit.news ≡ true
    ids_fit wide =
        let hits_fit : AllByRecursion (λ r. fits_i64 (id_in (rowid r)) ≡ true) hits = all-filter (λ r. fits_i64 (id_in (rowid r)) ≡ true) matches due_rows wide in
        let fit : AllByRecursion (λ r. fits_i64 (id_in (rowid r)) ≡ true) (map made found) =
        recursion_from_All _ _ (All-permutation (λ r. fits_i64 (id_in (rowid r)) ≡ true) _ _ news_same (All-from_recursion _ _ (all-map (λ r. fits_i64 (id_in (rowid r)) ≡ true) moved hits hits_fit))) in
        all_pass (λ r. fits_i64 (id_in (rowid r))) edit.news (subst (AllByRecursion (λ r. fits_i64 (id_in (rowid r)) ≡ true)) (sym news_is) fit)

    move_unrefused : (why : Refusal) → IsRefused docket_schema Enforced db edit why → (why ≡ NoRowid) × ¬ HasFitIds db
    move_unrefused (Violates Datatype) bad = absurd (true≢false (sym (each_new (passes Datatype docket_schema db ends) (λ a b c. refl)) ∙ bad))
    move_unrefused (Violates NotNull) bad = absurd (true≢false (sym (each_new (passes NotNull docket_schema db ends) (λ a b c. refl)) ∙ bad))
    move_unrefused (Violates Check) bad = absurd (true≢false (sym (each_new (passes Check docket_schema db ends) (λ a b c. refl)) ∙ bad))
    move_unrefused (Violates PrimaryKey) bad = absurd (true≢false (sym (subst (λ ns. are_fresh left_rows ns ≡ true) (sym news_is) fresh) ∙ bad))
    move_unrefused (Violates Unique) bad = absurd (bad unique_after)
    move_unrefused (Violates ForeignKey) bad = absurd (bad)
    move_unrefused Mismatch bad = absurd (true≢false (sym (each_new (λ r. is_int (rowid r)) (λ a b c. refl)) ∙ bad))
    move_unrefused NoRowid bad = (refl, λ wide. true≢false (sym (ids_fit wide) ∙ bad))
    move_unrefused BadReference bad = absurd (true≢false (sym (ends_referred _ _) ∙ bad))
    move_unrefused TooDeep bad = absurd (bad)

    move_fits : (row : Row) → Has edit.news row → IsOversized docket_schema ends row → ⊥
    move_fits row has big = go (all_has IsNew edit.news row news_are has) big
      where
        entries : (a b c : ℤ) → AllByRecursion (IsEntered (Int a ∷ Int b ∷ Int c ∷ Int day ∷ Int moment ∷ [])) docket_schema.indexes
        entries a b c =
            (other refl, (other refl, (other refl, (other refl, (other refl, (other refl, (other refl, (λ e. three_storable b c a, (λ e. five_storable day moment b c a, (other refl, (other refl, tt)))))))))))
          where
            other : {m : ℕ} {P : Type 0} → (m == due) ≡ false → m ≡ due → P
            other differs e = absurd (apart _ _ differs e)

        go : IsNew row → IsOversized docket_schema ends row → ⊥
        go (a, b, c, is) (inl large) = large (subst (IsStorableRow (table_reals ends)) (sym is) (five_storable a b c day moment, omega arith))
        go (a, b, c, is) (inr (index, of, at, large)) =
            large (subst (λ r. IsStorable (index_reals (table_reals ends) index.columns) (entry_of index.columns r)) (sym is) (all_has (IsEntered (Int a ∷ Int b ∷ Int c ∷ Int day ∷ Int moment ∷ [])) docket_schema.indexes index (entries a b c) of at))

  move_safe : (db : Trees) → ((IsShaped shape.Table (db due) → ⊥) → ⊥) → Obeys docket_schema db → IsSafe ends move_query params_of db (¬ HasFitIds db)
  move_safe db there obeyed = record {
    typed = refl;
    exact = never_over due move_keeps move_shows db params_of;
    no_work = no_actions_on_ends;
    unrefused = λ found answer why bad. spared why (λ absent. there (λ shaped. absent (move_unrefused db shaped obeyed found answer why bad)));
    fits = λ found answer row has big. there (λ shaped. move_fits db shaped obeyed found answer row has big);
    refers = λ found answer next applied bad. there (λ shaped.
        let deadlines = others_same due db next applied.tables Deadlines (apart (tree_of Deadlines) due refl) in
        bad (keeps_parents ends db next ends_apart applied.tables (apart (tree_of Cases) due refl) (apart (tree_of Deadlines) due refl) (obeyed.rules ForeignKey)
        (parents_after db shaped obeyed found answer next applied.rows deadlines)));
  }
    where
      spared : (why : Refusal) → (((why ≡ NoRowid) × (¬ HasFitIds db) → ⊥) → ⊥) → (why ≡ NoRowid) × ¬ HasFitIds db
      spared NoRowid refuted = (refl, λ wide. refuted (λ both. both.1 wide))
      spared (Violates rule) refuted = absurd (refuted (λ both. let no = both.0 in cc))
      spared Mismatch refuted = absurd (refuted (λ both. let no = both.0 in cc))
      spared BadReference refuted = absurd (refuted (λ both. let no = both.0 in cc))
      spared TooDeep refuted = absurd (refuted (λ both. let no = both.0 in cc))

-- the move of an end fails only for a cause, where it does not fail for a rowid that 64 bits do not hold
pub move_end_caused : (k d : ℕ) (day moment : ℤ) (rows : Rows) (old new : State) (e : Error) → Sees old rows → (e ≡ SqliteFailure code.NoRowid → HasFitIds old.now.trees)
    → ExecutesInside 0 move_end_text (Int (pos k) ∷ Int (pos d) ∷ Int day ∷ Int moment ∷ []) old new (Err e) → HasMakingCause old new e
move_end_caused k d day moment rows old new e sees wide ran =
    let obeyed : Obeys docket_schema old.now.trees = subst (λ s. Obeys s old.now.trees) sees.shows.schema sees.shows.live.obeys in
    let there : (IsShaped shape.Table (old.now.trees due) → ⊥) → ⊥ = λ absent. ∥∥₁_elim (sees.shows.holds Due) ⊥_prop (λ was. absent was.1) in
    update_caused ends move_query 8 move_end_text (Int (pos k) ∷ Int (pos d) ∷ Int day ∷ Int moment ∷ []) (¬ HasFitIds old.now.trees) old new e refl move_one sees.shows.schema (move_safe k d day moment old.now.trees there obeyed)
    (λ is unfit. unfit (wide is)) ran

-- the error is that of a rowid, or another
rowid_or_other : (e : Error) → (e ≡ SqliteFailure code.NoRowid) ⊎ (e ≢ SqliteFailure code.NoRowid)
rowid_or_other (SqliteFailure code.NoRowid) = inl refl
rowid_or_other _ = inr (λ is. let never = is in cc)

-- and with no more known of the rowids, it has a cause, or one of them is none that 64 bits hold
pub move_end_caused_or : (k d : ℕ) (day moment : ℤ) (rows : Rows) (old new : State) (e : Error) → Sees old rows
    → ExecutesInside 0 move_end_text (Int (pos k) ∷ Int (pos d) ∷ Int day ∷ Int moment ∷ []) old new (Err e)
    → HasMakingCause old new e ⊎ ((e ≡ SqliteFailure code.NoRowid) × ¬ HasFitIds old.now.trees)
move_end_caused_or k d day moment rows old new e sees ran = at (rowid_or_other e)
  where
    uncaused : HasMakingCause old new e → e ≡ SqliteFailure code.NoRowid → ⊥
    uncaused (inl (inl disk)) is = true≢false (sym disk.0 ∙ ap is_disk_error is)
    uncaused (inl (inr (inl short))) is = let never = sym short ∙ is in cc
    uncaused (inl (inr (inr stopped))) is = let never = sym stopped.0 ∙ is in cc
    uncaused (inr shut) is = true≢false (sym sees.shows.is_open ∙ shut)

    at : (e ≡ SqliteFailure code.NoRowid) ⊎ (e ≢ SqliteFailure code.NoRowid) → HasMakingCause old new e ⊎ ((e ≡ SqliteFailure code.NoRowid) × ¬ HasFitIds old.now.trees)
    at (inl is) = inr (is, λ wide. uncaused (move_end_caused k d day moment rows old new e sees (λ _. wide) ran) is)
    at (inr differs) = inl (move_end_caused k d day moment rows old new e sees (λ is. absurd (differs is)) ran)
