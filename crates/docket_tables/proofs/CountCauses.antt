-- The count of the calendar rows fails only for a cause.
use Rattle.std.proofs.Common.{◌≡◌, inl, inr, ℕ, List, [], ◌∷◌, length, true, false, Err, sym, ap, subst, arith, true≢false, ◌∙◌, ◌==◌, Bool, not, cond, ◌+◌, ◌<◌, ◌≤◌, ◌^◌, ℤ, pos, negsuc, drop, refl, IsPermutation, map, filter}
use Rattle.sqlite.specs.Edit.{Edit}
use Rattle.sqlite.specs.Command.TheVariants.{Update}
use Rattle.sqlite.specs.Listing.{understood}
use Rattle.sqlite.specs.Order.{Row, column, number}
use Rattle.sqlite.specs.State.{State, ExecutesInside}
use Rattle.sqlite.specs.Table.{Table as Shape}
use Rattle.sqlite.specs.Tree.{Trees}
use Rattle.sqlite.specs.declared.error.Error.{Error}
use Rattle.sqlite.proofs.Callers.{one_permutation}
use Rattle.sqlite_rules.specs.Edit.{IsRefused, IsOversized, left_by, edited, are_fresh}
use Rattle.sqlite_rules.specs.Lists.{Has}
use Rattle.sqlite_rules.specs.declared.error.Refusal.{Refusal}
use Rattle.sqlite_schema.specs.Rules.{Keeps, table_reals, references_fit, Obeys}
use Rattle.sqlite_schema.specs.declared.program.Program.{Program}
use Rattle.sqlite_schema.specs.declared.schema.Keys.TheVariants.{Enforced}
use Rattle.docket_tables.specs.Causes.{HasMakingCause}
use Rattle.docket_tables.specs.Schema.{docket_schema, shape_of, places_of}
use Rattle.docket_tables.proofs.MakingCauses.{IsOne}
use Rattle.docket_tables.specs.Holds.{plain_query, cells, Holds}
use Rattle.docket_tables.specs.declared.table.Table.TheVariants.{Court}
use Rattle.sqlite_schema.specs.declared.schema.Constraint.TheVariants.{Unique, ForeignKey, Datatype, NotNull, Check, PrimaryKey}
use Rattle.docket_tables.proofs.LayoutLemmas.{apart}
use Rattle.sqlite_trees.specs.Tree.{without_rowid}
use Rattle.docket_tables.specs.Statements.{count_text}
use Rattle.sqlite_tied.specs.Compute.{everything}
use Rattle.sqlite.specs.Term.{Term, lit, col, op2}
use Rattle.sqlite_sql.specs.declared.ops.BinaryOp.TheVariants.{Compare, Arith}
use Rattle.sqlite_sql.specs.declared.ops.ArithOp.TheVariants.{Add}
use Rattle.sqlite_sql.specs.declared.ops.CompareOp.TheVariants.{Eq}
use Rattle.sqlite.specs.Collation.TheVariants.{Binary}
use Rattle.sqlite.specs.declared.types.Value.TheVariants.{Int, Null, Text}
use Rattle.sqlite_sql.specs.Ops.{binary}
use Rattle.sqlite.specs.Cast.{cast_row}
use Rattle.sqlite_trees.specs.View.{IsStorableRow}
use lib.Ieee.{is_nan}
use Rattle.std.specs.Float.{NotNan}
use Rattle.std.proofs.lemmas.List.Elements.{All-from_recursion}
use Rattle.std.proofs.lemmas.Nat.Bits.{bit_at-zero}
use Rattle.docket_tables.proofs.CellLemmas.{cast_int, cast_null}
use Rattle.docket_tables.proofs.HoldsLemmas.{keyed_by, keyed_as, rowid_as}
use Rattle.sqlite_trees.proofs.ListLemmas.{all_of, filter_all}
use Rattle.docket_tables.proofs.CourtLemmas.{found_by, one_more}
use Rattle.sqlite_rules.specs.declared.error.Refusal.TheVariants.{Violates, Mismatch, NoRowid, BadReference, TooDeep}
use Rattle.docket_tables.proofs.CreateCauses.{none_has}
use Rattle.std.proofs.Math.Logic.{∥∥₁_elim}
use mathlib.Core.HLevel.{⊥_prop}
use Rattle.docket_tables.specs.Layouts.{Rows}
use Rattle.docket_tables.specs.Stands.{Sees}
use Rattle.docket_tables.proofs.UpdateLemmas.{no_actions}
use Rattle.std.proofs.lemmas.List.Sorted.{IsPermutation-sym}
use Rattle.docket_tables.proofs.UpdateCauses.{IsSafe, IsFound, edit_by, update_caused, AreApart, keeps_unique, keeps_parents, referred, not_nan, never_over}

abbrev court : Shape
court = shape_of Court

abbrev count_keeps : List Term
count_keeps = op2 (Compare Eq Binary) (col 1 0) (lit (Int (pos 1))) ∷ []

abbrev count_shows : List Term
count_shows = col 1 0 ∷ col 1 0 ∷ lit Null ∷ col 1 2 ∷ col 1 3 ∷ col 1 4 ∷ col 1 5 ∷ op2 (Arith Add) (col 1 6) (lit (Int (pos 1))) ∷ []

abbrev count_query : Program
count_query = record { lets = []; body = plain_query 0 count_keeps count_shows [] [] (lit (Int (negsuc 0))) }

count_one : IsOne count_text 0 (Update 0 count_query) (understood docket_schema count_text)
unfolding understood everything
count_one = (refl, refl, refl, (refl, refl))

court_apart : AreApart court docket_schema.tables
court_apart = (inr refl, (inl refl, (inl refl, (inl refl, (inl refl, (inl refl, (inl refl, (inl refl, (inl refl, (inl refl, (inl refl, tt)))))))))))

court_referred : (adds removes : Bool) → references_fit docket_schema court adds removes ≡ true
unfolding Rattle.sqlite_schema.specs.Names.same_name
court_referred = referred court refl refl

abbrev court_shown : Row → Row → Row
court_shown params r = column r 0 ∷ column r 0 ∷ Null ∷ column r 2 ∷ column r 3 ∷ column r 4 ∷ column r 5 ∷ binary (Arith Add) (column r 6) (Int (pos 1)) ∷ []

module _ (word zone : List ℕ) (version close : ℤ) (n : ℕ) where
  abbrev shown : ℕ → Row
  shown m = Int (pos 1) ∷ Text word ∷ Int version ∷ Text zone ∷ Int close ∷ Int (pos m) ∷ []

  abbrev queried : Row
  queried = Int (pos 1) ∷ Int (pos 1) ∷ Null ∷ Text word ∷ Int version ∷ Text zone ∷ Int close ∷ Int (pos (n + 1)) ∷ []

  abbrev stored : Row
  stored = Int (pos 1) ∷ Null ∷ Text word ∷ Int version ∷ Text zone ∷ Int close ∷ Int (pos (n + 1)) ∷ []

  stored_is : cast_row court (drop 1 queried) ≡ stored
  stored_is = rw (cast_int (pos 1), cast_null, cast_int version, cast_int close, cast_int (pos (n + 1))) refl

  storable : length word ≤ 10 ^ 6 → length zone ≤ 10 ^ 6 → IsStorableRow (table_reals court) stored
  unfolding is_nan
  storable short also_short = (
    record {
      typed = λ c set. absurd (omega (arith, set, bit_at-zero c));
      columns = (omega arith, omega arith);
      numbers = All-from_recursion (λ v. NotNan (number v)) stored (tt, (tt, (tt, (not_nan version, (tt, (not_nan close, (tt, tt)))))));
      short = omega (arith, short, also_short);
    },
    omega arith,
  )

  abbrev entry : Edit
  entry = record { table = court; gone = pos 1 ∷ []; news = stored ∷ [] }

  queried_is : (r : Row) → n + 1 < 2 ^ 63 → cells (places_of Court) r ≡ shown n → court_shown [] r ≡ queried
  queried_is r small is =
      let e0 : column r 0 ≡ Int (pos 1) = ap (λ x. column x 0) is in
      let e2 : column r 2 ≡ Text word = ap (λ x. column x 1) is in
      let e3 : column r 3 ≡ Int version = ap (λ x. column x 2) is in
      let e4 : column r 4 ≡ Text zone = ap (λ x. column x 3) is in
      let e5 : column r 5 ≡ Int close = ap (λ x. column x 4) is in
      let e6 : binary (Arith Add) (column r 6) (Int (pos 1)) ≡ Int (pos (n + 1)) = ap (λ x. binary (Arith Add) (column x 5) (Int (pos 1))) is ∙ one_more n small in
      rw (e0, e2, e3, e4, e5, e6)

  -- where the one row of the court shows that, the query finds it, and it is written anew
  module _ (small : n + 1 < 2 ^ 63) (db : Trees) (r : Row) (at : db 0 ≡ r ∷ []) (is : cells (places_of Court) r ≡ shown n) (found : List Row) (answer : IsFound court count_query [] db found) where
    alone : filter (keyed_by (pos 1)) (db 0) ≡ r ∷ []
    alone = ap (filter (keyed_by (pos 1))) at ∙ filter_all (keyed_by (pos 1)) (r ∷ []) (keyed_as (pos 1) (pos 1) r (ap (λ x. column x 0) is), tt)

    found_is : found ≡ queried ∷ []
    found_is =
        let same : IsPermutation (map (court_shown []) (filter (keyed_by (pos 1)) (db 0))) found =
        found_by db 0 (λ params. keyed_by (pos 1)) court_shown count_keeps count_shows (λ params row. refl) (λ params row. refl) [] found (answer.answer Null) in
        one_permutation _ found (subst (λ rs. IsPermutation (map (court_shown []) rs) found) alone same) ∙ ap (λ x. x ∷ []) (queried_is r small is)

    edit_is : edit_by court count_query [] db found ≡ entry
    edit_is = ap (edit_by court count_query [] db) found_is ∙ ap (λ (x : Row). record { table = court; gone = pos 1 ∷ []; news = x ∷ [] }) stored_is

    left_none : left_by db entry ≡ []
    left_none = ap (without_rowid (pos 1)) at ∙ ap (λ b. cond (not b) (r ∷ []) []) (rowid_as (pos 1) (pos 1) r (ap (λ x. column x 0) is))

    entry_unrefused : Keeps Unique docket_schema db → (why : Refusal) → IsRefused docket_schema Enforced db entry why → ⊥
    entry_unrefused obeyed (Violates Datatype) bad = true≢false bad
    entry_unrefused obeyed (Violates NotNull) bad = true≢false bad
    entry_unrefused obeyed (Violates Check) bad = true≢false bad
    entry_unrefused obeyed (Violates PrimaryKey) bad = true≢false (subst (λ rows. are_fresh rows (stored ∷ []) ≡ false) left_none bad)
    entry_unrefused obeyed (Violates Unique) bad = bad (keeps_unique court db (edited db entry) court_apart obeyed (all_of _ (λ row. refl) (edited db entry)))
    entry_unrefused obeyed (Violates ForeignKey) bad = bad
    entry_unrefused obeyed Mismatch bad = true≢false bad
    entry_unrefused obeyed NoRowid bad = true≢false bad
    entry_unrefused obeyed BadReference bad = true≢false (sym (court_referred true true) ∙ bad)
    entry_unrefused obeyed TooDeep bad = bad

    entry_fits : length word ≤ 10 ^ 6 → length zone ≤ 10 ^ 6 → (row : Row) → Has (stored ∷ []) row → IsOversized docket_schema court row → ⊥
    entry_fits short also_short row (inl same) (inl big) = big (subst (IsStorableRow (table_reals court)) (sym same) (storable short also_short))
    entry_fits short also_short row (inl same) (inr (index, has, of, big)) = apart index.table 0 (none_has (λ i. i.table == 0) docket_schema.indexes index refl has) of
    entry_fits short also_short row (inr bad) big = bad

  only : (rows : List Row) → map (cells (places_of Court)) rows ≡ shown n ∷ [] → (r : Row) × (rows ≡ r ∷ []) × (cells (places_of Court) r ≡ shown n)
  only [] e = absurd (let no = ap length e in cc)
  only (r ∷ []) e = (r, refl, (let it = e in cc))
  only (r ∷ s ∷ rows) e = absurd (let no = ap length e in omega (arith, no))

  count_safe : n + 1 < 2 ^ 63 → length word ≤ 10 ^ 6 → length zone ≤ 10 ^ 6 → (db : Trees) → Obeys docket_schema db → Holds 0 (places_of Court) (shown n ∷ []) db → IsSafe court count_query [] db ⊥
  count_safe small short also_short db obeyed holds = record {
    typed = refl;
    exact = never_over 0 count_keeps count_shows db [];
    no_work = no_actions;
    unrefused = λ found answer why bad. absurd (there (λ r at is. entry_unrefused small db r at is found answer (obeyed.rules Unique) why (subst (λ edit. IsRefused docket_schema Enforced db edit why) (edit_is small db r at is found answer) bad)));
    fits = λ found answer row has big. there (λ r at is. entry_fits small db r at is found answer short also_short row (subst (λ (edit : Edit). Has edit.news row) (edit_is small db r at is found answer) has) big);
    refers = λ found answer next applied bad. bad (keeps_parents court db next court_apart applied.tables (λ e. let no = e in cc) (λ e. let no = e in cc) (obeyed.rules ForeignKey) (all_of _ (λ row. refl) (next 0)));
  }
    where
      there : ((r : Row) → db 0 ≡ r ∷ [] → cells (places_of Court) r ≡ shown n → ⊥) → ⊥
      there absent = ∥∥₁_elim holds ⊥_prop (λ was.
          let it = only (db 0) (one_permutation _ _ (IsPermutation-sym _ _ was.0)) in absent it.0 it.1 it.2)

-- the count of the calendar rows fails only for a cause
pub count_caused : (word zone : List ℕ) (version close : ℤ) (n : ℕ) (rows : Rows) (old new : State) (e : Error) → n + 1 < 2 ^ 63 → length word ≤ 10 ^ 6 → length zone ≤ 10 ^ 6
    → rows Court ≡ (Int (pos 1) ∷ Text word ∷ Int version ∷ Text zone ∷ Int close ∷ Int (pos n) ∷ []) ∷ [] → Sees old rows
    → ExecutesInside 0 count_text [] old new (Err e) → HasMakingCause old new e
count_caused word zone version close n rows old new e small short also_short one sees ran =
    let obeyed : Obeys docket_schema old.now.trees = subst (λ s. Obeys s old.now.trees) sees.shows.schema sees.shows.live.obeys in
    let holds = subst (λ l. Holds 0 (places_of Court) l old.now.trees) one (sees.shows.holds Court) in
    update_caused court count_query 0 count_text [] ⊥ old new e refl count_one sees.shows.schema (count_safe word zone version close n small short also_short old.now.trees obeyed holds) (λ is none. none) ran
