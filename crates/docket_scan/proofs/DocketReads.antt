-- A docket's tables as they are read: all their rows, in the order of their keys.
use Rattle.std.proofs.Common.{◌≡◌, ◌∙◌, inl, inr, List, [], ◌++◌, map, length, true, IsTrue, None, IsPermutation, IsSorted, refl, sym, ap, subst}
use Rattle.std.proofs.Math.Logic.{∥∥₁_map}
use Rattle.std.proofs.lemmas.Bool.{false≢true}
use Rattle.std.specs.Ordering.{on}
use Rattle.sqlite.specs.Clock.{timed}
use Rattle.sqlite.specs.Effect.{Reads, ReadsFirst, RefusesToRead, is_query}
use Rattle.sqlite.specs.Listing.{understood, reads_listing, IsSourceOf}
use Rattle.sqlite.specs.Order.{Row}
use Rattle.sqlite.specs.Query.{key_cmp}
use Rattle.sqlite.specs.Tree.{Trees}
use Rattle.sqlite.specs.State.{State, IsUnchanged, IsStatement, Shown, Begins}
use Rattle.sqlite.specs.declared.types.Value.TheVariants.{Null}
use Rattle.sqlite.proofs.Callers.{command_of, begins_shown, EndsIn}
use Rattle.sqlite_resolve.specs.declared.compiled.Compiled.{Compiled}
use Rattle.sqlite_schema.specs.declared.command.Command.TheVariants.{Select as Run}
use Rattle.sqlite_trees.proofs.ListLemmas.{filter_all, all_of}
use Rattle.docket_columns.specs.declared.version.Version.{Version}
use Rattle.docket_columns.specs.declared.version.Version.TheVariants.{First, Second}
use Rattle.docket_tables.specs.Holds.{Holds, cells}
use Rattle.docket_tables.specs.Layouts.{Rows, AreRowsIn}
use Rattle.docket_tables.specs.Schema.{schema_of, tree_of, places_of}
use Rattle.docket_tables.specs.Tables.{IsTableOf}
use Rattle.docket_tables.specs.declared.table.Table.{Table}
use Rattle.docket_tables.proofs.SelectLemmas.{Answered, answers, answered_as, selects}
use Rattle.docket_scan.specs.Scans.{IsUnderstood, IsUnreadable, AreRowsOf, AreFirstRowsOf}
use Rattle.docket_scan.specs.Shapes.{columns_of}
use Rattle.docket_tables.specs.Texts.{scan_text}
use Rattle.docket_scan.proofs.AnySchema.{understood_plain}
use Rattle.docket_scan.proofs.DocketStatements.{program_of, command_is, means, never_refused, key_shown, upwards}

-- rows of SQL in the order of the key of a table
pub record AreSorted (t : Table) (all rows : List Row) : Type 0 where
  pub same : IsPermutation all rows
  pub sorted : IsSorted (on (key_shown t) (key_cmp 0 (upwards t))) rows

-- each table of the version holds its rows
held_in : (v : Version) (t : Table) → IsTableOf v t → (rows : Rows) (db : Trees) → AreRowsIn v rows db → Holds (tree_of t) (places_of t) (rows t) db
held_in First t is rows db holds = holds t is
held_in Second t is rows db holds = holds t

module _ (v : Version) (t : Table) (is : IsTableOf v t) (s : State) (schema : s.now.schema ≡ schema_of v) where
  known_command : (c : Compiled) → IsUnderstood t s c → c.command ≡ Run (program_of t) (columns_of t)
  known_command c known = ap command_of (sym known ∙ ap (λ d. understood d (scan_text t)) schema) ∙ command_is v t is

  pub never_unreadable : IsUnreadable t s → ⊥
  never_unreadable (inl (fault, refused)) =
      let clash = ap command_of (sym refused ∙ ap (λ d. understood d (scan_text t)) schema) ∙ command_is v t is in
      false≢true (ap is_query clash)
  never_unreadable (inr (c, e, known, refuses)) = never_refused v t is s schema e (subst (λ k. RefusesToRead None k s.now [] e) (known_command c known) refuses)

  -- however the first rows came, an answer begins with them
  whole_answer : IsTrue s.is_open → (first : List Row) → AreFirstRowsOf t s first → (tail : List Row) × Shown (scan_text t) [] s s (first ++ tail)
  unfolding Begins
  whole_answer is_open first (c, known, read) =
      let plain = understood_plain t s.now.schema c known in
      let statement : IsStatement s (scan_text t) [] c = record { is = known; whole = plain.0.whole; given = ap length (sym plain.0.names); now = 0 } in
      let source : IsSourceOf (reads_listing s.now.schema (scan_text t)) s.now s.now = subst (λ b. IsSourceOf b s.now s.now) (sym plain.1) refl in
      let begins : Begins (scan_text t) [] s first = (c, statement, plain.0.returning, s.now, source, subst (λ fs. ReadsFirst c.command s.now (timed [] fs 0) first) (sym plain.0.formats) read) in
      let same : IsUnchanged s s = (record { was_open = is_open; is_open = is_open; now_is = refl; committed_is = refl; mode = refl }, record { changes = refl; last_rowid = refl }, refl) in
      begins_shown (scan_text t) [] s s first begins same
      (λ d db it from. subst (λ k. EndsIn k db (timed [] d.formats it.now)) (sym (known_command d it.is)) tt)

  module _ (rows : Rows) (holds : AreRowsIn v rows s.now.trees) where
    in_order : (found : List Row) → Answered (λ row. true) (key_shown t) (upwards t) None (map (cells (places_of t)) (s.now.trees (tree_of t))) found → ∥ AreSorted t (rows t) found ∥₁
    in_order found a =
        ∥∥₁_map (answered_as (tree_of t) (places_of t) (λ row. true) (key_shown t) (upwards t) None (rows t) s.now.trees found (held_in v t is rows s.now.trees holds) a)
        (λ it.
        let all = filter_all (λ row. true) (rows t) (all_of _ (λ row. refl) (rows t)) in
        record {
          same = subst (λ xs. IsPermutation xs found) all (subst (IsPermutation _) (sym it.first) it.same);
          sorted = subst (IsSorted (on (key_shown t) (key_cmp 0 (upwards t)))) (sym it.first) it.sorted;
        })

    -- what the statement answers
    pub rows_sorted : (found : List Row) → AreRowsOf t s found → ∥ AreSorted t (rows t) found ∥₁
    rows_sorted found (c, known, read) =
        let text = means v t is in
        let answer = subst (λ k. Reads k s.now [] found) (known_command c known ∙ sym (command_is v t is) ∙ text.is) read in
        in_order found
        (answers s.now.trees (tree_of t) (places_of t) (λ params row. true) (key_shown t) (upwards t) text.keeps text.shows text.collations text.order text.limit None text.kept text.shown text.sorted text.keyed text.limited_to [] found (answer.answer Null))

    -- and what it answers of which only the first rows were read
    pub first_sorted : IsTrue s.is_open → (first : List Row) → AreFirstRowsOf t s first → (tail : List Row) × ∥ AreSorted t (rows t) (first ++ tail) ∥₁
    first_sorted is_open first begins =
        let whole = whole_answer is_open first begins in
        (whole.0, in_order (first ++ whole.0) (selects (schema_of v) (scan_text t) (tree_of t) (places_of t) (λ params row. true) (key_shown t) (upwards t) None (means v t is) [] s s (first ++ whole.0) schema whole.1))
