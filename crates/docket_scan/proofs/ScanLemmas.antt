-- What the statement of a table does to any database: it shows rows, or is refused.
use Rattle.std.proofs.Common.{◌≡◌, ◌⊎◌, inl, inr, ℕ, List, [], ◌∷◌, ◌++◌, true, false, IsTrue, IsSome, Some, None, Option, Ok, Err, Result, IsErrAnd, refl, sym, ap, subst, subst₂, ◌∙◌}
use Rattle.std.proofs.lemmas.Bool.{false≢true}
use Rattle.std.proofs.lemmas.List.{append_assoc}
use Rattle.sqlite.specs.Order.{Row}
use Rattle.sqlite.specs.Store.{Ghosts}
use Rattle.sqlite.specs.Tree.{Trees}
use Rattle.sqlite.specs.Clock.{timed}
use Rattle.sqlite.specs.Effect.{Database, Reads, ReadsFirst, RefusesToRead, is_query}
use Rattle.sqlite_schema.specs.declared.command.Command.{Command}
use Rattle.sqlite_schema.specs.declared.command.Command.TheVariants.{Select as Run}
use Rattle.sqlite_resolve.specs.declared.compiled.Compiled.{Compiled}
use Rattle.sqlite_resolve.specs.declared.error.CompileError.{CompileError}
use Rattle.sqlite.specs.Held.{Held, state}
use Rattle.sqlite.specs.Listing.{understood, reads_listing, IsSourceOf}
use Rattle.sqlite.specs.State.{State, Survives, IsUnchanged, Shown, ShowsRows, Begins, CommitsShowing, FailsToQuery, FailsToShow, IsNotRun, IsNoStatement, store_error}
use Rattle.sqlite.specs.Given.{Returns, HasGiven, HasBegun}
use Rattle.sqlite.specs.declared.error.Error.{Error}
use Rattle.sqlite.specs.declared.error.Error.TheVariants.{SqliteFailure}
use Rattle.sqlite.specs.declared.error.ErrorCode.TheVariants.{OutOfMemory}
use Rattle.sqlite_trees.specs.declared.error.StoreError.{StoreError}
use Rattle.sqlite_trees.specs.declared.error.StoreError.TheVariants as store
use Rattle.sqlite.proofs.StateLemmas.{survives_weaker}
use Rattle.sqlite.proofs.Callers.{unchanged_then}
use Rattle.docket_scan.specs.Scans.{IsUnderstood, AreRowsOf, AreFirstRowsOf, IsUnreadable, is_refusal, FailsToScan, Scanned, StaysOrRollsBack}
use Rattle.docket_tables.specs.Texts.{scan_text}
use Rattle.docket_tables.specs.declared.table.Table.{Table}
pub use Rattle.docket_tables.proofs.NothingLemmas.{clean_before, nothing_then}
use Rattle.docket_scan.proofs.AnySchema.{understood_plain}

-- what had stayed as it was, and then stays or is undone
pub stays_then : (first old new : State) → IsUnchanged first old → StaysOrRollsBack old new → StaysOrRollsBack first new
stays_then first old new same (inl still) = inl (unchanged_then first old new same still)
stays_then first old new same (inr undone) = inr (record {
  was_open = λ _. same.0.was_open;
  undone = λ opened. ((undone.undone opened).0 ∙ same.0.committed_is, (undone.undone opened).1 ∙ same.0.committed_is);
  autocommit = undone.autocommit;
  unmarked = undone.unmarked;
  counts = record { changes = undone.counts.changes ∙ same.1.changes; last_rowid = undone.counts.last_rowid ∙ same.1.last_rowid };
})

no_some : {X : Type 0} (o : Option X) → o ≡ None → IsSome o → ⊥
no_some None none some = absurd (let e = some in cc)
no_some (Some x) none some = absurd cc

module _ (t : Table) where
  pub never_commits : (s : State) (db : Trees) → CommitsShowing (scan_text t) [] s db → ⊥
  unfolding CommitsShowing
  never_commits s db h = no_some h.0.returning (understood_plain t s.now.schema h.0 h.1.is).0.returning h.2

  pub writes_nothing : (old new : State) → Survives old new (CommitsShowing (scan_text t) [] old) → Survives old new (λ _. ⊥)
  writes_nothing old new = survives_weaker old new _ _ (λ _ db. never_commits old db)

  pub source_is : (s : State) (c : Compiled) (db : Database) → IsUnderstood t s c → IsSourceOf (reads_listing s.now.schema (scan_text t)) s.now db → db ≡ s.now
  source_is s c db known from = subst (λ b. IsSourceOf b s.now db) (understood_plain t s.now.schema c known).1 from

  pub no_times : (s : State) (c : Compiled) (now : ℕ) → IsUnderstood t s c → timed [] c.formats now ≡ []
  no_times s c now known = ap (λ fs. timed [] fs now) (understood_plain t s.now.schema c known).0.formats

  pub rows_shown : (old new : State) (rows : List Row) → Shown (scan_text t) [] old new rows → AreRowsOf t old rows × IsUnchanged old new
  unfolding Shown
  rows_shown old new rows h =
      let known = h.1.is in
      let none = (understood_plain t old.now.schema h.0 known).0.returning in
      let it = subst (ShowsRows old new (scan_text t) h.0 (timed [] h.0.formats h.1.now) rows) none h.2 in
      ((h.0, known, subst₂ (λ d p. Reads h.0.command d p rows) (source_is old h.0 it.0 known it.1) (no_times old h.0 h.1.now known) it.2), it.3)

  pub first_rows_shown : (s : State) (rows : List Row) → Begins (scan_text t) [] s rows → AreFirstRowsOf t s rows
  unfolding Begins
  first_rows_shown s rows h =
      let known = h.1.is in
      (h.0, known, subst₂ (λ d p. ReadsFirst h.0.command d p rows) (source_is s h.0 h.3 known h.4) (no_times s h.0 h.1.now known) h.5)

  never_returns : (schema : _) → Returns (understood schema (scan_text t)) → ⊥
  never_returns schema = at (understood schema (scan_text t)) refl
    where
      at : (r : Result Compiled CompileError) → understood schema (scan_text t) ≡ r → Returns r → ⊥
      at (Ok c) is some = no_some c.returning (understood_plain t schema c is).0.returning some
      at (Err e) is some = some

  pub begun : {S : Type 0} (g : Ghosts S) (old new : Held S) → HasBegun g (scan_text t) [] old new → HasGiven g (scan_text t) [] new [] × IsUnchanged (state g old) (state g new)
  begun g old new (inl h) = h
  begun g old new (inr h) = absurd (never_returns old.schema h.0)

  -- errors
  no_refusal : (e : StoreError) → is_refusal (store_error e) ≡ false
  no_refusal store.OutOfMemory = refl
  no_refusal store.Io = refl
  no_refusal store.Corrupt = refl
  no_refusal store.Full = refl
  no_refusal store.Broken = refl
  no_refusal store.Unstorable = refl

  limitless : (limit : Option ℕ) (k : Command) (db : Database) (e : Error) → is_query k ≡ true → IsTrue (is_refusal e) → RefusesToRead limit k db [] e → RefusesToRead None k db [] e
  limitless limit (Run q names) db e query refusal (inl typed) = inl typed
  limitless limit (Run q names) db e query refusal (inr (inl over)) = inr (inl over)
  limitless limit (Run q names) db e query refusal (inr (inr stopped)) = absurd (let never = rw stopped.0 at refusal in cc)
  limitless limit _ db e query refusal h = absurd cc

  -- why it was refused, or failed
  module _ (old new : State) (e : Error) where
    unreadable : FailsToQuery (scan_text t) [] old new e → IsTrue (is_refusal e) → IsUnreadable t old × IsUnchanged old new
    unfolding FailsToQuery IsNotRun
    unreadable (inl (inl never)) refusal = (misread never.0, never.1)
      where
        misread : IsNoStatement old (scan_text t) [] e → IsUnreadable t old
        misread (inl known) = inl (known.0, known.1)
        misread (inr (c, known, inl (more, is))) = absurd (let never = rw is at refusal in cc)
        misread (inr (c, known, inr (inl (more, is)))) = absurd (let never = rw is at refusal in cc)
        misread (inr (c, known, inr (inr (timed, is)))) = absurd (let never = rw is at refusal in cc)
    unreadable (inl (inr fails)) refusal = absurd (let never = rw (fails.1, no_refusal fails.0) at refusal in cc)
    unreadable (inr run) refusal =
        let known = run.1.is in
        let plain = (understood_plain t old.now.schema run.0 known).0 in
        let it = subst (FailsToShow old new (scan_text t) run.0 (timed [] run.0.formats run.1.now) e) plain.returning run.2 in
        let read = subst₂ (λ d p. RefusesToRead old.step_limit run.0.command d p e) (source_is old run.0 it.0 known it.1) (no_times old run.0 run.1.now known) it.2 in
        (inr (run.0, e, known, limitless old.step_limit run.0.command old.now e plain.query refusal read), it.3)

    left_by : FailsToQuery (scan_text t) [] old new e → StaysOrRollsBack old new
    unfolding FailsToQuery IsNotRun
    left_by (inl (inl never)) = inl never.1
    left_by (inl (inr fails)) = inr fails.3
    left_by (inr run) =
        let plain = (understood_plain t old.now.schema run.0 run.1.is).0 in
        inl (subst (FailsToShow old new (scan_text t) run.0 (timed [] run.0.formats run.1.now) e) plain.returning run.2).3

    pub fails_to_scan : FailsToQuery (scan_text t) [] old new e → FailsToScan t old new e
    fails_to_scan h = (left_by h, unreadable h)

  -- the same, where the database is as it was before
  module _ (first old : State) (same : IsUnchanged first old) where
    pub rows_before : (rows : List Row) → AreRowsOf t old rows → AreRowsOf t first rows
    rows_before rows h = subst (λ (d : Database). (c : Compiled) × (understood d.schema (scan_text t) ≡ Ok c) × Reads c.command d [] rows) same.0.now_is h

    pub first_rows_before : (rows : List Row) → AreFirstRowsOf t old rows → AreFirstRowsOf t first rows
    first_rows_before rows h = subst (λ (d : Database). (c : Compiled) × (understood d.schema (scan_text t) ≡ Ok c) × ReadsFirst c.command d [] rows) same.0.now_is h

    pub fails_before : (new : State) (e : Error) → FailsToScan t old new e → FailsToScan t first new e
    fails_before new e h = (stays_then first old new same h.0, λ refusal. again (h.1 refusal))
      where
        again : IsUnreadable t old × IsUnchanged old new → IsUnreadable t first × IsUnchanged first new
        again it = (subst (λ (d : Database). ((fault : CompileError) × (understood d.schema (scan_text t) ≡ Err fault)) ⊎ ((c : Compiled) × (x : Error) × (understood d.schema (scan_text t) ≡ Ok c) × RefusesToRead None c.command d [] x)) same.0.now_is it.0, unchanged_then first old new same it.1)

-- an error that is passed on
pub err_scanned : (t : Table) (old new : State) (HasTaken IsSound : List Row → Type 0) (r : Result (Option ℕ) Error) (e : Error) → IsErrAnd r (λ f. f ≡ e) → FailsToScan t old new e → Scanned t old new HasTaken IsSound r
err_scanned t old new HasTaken IsSound (Ok count) e same fails = absurd same
err_scanned t old new HasTaken IsSound (Err f) e same fails = subst (FailsToScan t old new) (sym same) fails

-- out of memory is no refusal
pub memory_fails : (t : Table) (old new : State) → IsUnchanged old new → FailsToScan t old new (SqliteFailure OutOfMemory)
memory_fails t old new same = (inl same, λ refusal. absurd (false≢true refusal))

-- what was scanned holds of the same connection by another name
pub scanned_still : {S : Type 0} (g : Ghosts S) (t : Table) (first : State) (last end : Held S) (HasTaken IsSound : List Row → Type 0) (r : Result (Option ℕ) Error)
    → last ≡ end → Scanned t first (state g last) HasTaken IsSound r → Scanned t first (state g end) HasTaken IsSound r
scanned_still g t first last end HasTaken IsSound r same told = subst (λ h. Scanned t first (state g h) HasTaken IsSound r) same told

-- the next row is refused, whatever follows it
pub refused_then : {Context : Type 0} (IsSound : Context → List Row → Type 0) (was now : Context) (given : List Row) (row : Row) → was ≡ now
    → ((more : List Row) → IsSound was (given ++ row ∷ more) → ⊥) → (more : List Row) → IsSound now ((given ++ row ∷ []) ++ more) → ⊥
refused_then IsSound was now given row same refused more sound =
    refused more (subst (λ k. IsSound k (given ++ row ∷ more)) (sym same) (subst (IsSound now) (append_assoc given (row ∷ []) more) sound))
