use Rattle.docket_orderly.proofs.ParentLemmas.{any_of_run, any_filtered}
use Rattle.docket_decisions.proofs.AddedEnds.{among_more}
use Rattle.docket_tables.proofs.ChangeCauses.{fault_after, fault_passed, reading_changes}
use Rattle.docket_tables.specs.Causes.{IsChangeFault}
use Rattle.docket_tables.specs.declared.fault.ReadFault.TheVariants.{NoMemory}
use Rattle.sqlite.specs.State.{HasCleanDisk}
use Rattle.docket_applying.specs.Sound.{IsSoundCase}
use Rattle.docket_decisions.specs.Additions.{AddsOnce, AddsAmong}
use Rattle.docket_decisions.specs.Tables.{Tables, deadlines_in}
use Rattle.docket_decisions.specs.declared.end_row.EndChange.{EndChange}
use Rattle.docket_decisions.proofs.Leading.{length-deadlines_from}
use Rattle.docket_orderly.specs.Additions.{HasDeadline}
use Rattle.docket_orderly.specs.Orderly.{IsOrderly}
use Rattle.docket_history.specs.declared.row.DeadlineRow.{DeadlineRow}
use Rattle.docket_history.specs.declared.view.DeadlineView.{DeadlineView}
use Rattle.court_days.specs.Court.{CourtSettings}
use Rattle.std.specs.Prelude.{◌==◌}
use Rattle.std.proofs.lemmas.Result.{IfErr-weaker}
use Rattle.std.proofs.Common.{◌≡◌, ◌∙◌, ◌++◌, ◌≤◌, ℕ, List, length, sym, subst, arith}
use Rattle.std.proofs.lemmas.Bool.Decides.{nat_tests}
use Rattle.std.proofs.lemmas.List.{nil_from_length}
use Rattle.sqlite.specs.Held.{state}
use Rattle.docket_decisions.specs.EndRows.{AreRowsFrom, all_changed_ends}
use Rattle.docket_history.specs.Histories.{deadlines_of_case, deadlines_from}
use Rattle.docket_tables.specs.AnyRows.{with_stored}
use Rattle.docket_tables.specs.Contents.{rows_with, ends_of}
use Rattle.docket_applying.specs.Settling.{settled_case}
use Rattle.docket_tables.proofs.InsideLemmas.{failed_after, stays_after, went_after, inside_after, inside_with}
use Rattle.docket_tables.proofs.EndLemmas.{sees_permuted}
use Rattle.docket_applying.proofs.SettlingLemmas.{others_of, others_apart, parted, settled_bare, settling_ends}
use Rattle.docket_applying.proofs.settling.settle_case.Goals as goal

pub returns-in_err-stored-clause-inside : goal.returns-in_err-stored-clause-inside
returns-in_err-stored-clause-inside g c t ends orderly are only =
    let court = c.args.court.now in
    failed_after (state g.S.Store c.args.tx.now.conn.now) (state g.S.Store c.ends_of_case.new.tx.conn.now) (rows_with court t ends) _ c.from_residual.result _
    (λ sees. (c.ends_of_case.ensures.inside court t ends are sees).0) c.from_residual.ensures.0

pub returns-then-is_empty-clause-inside : goal.returns-then-is_empty-clause-inside
returns-then-is_empty-clause-inside g c t ends orderly are only sees =
    let court = c.args.court.now in
    let k = c.args.case in
    let new = state g.S.Store c.ends_of_case.new.tx.conn.now in
    let read = c.in_ok-stored.ensures.inside court t ends are sees in
    let stored = c.in_ok-stored.stored.items in
    let empty : length stored ≡ 0 = grind (arith, nat_tests, c.is_empty.ensures, c.if-is_empty.true) in (
      read.0,
      λ clean.
          let found = read.1 clean in
          let bare = settled_bare court c.args.calendar.now t k ends only (sym found.1 ∙ nil_from_length stored empty) in
          (sees_permuted new court t ends (settled_case court c.args.calendar.now t k ends) bare found.0, tt),
    )

pub returns-in_err-deadlines-clause-inside : goal.returns-in_err-deadlines-clause-inside
returns-in_err-deadlines-clause-inside g c t ends orderly are only =
    let court = c.args.court.now in
    let rows = rows_with court t ends in
    let start = state g.S.Store c.args.tx.now.conn.now in
    let mid = state g.S.Store c.ends_of_case.new.tx.conn.now in
    let new = state g.S.Store c.views_of_case.new.tx.conn.now in
    failed_after start new rows _ c.from_residual-in_err-deadlines.result _
    (stays_after start mid new rows rows _ (c.in_ok-stored.ensures.inside court t ends are) (λ sees. (c.views_of_case.ensures.inside court t ends orderly sees).0)) c.from_residual-in_err-deadlines.ensures.0

pub returns-in_err-changes-clause-inside : goal.returns-in_err-changes-clause-inside
returns-in_err-changes-clause-inside g c t ends orderly are only =
    let court = c.args.court.now in
    let rows = rows_with court t ends in
    let start = state g.S.Store c.args.tx.now.conn.now in
    let mid = state g.S.Store c.ends_of_case.new.tx.conn.now in
    let new = state g.S.Store c.views_of_case.new.tx.conn.now in
    failed_after start new rows _ c.from_residual-in_err-changes.result _
    (stays_after start mid new rows rows _ (c.in_ok-stored.ensures.inside court t ends are) (λ sees. (c.in_ok-deadlines.ensures.inside court t ends orderly sees).0)) c.from_residual-in_err-changes.ensures.0

pub returns-clause-inside : goal.returns-clause-inside
returns-clause-inside g c t ends orderly are only =
    let court = c.args.court.now in
    let k = c.args.case in
    let rows = rows_with court t ends in
    let start = state g.S.Store c.args.tx.now.conn.now in
    let mid = state g.S.Store c.ends_of_case.new.tx.conn.now in
    let read = state g.S.Store c.views_of_case.new.tx.conn.now in
    let new = state g.S.Store c.change_ends.new.tx.conn.now in
    let entered = c.args.calendar.now in
    let deadlines = c.in_ok-deadlines.deadlines.items in
    let stored = c.in_ok-stored.stored.items in
    let Shown = deadlines ≡ deadlines_from k 1 t.acts (deadlines_of_case k t.deadlines) in
    let Stored = stored ≡ ends_of k ends in
    let both = went_after start mid read rows rows rows Stored Shown (Shown × Stored) (c.in_ok-stored.ensures.inside court t ends are) (c.in_ok-deadlines.ensures.inside court t ends orderly) (λ held shown. (shown, held)) in
    let step = rw c.as_slice-3.ensures.value at (c.change_ends.ensures.inside court t (others_of k ends ++ ends_of k ends)) in
    inside_with start read new rows rows (rows_with court t (settled_case court entered t k ends)) (Shown × Stored) c.change_ends.result (λ _. Unit {0}) both
    (λ sees. (step (λ clean. sees_permuted read court t ends (others_of k ends ++ ends_of k ends) (parted k ends) (sees clean))).0)
    (λ clean facts sees.
    settling_ends court entered t k ends are read new c.change_ends.result c.in_ok-changes.changes.items stored deadlines step
    (rw (c.as_slice.ensures.value, c.as_slice-2.ensures.value) at (c.in_ok-changes.ensures.rows (others_of k ends) (others_apart k ends) (subst (AreRowsFrom k 1) (sym (c.as_slice-2.ensures.value ∙ facts.1)) are.rows))) facts.0 facts.1 clean sees)

pub returns-in_err-stored-clause-any : goal.returns-in_err-stored-clause-any
returns-in_err-stored-clause-any g c stored rows =
    let held = with_stored stored rows in (
      stored,
      failed_after (state g.S.Store c.args.tx.now.conn.now) (state g.S.Store c.ends_of_case.new.tx.conn.now) held held c.from_residual.result _
          (λ sees. (c.ends_of_case.ensures.still held sees).0) c.from_residual.ensures.0,
    )

pub returns-then-is_empty-clause-any : goal.returns-then-is_empty-clause-any
returns-then-is_empty-clause-any g c stored rows = (stored, c.in_ok-stored.ensures.still (with_stored stored rows))

pub returns-in_err-deadlines-clause-any : goal.returns-in_err-deadlines-clause-any
returns-in_err-deadlines-clause-any g c stored rows =
    let held = with_stored stored rows in
    let start = state g.S.Store c.args.tx.now.conn.now in
    let mid = state g.S.Store c.ends_of_case.new.tx.conn.now in
    let new = state g.S.Store c.views_of_case.new.tx.conn.now in (
      stored,
      failed_after start new held held c.from_residual-in_err-deadlines.result _
          (stays_after start mid new held held _ (c.in_ok-stored.ensures.still held) (λ sees. (c.views_of_case.ensures.still held sees).0)) c.from_residual-in_err-deadlines.ensures.0,
    )

pub returns-in_err-changes-clause-any : goal.returns-in_err-changes-clause-any
returns-in_err-changes-clause-any g c stored rows =
    let held = with_stored stored rows in
    let start = state g.S.Store c.args.tx.now.conn.now in
    let mid = state g.S.Store c.ends_of_case.new.tx.conn.now in
    let new = state g.S.Store c.views_of_case.new.tx.conn.now in (
      stored,
      failed_after start new held held c.from_residual-in_err-changes.result _
          (stays_after start mid new held held _ (c.in_ok-stored.ensures.still held) (λ sees. (c.in_ok-deadlines.ensures.still held sees).0)) c.from_residual-in_err-changes.ensures.0,
    )

pub returns-clause-any : goal.returns-clause-any
returns-clause-any g c stored rows =
    let held = with_stored stored rows in
    let start = state g.S.Store c.args.tx.now.conn.now in
    let mid = state g.S.Store c.ends_of_case.new.tx.conn.now in
    let read = state g.S.Store c.views_of_case.new.tx.conn.now in
    let new = state g.S.Store c.change_ends.new.tx.conn.now in
    let next = all_changed_ends c.as_slice-3.result.now stored in
    let both = went_after start mid read held held held (Unit {0}) (Unit {0}) (Unit {0}) (c.in_ok-stored.ensures.still held) (c.in_ok-deadlines.ensures.still held) (λ a b. tt) in
    (next, inside_after start read new held held (with_stored next rows) (Unit {0}) c.change_ends.result (λ _. Unit {0}) (λ _. Unit {0}) both (c.change_ends.ensures.any stored rows) (λ a y b. tt))

-- a deadline stands whose number is at most the count of those of its case
deadline_stands : (court : CourtSettings) (t : Tables) (k n : ℕ) → IsOrderly court t → 1 ≤ n → n ≤ length (deadlines_in t k) → HasDeadline t k n
deadline_stands court t k n orderly low high =
    let own = deadlines_of_case k t.deadlines in
    let count = length-deadlines_from k 1 t.acts own in
    any_filtered (λ r. r.case == k) (λ r. r.number == n) t.deadlines (any_of_run (λ (r : DeadlineRow). r.number) 1 n own (orderly.deadlines_run k) low (omega (arith, high, count)))

-- the ends that are added to case k are of deadlines that stand
among_standing : (court : CourtSettings) (t : Tables) (k : ℕ) (deadlines : List DeadlineView) (changes : List EndChange) → IsOrderly court t → deadlines ≡ deadlines_in t k
    → AddsAmong (λ j n. (j ≡ k) × (1 ≤ n) × (n ≤ length deadlines)) changes → AddsAmong (HasDeadline t) changes
among_standing court t k deadlines changes orderly shown among =
    among_more _ (HasDeadline t) (λ j n h. subst (λ i. HasDeadline t i n) (sym h.0) (deadline_stands court t k n orderly h.1 (subst (λ ds. n ≤ length ds) shown h.2))) changes among

pub returns-in_err-stored-clause-cause : goal.returns-in_err-stored-clause-cause
returns-in_err-stored-clause-cause g c clean t ends orderly sound are sees =
    let start = state g.S.Store c.args.tx.now.conn.now in
    let new = state g.S.Store c.ends_of_case.new.tx.conn.now in
    let fault = c.in_err-stored.field-0.0 in
    fault_passed start new fault c.from_residual.result c.from_residual.ensures.1 (reading_changes start new fault (c.in_err-stored.ensures.cause clean c.args.court.now t ends are sees))

pub returns-in_err-deadlines-clause-cause : goal.returns-in_err-deadlines-clause-cause
returns-in_err-deadlines-clause-cause g c clean t ends orderly sound are sees =
    let court = c.args.court.now in
    let start = state g.S.Store c.args.tx.now.conn.now in
    let mid = state g.S.Store c.ends_of_case.new.tx.conn.now in
    let new = state g.S.Store c.views_of_case.new.tx.conn.now in
    let between : HasCleanDisk mid = omega (arith, clean, c.views_of_case.ensures.clean) in
    let went = c.in_ok-stored.ensures.inside court t ends are (λ _. sees) in
    let fault = c.in_err-deadlines.field-0.0 in
    fault_passed start new fault c.from_residual-in_err-deadlines.result c.from_residual-in_err-deadlines.ensures.1
    (fault_after start mid new new fault went.0.survives.counts (omega arith) went.0.survives.limit (reading_changes mid new fault (c.in_err-deadlines.ensures.cause clean court t ends orderly (went.1 between).0)))

pub returns-in_err-changes-clause-cause : goal.returns-in_err-changes-clause-cause
returns-in_err-changes-clause-cause g c clean t ends orderly sound are sees =
    let court = c.args.court.now in
    let k = c.args.case in
    let start = state g.S.Store c.args.tx.now.conn.now in
    let mid = state g.S.Store c.ends_of_case.new.tx.conn.now in
    let new = state g.S.Store c.views_of_case.new.tx.conn.now in
    let between : HasCleanDisk mid = omega (arith, clean, c.views_of_case.ensures.clean) in
    let went = c.in_ok-stored.ensures.inside court t ends are (λ _. sees) in
    let read = c.in_ok-deadlines.ensures.inside court t ends orderly (λ _. (went.1 between).0) in
    let shown = c.as_slice.ensures.value ∙ (read.1 clean).1 in
    let fault = c.in_err-changes.field-0.0 in
    let short : fault ≡ NoMemory = c.in_err-changes.ensures.short (subst (IsSoundCase court) (sym shown) (sound.cases k)) in
    fault_passed start new fault c.from_residual-in_err-changes.result c.from_residual-in_err-changes.ensures.1 (subst (IsChangeFault start new) (sym short) tt)

pub returns-clause-cause : goal.returns-clause-cause
returns-clause-cause g c clean t ends orderly sound are sees =
    let court = c.args.court.now in
    let k = c.args.case in
    let start = state g.S.Store c.args.tx.now.conn.now in
    let mid = state g.S.Store c.ends_of_case.new.tx.conn.now in
    let read = state g.S.Store c.views_of_case.new.tx.conn.now in
    let new = state g.S.Store c.change_ends.new.tx.conn.now in
    let rows = rows_with court t ends in
    let parts = others_of k ends ++ ends_of k ends in
    let changes = c.in_ok-changes.changes.items in
    let deadlines = c.in_ok-deadlines.deadlines.items in
    let stored = c.in_ok-stored.stored.items in
    let Shown = deadlines ≡ deadlines_in t k in
    let Stored = stored ≡ ends_of k ends in
    let before : HasCleanDisk read = omega (arith, clean, c.change_ends.ensures.clean) in
    let both = went_after start mid read rows rows rows Stored Shown (Shown × Stored) (c.in_ok-stored.ensures.inside court t ends are) (c.in_ok-deadlines.ensures.inside court t ends orderly) (λ held shown. (shown, held)) (λ _. sees) in
    let facts = both.1 before in
    let held = c.as_slice-2.ensures.value ∙ facts.1.1 in
    let shown = c.as_slice.ensures.value ∙ facts.1.0 in
    let made = c.in_ok-changes.ensures.once (others_of k ends) (others_apart k ends) (subst (AreRowsFrom k 1) (sym held) are.rows) in
    let is = c.as_slice-3.ensures.value in
    let once = subst (λ xs. AddsOnce xs parts) (sym is) (subst (λ own. AddsOnce changes (others_of k ends ++ own)) held made.0) in
    let among = subst (AddsAmong (HasDeadline t)) (sym is) (among_standing court t k c.as_slice.result.now changes orderly shown made.1) in
    IfErr-weaker c.change_ends.result _ _ (λ fault h. fault_after start read new new fault both.0.survives.counts (omega arith) both.0.survives.limit h)
    (c.change_ends.ensures.cause clean court t parts (sees_permuted read court t ends parts (parted k ends) facts.0) once among)
