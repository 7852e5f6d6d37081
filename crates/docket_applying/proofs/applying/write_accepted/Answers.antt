use Rattle.std.proofs.Common.{◌+◌, ◌<◌, ◌^◌, inl, inr, inr as right, length, refl, sym, subst, arith}
use Rattle.sqlite.specs.Held.{state}
use Rattle.sqlite.specs.State.{HasCleanDisk}
use Rattle.docket_history.specs.Histories.{History}
use Rattle.docket_decisions.specs.Tables.{rows_of}
use Rattle.docket_wire.specs.Writing.{canonical}
use Rattle.docket_tables.proofs.ChangeCauses.{change_after}
use Rattle.docket_tables.specs.Causes.{IsLater}
use Rattle.docket_applying.specs.Applying.{Keeps}
use Rattle.docket_applying.specs.Causes.{HasWriteCause}
use Rattle.docket_applying.proofs.AnyLemmas.{written_or_not}
use Rattle.docket_applying.proofs.ApplyLemmas.{after_accepted, docket_after, numbers_fit, rows_after, update_written, holds_same, either_same, faults_of}
use Rattle.docket_applying.proofs.FailureLemmas.{kept_caused, later_then}
use Rattle.docket_applying.proofs.WriteLemmas.{lengths, may_write}
use Rattle.docket_applying.proofs.applying.write_accepted.Goals as goal

pub returns-in-Ok-clause-kept : goal.returns-in-Ok-clause-kept
returns-in-Ok-clause-kept g c h stands accepts =
    let court = c.args.court.now in
    let command = c.args.command.now in
    let changes = c.args.changes.now in
    let before : HasCleanDisk (state g.S.Store c.write.new.conn) → HasCleanDisk (state g.S.Store c.args.conn.now) = λ clean. omega (arith, c.write.ensures.clean) in
    let ready = λ (clean : HasCleanDisk (state g.S.Store c.args.conn.now)). update_written court h command changes stands.docket c.requires.lawful (accepts clean) in
    let wrote = c.in-Ok.ensures.either (rows_of court h) (numbers_fit court h _ stands.docket c.changes_fit.ensures) stands.rows ready in (
      record {
        docket = docket_after court h command stands.docket c.requires.lawful;
        serves = stands.serves;
        rows = holds_same g.S.Store c.write.new.conn _ _ (λ clean. rows_after court h command changes (accepts (before clean))) wrote;
        calendar = λ clean.
            subst (λ (x : History). Keeps c.drop_changed_calendar.new.kept x) (sym (after_accepted court h command _ (accepts (before clean)).0))
            (c.drop_changed_calendar.ensures h command refl (stands.calendar (before clean))).1;
      },
      λ clean. inl (accepts (before clean)).0,
    )

pub returns-in-Err-clause-kept : goal.returns-in-Err-clause-kept
returns-in-Err-clause-kept g c h stands accepts =
    let court = c.args.court.now in
    let command = c.args.command.now in
    let changes = c.args.changes.now in
    let before : HasCleanDisk (state g.S.Store c.write.new.conn) → HasCleanDisk (state g.S.Store c.args.conn.now) = λ clean. omega (arith, c.write.ensures.clean) in
    let ready = λ (clean : HasCleanDisk (state g.S.Store c.args.conn.now)). update_written court h command changes stands.docket c.requires.lawful (accepts clean) in
    let wrote = c.in-Err.ensures.either (rows_of court h) (numbers_fit court h _ stands.docket c.changes_fit.ensures) stands.rows ready in
    let fails = c.store_fault.ensures.left _ _ (either_same g.S.Store c.write.new.conn _ _ _ (λ clean. rows_after court h command changes (accepts (before clean))) wrote) in
    faults_of g.S.Store c.store_fault.new.conn court c.drop_changed_calendar.new.kept h command c.store_fault.result stands.docket
    (λ clean. (c.drop_changed_calendar.ensures h command refl (stands.calendar (before (omega (arith, c.store_fault.ensures.writes_nothing.clean))))).0) fails

pub returns-in-Ok-clause-any : goal.returns-in-Ok-clause-any
returns-in-Ok-clause-any g c rows n stored are small holds =
    let changes = c.args.changes.now.rows.items in
    let fits : n + length changes < 2 ^ 63 = omega (arith, small, c.changes_fit.ensures) in
    let wrote = c.in-Ok.ensures.any n stored rows are fits holds in
    right (_, record { changes = changes; stored = wrote.0; is = refl }, wrote.2)

pub returns-in-Err-clause-any : goal.returns-in-Err-clause-any
returns-in-Err-clause-any g c rows n stored are small holds =
    let changes = c.args.changes.now.rows.items in
    let fits : n + length changes < 2 ^ 63 = omega (arith, small, c.changes_fit.ensures) in
    let wrote = c.in-Err.ensures.any n stored rows are fits holds in
    written_or_not g.S.Store c.store_fault.new.conn rows c.args.court.now n c.args.command.now c.args.changes.now.reply _ (record { changes = changes; stored = wrote.0; is = refl }) c.store_fault.ensures.idle c.store_fault.result
    (c.store_fault.ensures.left rows _ wrote.2)

pub returns-in-Err-clause-cause : goal.returns-in-Err-clause-cause
returns-in-Err-clause-cause g c h stands accepts clean =
    let court = c.args.court.now in
    let command = c.args.command.now in
    let changes = c.args.changes.now in
    let start = state g.S.Store c.args.conn.now in
    let wrote = state g.S.Store c.write.new.conn in
    let last = state g.S.Store c.store_fault.new.conn in
    let written : HasCleanDisk wrote = omega (arith, clean, c.store_fault.ensures.writes_nothing.clean) in
    let at_start : HasCleanDisk start = omega (arith, written, c.write.ensures.clean) in
    let accepted = accepts at_start in
    let e = c.in-Err.error in
    let cause : HasWriteCause command start last e = elim (lengths (length (canonical command)) (10 ^ 7)) [
      | inl short ↦ inl (change_after start start wrote last e (omega arith) c.store_fault.ensures.writes_nothing.counts refl
          (c.in-Err.ensures.cause written (rows_of court h) (numbers_fit court h _ stands.docket c.changes_fit.ensures) stands.rows (update_written court h command changes stands.docket c.requires.lawful accepted)
          (may_write court h command changes stands.docket c.requires.lawful accepted short)))
      | inr long ↦ inr long
    ] in
    kept_caused command start last c.store_fault.new.failure e c.store_fault.result c.store_fault.ensures.kept cause

pub returns-in-Ok-clause-later : goal.returns-in-Ok-clause-later
returns-in-Ok-clause-later g c h stands accepts clean =
    let court = c.args.court.now in
    let command = c.args.command.now in
    let at_start : HasCleanDisk (state g.S.Store c.args.conn.now) = omega (arith, clean, c.write.ensures.clean) in
    c.write.ensures.later clean (rows_of court h) (numbers_fit court h _ stands.docket c.changes_fit.ensures) stands.rows
    (update_written court h command c.args.changes.now stands.docket c.requires.lawful (accepts at_start))

pub returns-in-Err-clause-later : goal.returns-in-Err-clause-later
returns-in-Err-clause-later g c h stands accepts clean =
    let court = c.args.court.now in
    let command = c.args.command.now in
    let start = state g.S.Store c.args.conn.now in
    let wrote = state g.S.Store c.write.new.conn in
    let written : HasCleanDisk wrote = omega (arith, clean, c.store_fault.ensures.writes_nothing.clean) in
    let at_start : HasCleanDisk start = omega (arith, written, c.write.ensures.clean) in
    let went : IsLater start wrote = c.write.ensures.later written (rows_of court h) (numbers_fit court h _ stands.docket c.changes_fit.ensures) stands.rows
    (update_written court h command c.args.changes.now stands.docket c.requires.lawful (accepts at_start)) in
    later_then start wrote (state g.S.Store c.store_fault.new.conn) went (c.store_fault.ensures.writes_nothing.counts, c.store_fault.ensures.writes_nothing.limit)
