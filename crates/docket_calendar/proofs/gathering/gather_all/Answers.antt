use Rattle.std.proofs.Common.{◌≡◌, ◌∙◌, Vec, Global, arith}
use Rattle.sqlite.specs.State.{HasCleanDisk}
use Rattle.sqlite.specs.Held.{state}
use Rattle.sqlite.proofs.Callers.{unchanged_then}
use Rattle.sqlite.proofs.StateLemmas.{survives_then}
use Rattle.docket_history.specs.declared.record.DueRow.{DueRow}
use Rattle.docket_tables.proofs.PassedCauses.{fault_after}
use Rattle.docket_calendar.proofs.GatherLemmas.{caused_after, err_comes, goes_on, stops, whole}
use Rattle.docket_calendar.proofs.TellLemmas.{lists_still}
use Rattle.docket_calendar.proofs.gathering.gather_all.Goals as goal

pub returns-in_err-due-clause-cause : goal.returns-in_err-due-clause-cause
returns-in_err-due-clause-cause g c = λ clean asked.
    let old = c.args.rows.now.conn.now in
    let now = c.rows.rows.conn.now in
    let new = c.next_due.new.rows.conn.now in
    let early : HasCleanDisk (state g.S.Store now) = omega (arith, c.next_due.ensures.survives.clean, clean) in
    let cause = c.in_err-due.ensures.cause clean (c.rows.invariant.way early asked) in
    caused_after (state g.S.Store old) (state g.S.Store now) (state g.S.Store new) _ c.from_residual.result c.from_residual.ensures.1
    (fault_after (state g.S.Store old) (state g.S.Store now) (state g.S.Store new) _ c.rows.invariant.survives.counts c.rows.invariant.survives.limit cause)

pub returns-in_err-due-clause-gathers : goal.returns-in_err-due-clause-gathers
returns-in_err-due-clause-gathers g c = λ sql params listed clean lists gave is_open.
    let court = c.args.court.now in
    let old = c.args.rows.now.conn.now in
    let now = c.rows.rows.conn.now in
    let new = c.next_due.new.rows.conn.now in
    let early : HasCleanDisk (state g.S.Store now) = omega (arith, c.next_due.ensures.survives.clean, clean) in
    let so_far = c.rows.invariant.gathered early sql params listed lists gave is_open in
    let next = c.in_err-due.ensures.next c.rows.counter sql params listed clean (lists_still g.S.Store court listed sql params old now so_far.same lists) so_far.gave in
    err_comes g.S.Store old new (λ (found : Vec DueRow Global). found.items ≡ listed) _ c.from_residual.result c.from_residual.ensures.1
    (stops g.S.Store court listed sql params c.rows.counter c.rows.found.items old now new so_far _ next)

pub returns-in_default-clause-gathers : goal.returns-in_default-clause-gathers
returns-in_default-clause-gathers g c = λ sql params listed clean lists gave is_open.
    let court = c.args.court.now in
    let old = c.args.rows.now.conn.now in
    let now = c.rows.rows.conn.now in
    let new = c.next_due.new.rows.conn.now in
    let early : HasCleanDisk (state g.S.Store now) = omega (arith, c.next_due.ensures.survives.clean, clean) in
    let so_far = c.rows.invariant.gathered early sql params listed lists gave is_open in
    let next = c.in_ok-due.ensures.next c.rows.counter sql params listed clean (lists_still g.S.Store court listed sql params old now so_far.same lists) so_far.gave in
    let none = rw c.in_default.is at next in
    whole g.S.Store court listed sql params c.rows.counter c.rows.found.items old now new so_far none

pub rows-preserved : goal.rows-preserved
rows-preserved g c =
    let court = c.args.court.now in
    let old = c.args.rows.now.conn.now in
    let now = c.rows.rows.conn.now in
    let new = c.next_due.new.rows.conn.now in
    record {
      same_reference = c.next_due.ensures.same_reference ∙ c.rows.invariant.same_reference;
      mode = λ idle. c.next_due.ensures.mode (c.rows.invariant.mode idle);
      survives = survives_then (state g.S.Store old) (state g.S.Store now) (state g.S.Store new) _ _ _ (λ _ db none. none) (λ _ db none. none) c.rows.invariant.survives c.next_due.ensures.survives;
      way = λ clean asked.
          let early : HasCleanDisk (state g.S.Store now) = omega (arith, c.next_due.ensures.survives.clean, clean) in
          rw c.in-Some.is at (c.in_ok-due.ensures.cause clean (c.rows.invariant.way early asked));
      remains = λ clean is_open.
          let early : HasCleanDisk (state g.S.Store now) = omega (arith, c.next_due.ensures.survives.clean, clean) in
          unchanged_then (state g.S.Store old) (state g.S.Store now) (state g.S.Store new) (c.rows.invariant.remains early is_open) (c.in_ok-due.ensures.remains clean);
      gathered = λ clean sql params listed lists gave is_open.
          let early : HasCleanDisk (state g.S.Store now) = omega (arith, c.next_due.ensures.survives.clean, clean) in
          let so_far = c.rows.invariant.gathered early sql params listed lists gave is_open in
          let next = c.in_ok-due.ensures.next c.rows.counter sql params listed clean (lists_still g.S.Store court listed sql params old now so_far.same lists) so_far.gave in
          let some = rw c.in-Some.is at next in
          goes_on g.S.Store court listed sql params c.rows.counter c.rows.found.items old now new so_far c.in-Some.due c.push.new.self.items some c.in_ok-push.ensures.items;
    }

pub returns-clause-gathers : goal.returns-clause-gathers
returns-clause-gathers g c = λ sql params listed clean lists gave is_open.
    let so_far = c.rows.invariant.gathered clean sql params listed lists gave is_open in
    absurd (omega (arith, so_far.gave.1, lists.few, c.rows-test.false))

pub returns-in_err-due-clause-survives : goal.returns-in_err-due-clause-survives
returns-in_err-due-clause-survives g c = survives_then _ _ _ _ _ _ (λ _ db none. none) (λ _ db none. none) c.rows.invariant.survives c.next_due.ensures.survives

pub returns-in_default-clause-survives : goal.returns-in_default-clause-survives
returns-in_default-clause-survives g c = survives_then _ _ _ _ _ _ (λ _ db none. none) (λ _ db none. none) c.rows.invariant.survives c.next_due.ensures.survives

pub returns-in_err-push-clause-survives : goal.returns-in_err-push-clause-survives
returns-in_err-push-clause-survives g c = survives_then _ _ _ _ _ _ (λ _ db none. none) (λ _ db none. none) c.rows.invariant.survives c.next_due.ensures.survives
