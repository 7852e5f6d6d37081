use Rattle.std.proofs.Common.{◌∙◌, arith}
use Rattle.sqlite.specs.State.{HasCleanDisk}
use Rattle.sqlite.specs.Held.{state}
use Rattle.sqlite.proofs.Callers.{unchanged_then}
use Rattle.sqlite.proofs.StateLemmas.{survives_then}
use Rattle.docket_calendar.specs.Stops.{IsCausedStop}
use Rattle.docket_calendar.proofs.CauseLemmas.{err_caused, stop_after}
use Rattle.docket_calendar.proofs.TellLemmas.{lists_still, goes_on_as, whole_as, stops_as, err_remains, remains_from}
use Rattle.docket_calendar.proofs.sending.send_all.Goals as goal

pub returns-in_err-send_next-clause-sends : goal.returns-in_err-send_next-clause-sends
returns-in_err-send_next-clause-sends g c = λ sql params listed clean lists gave is_open.
    let court = c.args.court.now in
    let old = c.args.rows.now.conn.now in
    let now = c.rows.rows.conn.now in
    let new = c.send_next.new.rows.conn.now in
    let before : HasCleanDisk (state g.S.Store now) = omega (arith, c.send_next.ensures.survives.clean, clean) in
    let told = c.rows.invariant.told before sql params listed lists gave is_open in
    let sends = c.in_err-send_next.ensures.sends sql params listed clean (lists_still g.S.Store court listed sql params old now told.same lists) told.gave in
    stops_as g.S.Store court listed c.args.front.now sql params c.rows.lines (g.W.Write.contents c.args.writer.now) (g.W.Write.contents c.rows.writer) (g.W.Write.contents c.send_next.new.writer) old now new told
    c.opening-front.result.now c.from_residual.result _ c.opening-front.ensures c.from_residual.ensures.1 sends

pub returns-then-not-branch-clause-sends : goal.returns-then-not-branch-clause-sends
returns-then-not-branch-clause-sends g c = λ sql params listed clean lists gave is_open.
    let court = c.args.court.now in
    let old = c.args.rows.now.conn.now in
    let now = c.rows.rows.conn.now in
    let new = c.send_next.new.rows.conn.now in
    let before : HasCleanDisk (state g.S.Store now) = omega (arith, c.send_next.ensures.survives.clean, clean) in
    let told = c.rows.invariant.told before sql params listed lists gave is_open in
    let sends = c.in_ok-send_next.ensures.sends sql params listed clean (lists_still g.S.Store court listed sql params old now told.same lists) told.gave in
    whole_as g.S.Store court listed c.args.front.now sql params c.rows.lines (g.W.Write.contents c.args.writer.now) (g.W.Write.contents c.rows.writer) (g.W.Write.contents c.send_next.new.writer) old now new told
    c.opening-front.result.now c.in_ok-send_next.field-0 c.opening-front.ensures c.if-not-branch.true sends

pub rows-preserved : goal.rows-preserved
rows-preserved g c =
    let court = c.args.court.now in
    let old = c.args.rows.now.conn.now in
    let now = c.rows.rows.conn.now in
    let new = c.send_next.new.rows.conn.now in
    record {
      same_reference = c.send_next.ensures.same_reference ∙ c.rows.invariant.same_reference;
      mode = λ idle. c.send_next.ensures.mode (c.rows.invariant.mode idle);
      survives = survives_then (state g.S.Store old) (state g.S.Store now) (state g.S.Store new) _ _ _ (λ _ db none. none) (λ _ db none. none) c.rows.invariant.survives c.send_next.ensures.survives;
      way = λ clean asked.
          let early : HasCleanDisk (state g.S.Store now) = omega (arith, c.send_next.ensures.survives.clean, clean) in
          c.in_ok-send_next.ensures.cause clean (c.rows.invariant.way early asked) (let more = c.if-not-branch.false in cc);
      remains = λ clean is_open.
          let early : HasCleanDisk (state g.S.Store now) = omega (arith, c.send_next.ensures.survives.clean, clean) in
          unchanged_then (state g.S.Store old) (state g.S.Store now) (state g.S.Store new) (c.rows.invariant.remains early is_open) (c.in_ok-send_next.ensures.remains clean);
      told = λ clean sql params listed lists gave is_open.
          let before : HasCleanDisk (state g.S.Store now) = omega (arith, c.send_next.ensures.survives.clean, clean) in
          let told = c.rows.invariant.told before sql params listed lists gave is_open in
          let sends = c.in_ok-send_next.ensures.sends sql params listed clean (lists_still g.S.Store court listed sql params old now told.same lists) told.gave in
          goes_on_as g.S.Store court listed c.args.front.now sql params c.rows.lines (g.W.Write.contents c.args.writer.now) (g.W.Write.contents c.rows.writer) (g.W.Write.contents c.send_next.new.writer) old now new told
          c.opening-front.result.now c.in_ok-send_next.field-0 c.opening-front.ensures c.if-not-branch.false sends;
    }

pub returns-clause-sends : goal.returns-clause-sends
returns-clause-sends g c = λ sql params listed clean lists gave is_open.
    let told = c.rows.invariant.told clean sql params listed lists gave is_open in
    absurd (omega (arith, told.gave.1, lists.few, c.rows-test.false))

pub returns-in_err-send_next-clause-remains : goal.returns-in_err-send_next-clause-remains
returns-in_err-send_next-clause-remains g c = λ clean is_open.
    let old = c.args.rows.now.conn.now in
    let now = c.rows.rows.conn.now in
    let new = c.send_next.new.rows.conn.now in
    let early : HasCleanDisk (state g.S.Store now) = omega (arith, c.send_next.ensures.survives.clean, clean) in
    remains_from g.S.Store old now new c.from_residual.result (c.rows.invariant.remains early is_open) (err_remains g.S.Store now new _ c.from_residual.result c.from_residual.ensures.1 (c.in_err-send_next.ensures.remains clean))

pub returns-then-not-branch-clause-remains : goal.returns-then-not-branch-clause-remains
returns-then-not-branch-clause-remains g c = λ clean is_open.
    let old = c.args.rows.now.conn.now in
    let now = c.rows.rows.conn.now in
    let new = c.send_next.new.rows.conn.now in
    let early : HasCleanDisk (state g.S.Store now) = omega (arith, c.send_next.ensures.survives.clean, clean) in
    unchanged_then (state g.S.Store old) (state g.S.Store now) (state g.S.Store new) (c.rows.invariant.remains early is_open) (c.in_ok-send_next.ensures.remains clean)

pub returns-in_err-send_next-clause-cause : goal.returns-in_err-send_next-clause-cause
returns-in_err-send_next-clause-cause g c = λ clean asked.
    let old = c.args.rows.now.conn.now in
    let now = c.rows.rows.conn.now in
    let new = c.send_next.new.rows.conn.now in
    let early : HasCleanDisk (state g.S.Store now) = omega (arith, c.send_next.ensures.survives.clean, clean) in
    let cause = c.in_err-send_next.ensures.cause clean (c.rows.invariant.way early asked) in
    err_caused (IsCausedStop (state g.S.Store old) (state g.S.Store new)) _ c.from_residual.result c.from_residual.ensures.1
    (stop_after (state g.S.Store old) (state g.S.Store now) (state g.S.Store new) _ c.rows.invariant.survives.counts c.rows.invariant.survives.limit cause)

pub returns-in_err-send_next-clause-survives : goal.returns-in_err-send_next-clause-survives
returns-in_err-send_next-clause-survives g c = survives_then _ _ _ _ _ _ (λ _ db none. none) (λ _ db none. none) c.rows.invariant.survives c.send_next.ensures.survives

pub returns-then-not-branch-clause-survives : goal.returns-then-not-branch-clause-survives
returns-then-not-branch-clause-survives g c = survives_then _ _ _ _ _ _ (λ _ db none. none) (λ _ db none. none) c.rows.invariant.survives c.send_next.ensures.survives
