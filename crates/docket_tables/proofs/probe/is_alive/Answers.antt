use Rattle.std.proofs.Common.{◌≡◌, ◌∙◌, [], IsTrue, is_ok, inl, Ok, Err, IfOk, IfErr, sym, arith}
use Rattle.sqlite.specs.Order.{Row}
use Rattle.sqlite.specs.State.{HasCleanDisk, IsUnchanged, IsNotRun}
use Rattle.sqlite.specs.Held.{state}
use Rattle.docket_tables.specs.Stands.{IsEither, IsSettled}
use Rattle.docket_tables.proofs.ProbeLemmas.{not_run, probe_alive, probed}
use Rattle.docket_tables.proofs.probe.is_alive.Goals as goal

pub returns-clause-either : goal.returns-clause-either
returns-clause-either g c rows next lasts =
    let old = state g.S.Store c.args.conn.now in
    let new = state g.S.Store c.prepare.new.self in
    let survives = c.prepare.ensures.survives in
    let either : HasCleanDisk new → IsEither new rows next = λ clean.
    let was = lasts.1 (omega (arith, survives.clean)) in
    elim c.prepare.result as (λ r. IfOk r (λ s. (s.text ≡ []) × IsUnchanged old new) → IfErr r (λ e. (params : Row) → IsNotRun old new [] params e) → IsEither new rows next) [
      | Ok s ↦ λ ok err. probed old new rows next survives clean was (inl ok.1)
      | Err e ↦ λ ok err. probed old new rows next survives clean was (not_run [] [] old new e (err []))
    ] (c.prepare.ensures.ok clean) (c.prepare.ensures.err clean) in
    (c.prepare.ensures.mode lasts.0, either)

pub returns-clause-alive : goal.returns-clause-alive
returns-clause-alive g c rows next lasts alive =
    let old = state g.S.Store c.args.conn.now in
    let new = state g.S.Store c.prepare.new.self in
    let survives = c.prepare.ensures.survives in
    let settled : HasCleanDisk new → IsSettled new rows = λ clean.
    let was = lasts.1 (omega (arith, survives.clean)) in
    elim c.prepare.result as (λ r. IsTrue (is_ok r) → IfOk r (λ s. (s.text ≡ []) × IsUnchanged old new) → IsSettled new rows) [
      | Ok s ↦ λ is ok. probe_alive old new rows next survives clean was ok.1
      | Err e ↦ λ is ok. absurd (let no = is in cc)
    ] (sym c.is_ok.ensures.value ∙ alive) (c.prepare.ensures.ok clean) in
    (c.prepare.ensures.mode lasts.0, settled)
