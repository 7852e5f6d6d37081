use Rattle.std.proofs.Common.{arith}
use Rattle.std.proofs.lemmas.Result.{IfOk-weaker}
use Rattle.sqlite.proofs.Callers.{unchanged_then}
use Rattle.sqlite.specs.Held.{state}
use Rattle.docket_migration.proofs.GoneLemmas.{both_empty}
use Rattle.docket_migration.proofs.reading.check_new.Goals as goal

pub returns-clause-ok : goal.returns-clause-ok
returns-clause-ok g c clean =
    let old = state g.S.Store c.args.tx.now.conn.now in
    let mid = state g.S.Store c.check_empty.new.tx.conn.now in
    let new = state g.S.Store c.check_empty-2.new.tx.conn.now in
    let short = c.in_ok-check_empty.ensures.ok (omega (arith, c.check_empty-2.ensures.survives.clean)) in
    IfOk-weaker c.check_empty-2.result _ _ (λ _ h. (both_empty old mid short h.0, unchanged_then old mid new short.1 h.1)) (c.check_empty-2.ensures.ok clean)
