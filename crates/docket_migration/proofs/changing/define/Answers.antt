use Rattle.std.proofs.lemmas.Result.{IfOk-weaker}
use Rattle.sqlite.specs.Held.{state}
use Rattle.docket_migration.proofs.AddLemmas.{one_added}
use Rattle.docket_migration.proofs.GrowLemmas.{one_more}
use Rattle.docket_migration.proofs.changing.define.Goals as goal

pub returns-clause-ok : goal.returns-clause-ok
returns-clause-ok g c clean lacks rows was =
    let old = state g.S.Store c.args.tx.now.conn.now in
    let new = state g.S.Store c.run.new.tx.conn.now in
    IfOk-weaker c.run.result _ _ (λ _ h. one_more c.args.table lacks rows old new h.0 was (rw c.create_text.ensures at h.1) h.2) (c.run.ensures.runs clean)

pub returns-clause-any : goal.returns-clause-any
returns-clause-any g c clean lacks =
    let old = state g.S.Store c.args.tx.now.conn.now in
    let new = state g.S.Store c.run.new.tx.conn.now in
    IfOk-weaker c.run.result _ _ (λ _ h. one_added c.args.table lacks old new h.0 (rw c.create_text.ensures at h.1)) (c.run.ensures.runs clean)
