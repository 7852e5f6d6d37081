use Rattle.std.proofs.lemmas.Result.{IfOk-weaker, IfErr-weaker}
use Rattle.sqlite.specs.Held.{state}
use Rattle.docket_tables.proofs.CreateCauses.{create_caused}
use Rattle.docket_tables.proofs.CreateLemmas.{one_more}
use Rattle.docket_tables.proofs.creation.define.Goals as goal

pub returns-clause-ok : goal.returns-clause-ok
returns-clause-ok g c clean was =
    let old = state g.S.Store c.args.tx.now.conn.now in
    let new = state g.S.Store c.change.new.tx.conn.now in
    IfOk-weaker c.change.result _ _ (λ _ h. one_more c.args.table old new h.0 was (rw c.create_text.ensures at h.1) h.2) (c.change.ensures.runs clean)

pub returns-clause-cause : goal.returns-clause-cause
returns-clause-cause g c clean was begun =
    let old = state g.S.Store c.args.tx.now.conn.now in
    let new = state g.S.Store c.change.new.tx.conn.now in
    IfErr-weaker c.change.result _ _ (λ e h. create_caused c.args.table old new e was.schema (rw c.create_text.ensures at h)) (c.change.ensures.fails clean begun)
