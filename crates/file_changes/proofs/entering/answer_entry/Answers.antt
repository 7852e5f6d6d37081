use Rattle.std.proofs.Common.{subst, arith}
use Rattle.sqlite.specs.Held.{Held, state}
use Rattle.sqlite.specs.State.{HasCleanDisk}
use Rattle.file_changes.proofs.EnterLemmas.{asked_still, entered, not_asked}
use Rattle.file_changes.proofs.entering.answer_entry.Goals as goal

pub returns-in-Ok-clause-enters : goal.returns-in-Ok-clause-enters
returns-in-Ok-clause-enters g c told stands clean =
    let asked = c.prepared in
    let lines = c.answer_prepared-end in
    let is = c.in-Ok.ensures.answer told.history stands.stands in
    entered g.S.Store c.args.docket asked.new.docket told stands asked.ensures.only.court c.args.entry.now lines.result.1 _ _ c.in-Ok.prepared lines.result.0
    (is.1 (lines.ensures.trust clean))
    (lines.ensures.answers told (asked_still g.S.Store c.args.docket asked.new.docket told stands asked.ensures.only.court is.0) clean)

pub returns-in-Ok-clause-trust : goal.returns-in-Ok-clause-trust
returns-in-Ok-clause-trust g c clean =
    let now : HasCleanDisk (state g.S.Store c.prepared.new.docket.conn) = c.answer_prepared-end.ensures.trust clean in
    omega (arith, now, c.prepared.ensures.only.clean)

pub returns-in-Err-clause-enters : goal.returns-in-Err-clause-enters
returns-in-Err-clause-enters g c told stands clean =
    let asked = c.prepared in
    not_asked g.S.Store c.args.docket asked.new.docket told stands asked.ensures.only.court c.args.entry.now c.close.result _ c.in-Err.fault c.close.ensures.conn
    (c.in-Err.ensures.answer told.history stands.stands) clean

pub returns-in-Err-clause-trust : goal.returns-in-Err-clause-trust
returns-in-Err-clause-trust g c clean =
    let now : HasCleanDisk (state g.S.Store c.prepared.new.docket.conn) = subst (λ (conn : Held g.row.S.Denot). HasCleanDisk (state g.S.Store conn)) c.close.ensures.conn clean in
    omega (arith, now, c.prepared.ensures.only.clean)
