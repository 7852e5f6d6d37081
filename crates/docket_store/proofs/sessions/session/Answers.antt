use Rattle.std.proofs.Common.{◌∙◌, subst, subst₂, arith, sym}
use Rattle.sqlite.specs.State.{HasCleanDisk}
use Rattle.sqlite.specs.Held.{Held, state}
use Rattle.docket_store.proofs.SessionLemmas.{ended, not_begun}
use Rattle.docket_tables.specs.Stands.{HoldsRows}
use Rattle.docket_store.specs.Opening.{PreservesRejected}
use Rattle.docket_store.specs.Causes.{IsCausedOpening, StopsForCause}
use Rattle.docket_applying.proofs.AnyLemmas.{err_if}
use Rattle.docket_store.proofs.StopLemmas.{stop_caused_after}
use Rattle.docket_store.proofs.sessions.session.Goals as goal

pub returns-in-Ok-clause-ends : goal.returns-in-Ok-clause-ends
returns-in-Ok-clause-ends g c court h is stands clean =
    let until = c.answer_until-stopped_at in
    let d = until.new.docket in
    let was : HasCleanDisk (state g.S.Store d.conn) = subst (λ (x : Held g.row.S.Denot). HasCleanDisk (state g.S.Store x)) c.close.ensures.conn clean in
    let adopted = c.in_ok-docket.ensures.adopted court h is stands (omega (arith, was, until.ensures.clean)) in
    ended g.S.Store d h c.args.commands.now until.new.replies.items until.result court c.close.result (until.ensures.court ∙ adopted.1) c.close.ensures.conn
    (until.ensures.ends h adopted.0 was)

pub returns-in-Err-clause-ends : goal.returns-in-Err-clause-ends
returns-in-Err-clause-ends g c court h is stands =
    (c.close-in-Err.ensures.idle, not_begun g.S.Store c.in_ok-docket.docket court h c.close-in-Err.result c.close-in-Err.ensures.conn (c.in_ok-docket.ensures.adopted court h is stands))

pub returns-in-Ok-clause-told : goal.returns-in-Ok-clause-told
returns-in-Ok-clause-told g c clean =
    let until = c.answer_until-stopped_at in
    let was : HasCleanDisk (state g.S.Store until.new.docket.conn) = subst (λ (x : Held g.row.S.Denot). HasCleanDisk (state g.S.Store x)) c.close.ensures.conn clean in
    let sound = c.in_ok-docket.ensures.told (omega (arith, was, until.ensures.clean)) in
    (c.in_ok-docket.docket.court, sound.0, sound.1.1)

pub returns-in_err-docket-clause-stays : goal.returns-in_err-docket-clause-stays
returns-in_err-docket-clause-stays g c rows holds =
    err_if c.from_residual.result (λ returned. PreservesRejected g.S.Store returned.connection rows returned.fault) c.in_err-docket.field-0.0 c.from_residual.ensures.1 (c.in_err-docket.ensures.stays rows holds)

pub returns-in-Ok-clause-steps : goal.returns-in-Ok-clause-steps
returns-in-Ok-clause-steps g c =
    let until = c.answer_until-stopped_at in
    let adopt = c.in_ok-docket.ensures in
    (c.in_ok-docket.docket, until.new.docket, λ rows holds. (adopt.stays rows holds, adopt.rows rows holds), until.ensures.steps, sym c.close.ensures.conn)

pub returns-in-Err-clause-stays : goal.returns-in-Err-clause-stays
returns-in-Err-clause-stays g c rows holds = subst (λ (conn : Held g.row.S.Denot). HoldsRows g.S.Store conn rows) (sym c.close-in-Err.ensures.conn) (c.in_ok-docket.ensures.stays rows holds)

pub returns-in_err-docket-clause-cause : goal.returns-in_err-docket-clause-cause
returns-in_err-docket-clause-cause g c =
    err_if c.from_residual.result (λ returned. HasCleanDisk (state g.S.Store returned.connection) → IsCausedOpening (state g.S.Store c.args.connection) (state g.S.Store returned.connection) returned.failure returned.fault)
    c.in_err-docket.field-0.0 c.from_residual.ensures.1 c.in_err-docket.ensures.cause

pub returns-in-Ok-clause-stops : goal.returns-in-Ok-clause-stops
returns-in-Ok-clause-stops g c court h is stands clean =
    let until = c.answer_until-stopped_at in
    let d = until.new.docket in
    let cs = c.args.commands.now in
    let was : HasCleanDisk (state g.S.Store d.conn) = subst (λ (x : Held g.row.S.Denot). HasCleanDisk (state g.S.Store x)) c.close.ensures.conn clean in
    let adopted = c.in_ok-docket.ensures.adopted court h is stands (omega (arith, was, until.ensures.clean)) in
    let first = state g.S.Store c.args.connection in
    let opened = c.in_ok-docket.ensures.writes_nothing in
    let stopped = stop_caused_after cs first (state g.S.Store c.in_ok-docket.docket.conn) (state g.S.Store d.conn) d.closed_by until.result (opened.counts, opened.limit) (until.ensures.cause h adopted.0 was) in
    subst₂ (λ (x : Held g.row.S.Denot) failure. StopsForCause cs first (state g.S.Store x) failure until.result) (sym c.close.ensures.conn) (sym c.closed_by.ensures.error) stopped

pub returns-in-Ok-clause-unfailed : goal.returns-in-Ok-clause-unfailed
returns-in-Ok-clause-unfailed g c unfailed = c.closed_by.ensures.none (c.answer_until-stopped_at.ensures.stays_open c.in_ok-docket.ensures.opened unfailed)
