use Rattle.std.proofs.Common.{◌≡◌, Ok, inr, sym, ap, subst, arith, IfErr, inl as left}
use Rattle.sqlite.specs.Held.{state}
use Rattle.sqlite.specs.State.{HasCleanDisk}
use Rattle.docket_decisions.specs.Decisions.{IsAnswer}
use Rattle.docket_history.specs.Histories.{History}
use Rattle.docket_decisions.specs.Outcomes.{outcome, repeated}
use Rattle.docket_decisions.specs.declared.decision.Decision.{Decision}
use Rattle.docket_applying.specs.AnyRows.{RepeatsReceipt}
use Rattle.docket_applying.specs.Applying.{IsAccepted, IsDecided, Keeps, docket_rows}
use Rattle.docket_applying.proofs.ApplyLemmas.{docket_after, after_repeated, holds_same}
use Rattle.docket_applying.proofs.AnyLemmas.{unwritten}
use Rattle.docket_applying.specs.declared.fault.Fault.TheVariants as fault
use Rattle.docket_applying.specs.Causes.{IsCausedBy}
use Rattle.docket_applying.proofs.FailureLemmas.{err_named, err_caused_by, err_writes, later_then, writes_later}
use Rattle.docket_applying.proofs.applying.apply_to.Goals as goal

pub returns-in-Repeat-clause-answer : goal.returns-in-Repeat-clause-answer
returns-in-Repeat-clause-answer g c h stands =
    let court = c.args.court.now in
    let command = c.args.command.now in
    let judged = c.in_ok-decision.ensures.judged h stands in
    let answer : HasCleanDisk (state g.S.Store c.judge.new.conn) → outcome court h command ≡ repeated c.in-Repeat.reply =
    λ clean. subst (λ (d : Decision). IsAnswer (Ok d) (outcome court h command)) c.in-Repeat.is (judged.1 clean).0 in (
      record {
        docket = docket_after court h command stands.docket c.in_ok-body.ensures.lawful;
        serves = judged.0.serves;
        rows = holds_same g.S.Store c.judge.new.conn _ _ (λ clean. ap (docket_rows court) (sym (after_repeated court h command c.in-Repeat.reply (answer clean)))) judged.0.rows;
        calendar = λ clean. subst (λ (x : History). Keeps c.judge.new.kept x) (sym (after_repeated court h command c.in-Repeat.reply (answer clean))) (judged.0.calendar clean);
      },
      λ clean. inr (answer clean),
    )

pub returns-clause-answer : goal.returns-clause-answer
returns-clause-answer g c h stands =
    let court = c.args.court.now in
    let command = c.args.command.now in
    let judged = c.in_ok-decision.ensures.judged h stands in
    let accepts : HasCleanDisk (state g.S.Store c.judge.new.conn) → IsAccepted court h command c.in-Change.changes =
    λ clean. subst (IsDecided court h command) c.in-Change.is (judged.1 clean) in
    c.write_accepted.ensures.kept h judged.0 accepts

pub returns-in_err-body-clause-any : goal.returns-in_err-body-clause-any
returns-in_err-body-clause-any g c rows n stored are small holds = unwritten g.S.Store c.args.conn.now rows c.args.court.now n c.args.command.now fault.NoMemory c.from_residual.result c.from_residual.ensures.1 holds

pub returns-in_err-decision-clause-any : goal.returns-in_err-decision-clause-any
returns-in_err-decision-clause-any g c rows n stored are small holds =
    unwritten g.S.Store c.judge.new.conn rows c.args.court.now n c.args.command.now c.in_err-decision.field-0.0 c.from_residual-in_err-decision.result c.from_residual-in_err-decision.ensures.1
    (c.in_err-decision.ensures.leaves.stays rows holds)

pub returns-in-Repeat-clause-any : goal.returns-in-Repeat-clause-any
returns-in-Repeat-clause-any g c rows n stored are small holds =
    left (c.in_ok-decision.ensures.leaves.stays rows holds, λ clean. subst (λ (d : Decision). RepeatsReceipt rows c.args.command.now d) c.in-Repeat.is (c.in_ok-decision.ensures.repeats rows holds clean))

pub returns-clause-any : goal.returns-clause-any
returns-clause-any g c rows n stored are small holds = c.write_accepted.ensures.any rows n stored are small (c.in_ok-decision.ensures.leaves.stays rows holds)

pub returns-in_err-body-clause-named : goal.returns-in_err-body-clause-named
returns-in_err-body-clause-named g c = err_named c.args.failure.now fault.NoMemory c.from_residual.result c.from_residual.ensures.1 tt

pub returns-in_err-decision-clause-named : goal.returns-in_err-decision-clause-named
returns-in_err-decision-clause-named g c = err_named c.judge.new.failure c.in_err-decision.field-0.0 c.from_residual-in_err-decision.result c.from_residual-in_err-decision.ensures.1 c.in_err-decision.ensures.leaves.named

pub returns-in_err-body-clause-spared : goal.returns-in_err-body-clause-spared
returns-in_err-body-clause-spared g c h stands clean spared =
    err_caused_by (state g.S.Store c.args.conn.now) (state g.S.Store c.args.conn.now) c.args.failure.now fault.NoMemory c.from_residual.result c.from_residual.ensures.1 tt

pub returns-in_err-decision-clause-spared : goal.returns-in_err-decision-clause-spared
returns-in_err-decision-clause-spared g c h stands clean spared =
    err_caused_by (state g.S.Store c.args.conn.now) (state g.S.Store c.judge.new.conn) c.judge.new.failure c.in_err-decision.field-0.0 c.from_residual-in_err-decision.result c.from_residual-in_err-decision.ensures.1
    (c.in_err-decision.ensures.leaves.cause (docket_rows c.args.court.now h) stands.rows clean)

pub returns-clause-spared : goal.returns-clause-spared
returns-clause-spared g c h stands clean spared =
    let court = c.args.court.now in
    let command = c.args.command.now in
    let early : HasCleanDisk (state g.S.Store c.judge.new.conn) = omega (arith, c.write_accepted.ensures.clean, clean) in
    let judged = (c.in_ok-decision.ensures.judged h stands).1 early in
    absurd {A = IfErr c.write_accepted.result (IsCausedBy (state g.S.Store c.args.conn.now) (state g.S.Store c.write_accepted.new.conn) c.write_accepted.new.failure)}
    (spared c.in-Change.changes.reply (subst (λ (d : Decision). IsAnswer (Ok d) (outcome court h command)) c.in-Change.is judged.0))

pub returns-in_err-decision-clause-cause : goal.returns-in_err-decision-clause-cause
returns-in_err-decision-clause-cause g c h stands clean =
    err_writes c.args.command.now (state g.S.Store c.args.conn.now) (state g.S.Store c.judge.new.conn) c.judge.new.failure c.in_err-decision.field-0.0 c.from_residual-in_err-decision.result c.from_residual-in_err-decision.ensures.1
    (c.in_err-decision.ensures.leaves.cause (docket_rows c.args.court.now h) stands.rows clean)

pub returns-clause-cause : goal.returns-clause-cause
returns-clause-cause g c h stands clean =
    let court = c.args.court.now in
    let command = c.args.command.now in
    let judged = c.in_ok-decision.ensures.judged h stands in
    let accepts : HasCleanDisk (state g.S.Store c.judge.new.conn) → IsAccepted court h command c.in-Change.changes =
    λ clean. subst (IsDecided court h command) c.in-Change.is (judged.1 clean) in
    writes_later command (state g.S.Store c.args.conn.now) (state g.S.Store c.judge.new.conn) (state g.S.Store c.write_accepted.new.conn) c.write_accepted.new.failure c.write_accepted.result c.judge.ensures.leaves.writes_nothing.counts c.judge.ensures.leaves.writes_nothing.limit
    (c.write_accepted.ensures.cause h judged.0 accepts clean)

pub returns-in_err-decision-clause-later : goal.returns-in_err-decision-clause-later
returns-in_err-decision-clause-later g c h stands clean = (c.judge.ensures.leaves.writes_nothing.counts, c.judge.ensures.leaves.writes_nothing.limit)

pub returns-in-Repeat-clause-later : goal.returns-in-Repeat-clause-later
returns-in-Repeat-clause-later g c h stands clean = (c.judge.ensures.leaves.writes_nothing.counts, c.judge.ensures.leaves.writes_nothing.limit)

pub returns-clause-later : goal.returns-clause-later
returns-clause-later g c h stands clean =
    let court = c.args.court.now in
    let command = c.args.command.now in
    let judged = c.in_ok-decision.ensures.judged h stands in
    let accepts : HasCleanDisk (state g.S.Store c.judge.new.conn) → IsAccepted court h command c.in-Change.changes =
    λ clean. subst (IsDecided court h command) c.in-Change.is (judged.1 clean) in
    later_then (state g.S.Store c.args.conn.now) (state g.S.Store c.judge.new.conn) (state g.S.Store c.write_accepted.new.conn) (c.judge.ensures.leaves.writes_nothing.counts, c.judge.ensures.leaves.writes_nothing.limit)
    (c.write_accepted.ensures.later h judged.0 accepts clean)
