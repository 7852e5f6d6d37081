use Rattle.sqlite.specs.Held.{state}
use Rattle.docket_scan.specs.Reading.{FailsOver}
use Rattle.docket_scan.proofs.CauseLemmas.{err_caused, result_after}
use Rattle.docket_scan.proofs.JudgingLemmas.{handed}
use Rattle.docket_scan.proofs.ScanLemmas.{nothing_then}
use Rattle.docket_scan.proofs.judging.judge_through_deadlines.Goals as goal

pub returns-in_err-judge_before_deadlines-clause-err : goal.returns-in_err-judge_before_deadlines-clause-err
returns-in_err-judge_before_deadlines-clause-err g c v first court next prior =
    handed c.from_residual.result c.in_err-judge_before_deadlines.field-0.0 (FailsOver v (state g.S.Store first) court next (state g.S.Store c.judge_before_deadlines.new.conn)) c.from_residual.ensures.1
    (c.in_err-judge_before_deadlines.ensures.err v first court next prior)

pub returns-in_err-judge_before_deadlines-clause-cause : goal.returns-in_err-judge_before_deadlines-clause-cause
returns-in_err-judge_before_deadlines-clause-cause g c clean =
    err_caused (state g.S.Store c.args.conn.now) (state g.S.Store c.judge_before_deadlines.new.conn) c.in_err-judge_before_deadlines.field-0.0 c.from_residual.result c.from_residual.ensures.1 (c.in_err-judge_before_deadlines.ensures.cause clean)

pub returns-clause-ok : goal.returns-clause-ok
returns-clause-ok g c v first court next prior =
    let read = c.in_ok-judge_before_deadlines.ensures.ok v first court next prior in
    c.judge_deadlines.ensures.ok v first court next read

pub returns-clause-err : goal.returns-clause-err
returns-clause-err g c v first court next prior =
    let read = c.in_ok-judge_before_deadlines.ensures.ok v first court next prior in
    c.judge_deadlines.ensures.err v first court next read

pub returns-clause-writes_nothing : goal.returns-clause-writes_nothing
returns-clause-writes_nothing g c = nothing_then c.judge_before_deadlines.ensures.writes_nothing c.judge_deadlines.ensures.writes_nothing

pub returns-clause-cause : goal.returns-clause-cause
returns-clause-cause g c clean =
    result_after c.judge_before_deadlines.ensures.writes_nothing c.judge_deadlines.ensures.writes_nothing clean c.judge_deadlines.result (c.judge_deadlines.ensures.cause clean)
