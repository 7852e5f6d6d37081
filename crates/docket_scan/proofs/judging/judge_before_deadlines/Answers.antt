use Rattle.sqlite.specs.Held.{state}
use Rattle.docket_scan.specs.Reading.{FailsOver}
use Rattle.docket_scan.proofs.CauseLemmas.{err_caused, fault_after, result_after}
use Rattle.docket_scan.proofs.JudgingLemmas.{handed}
use Rattle.docket_scan.proofs.ScanLemmas.{nothing_then}
use Rattle.docket_scan.proofs.judging.judge_before_deadlines.Goals as goal

pub returns-in_err-judge_cases-clause-err : goal.returns-in_err-judge_cases-clause-err
returns-in_err-judge_cases-clause-err g c v first court next prior =
    handed c.from_residual.result c.in_err-judge_cases.field-0.0 (FailsOver v (state g.S.Store first) court next (state g.S.Store c.judge_cases.new.conn)) c.from_residual.ensures.1 (c.in_err-judge_cases.ensures.err v first court next prior)

pub returns-in_err-judge_parties-clause-err : goal.returns-in_err-judge_parties-clause-err
returns-in_err-judge_parties-clause-err g c v first court next prior =
    let cases = c.in_ok-judge_cases.ensures.ok v first court next prior in
    handed c.from_residual-in_err-judge_parties.result c.in_err-judge_parties.field-0.0 (FailsOver v (state g.S.Store first) court next (state g.S.Store c.judge_parties.new.conn)) c.from_residual-in_err-judge_parties.ensures.1
    (c.in_err-judge_parties.ensures.err v first court next cases)

pub returns-clause-ok : goal.returns-clause-ok
returns-clause-ok g c v first court next prior =
    let cases = c.in_ok-judge_cases.ensures.ok v first court next prior in
    let parties = c.in_ok-judge_parties.ensures.ok v first court next cases in
    c.judge_entries.ensures.ok v first court next parties

pub returns-clause-err : goal.returns-clause-err
returns-clause-err g c v first court next prior =
    let cases = c.in_ok-judge_cases.ensures.ok v first court next prior in
    let parties = c.in_ok-judge_parties.ensures.ok v first court next cases in
    c.judge_entries.ensures.err v first court next parties

pub returns-clause-writes_nothing : goal.returns-clause-writes_nothing
returns-clause-writes_nothing g c = nothing_then (nothing_then c.judge_cases.ensures.writes_nothing c.judge_parties.ensures.writes_nothing) c.judge_entries.ensures.writes_nothing

pub returns-in_err-judge_cases-clause-cause : goal.returns-in_err-judge_cases-clause-cause
returns-in_err-judge_cases-clause-cause g c clean =
    err_caused (state g.S.Store c.args.conn.now) (state g.S.Store c.judge_cases.new.conn) c.in_err-judge_cases.field-0.0 c.from_residual.result c.from_residual.ensures.1 (c.in_err-judge_cases.ensures.cause clean)

pub returns-in_err-judge_parties-clause-cause : goal.returns-in_err-judge_parties-clause-cause
returns-in_err-judge_parties-clause-cause g c clean =
    let fault = c.in_err-judge_parties.field-0.0 in
    err_caused (state g.S.Store c.args.conn.now) (state g.S.Store c.judge_parties.new.conn) fault c.from_residual-in_err-judge_parties.result c.from_residual-in_err-judge_parties.ensures.1
    (fault_after c.judge_cases.ensures.writes_nothing c.judge_parties.ensures.writes_nothing clean fault (c.in_err-judge_parties.ensures.cause clean))

pub returns-clause-cause : goal.returns-clause-cause
returns-clause-cause g c clean =
    result_after (nothing_then c.judge_cases.ensures.writes_nothing c.judge_parties.ensures.writes_nothing) c.judge_entries.ensures.writes_nothing clean c.judge_entries.result (c.judge_entries.ensures.cause clean)
