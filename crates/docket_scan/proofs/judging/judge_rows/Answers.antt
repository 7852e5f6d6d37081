use Rattle.std.proofs.Common.{subst, sym}
use Rattle.sqlite.specs.Held.{state}
use Rattle.docket_scan.specs.Causes.{IsCausedFault}
use Rattle.docket_scan.specs.Judging.{IsTold}
use Rattle.docket_scan.specs.Scans.{FailsToScan}
use Rattle.docket_scan.proofs.CauseLemmas.{fault_caused}
use Rattle.docket_scan.proofs.JudgingLemmas.{told_in}
use Rattle.docket_scan.proofs.judging.judge_rows.Goals as goal

pub returns-in-Err-clause-told : goal.returns-in-Err-clause-told
returns-in-Err-clause-told g c clean has =
    let old = state g.S.Store c.args.conn.now in
    let new = state g.S.Store c.scan.new.conn in
    let sound = g.T.Taker.IsSound (g.T.Taker.context c.args.taker.now) in
    let failed : FailsToScan c.args.table old new c.in-Err.error = rw c.in-Err.is at (c.scan.ensures.told clean has) in
    subst (IsTold c.args.table old new sound) (sym c.fault_in.ensures) (told_in c.args.table old new sound c.in-Err.error failed)

pub returns-in-Err-clause-cause : goal.returns-in-Err-clause-cause
returns-in-Err-clause-cause g c clean =
    let old = state g.S.Store c.args.conn.now in
    let new = state g.S.Store c.scan.new.conn in
    subst (IsCausedFault old new) (sym c.fault_in.ensures) (fault_caused c.args.table old new c.in-Err.error (c.in-Err.ensures.cause clean))
