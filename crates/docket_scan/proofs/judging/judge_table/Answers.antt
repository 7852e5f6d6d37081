use Rattle.sqlite.specs.Held.{state}
use Rattle.docket_scan.specs.Judging.{IsSoundIn}
use Rattle.docket_scan.specs.Records.{IsTable}
use Rattle.docket_scan.specs.Scans.{OfSoMany}
use Rattle.docket_scan.specs.Taken.{IsRead}
use Rattle.docket_scan.proofs.CauseLemmas.{err_caused}
use Rattle.docket_scan.proofs.JudgingLemmas.{told_on}
use Rattle.docket_scan.proofs.RecordLemmas.{none_read}
use Rattle.docket_scan.proofs.judging.judge_table.Goals as goal

pub returns-in_err-count-clause-told : goal.returns-in_err-count-clause-told
returns-in_err-count-clause-told g c clean has =
    let old = state g.S.Store c.args.conn.now in
    let new = state g.S.Store c.judge_rows.new.conn in
    let sound = IsTable g.C.Record.StoredRow.Is g.C.Record.StoredRow.cells (g.C.RecordCheck.AreSound (g.C.RecordCheck.context c.args.check)) in
    let begun = none_read g.C.Record.StoredRow.Is g.C.Record.StoredRow.cells (g.C.RecordCheck.HasTaken c.args.check) has in
    let told = rw c.in_err-count.was at (c.judge_rows.ensures.told clean begun) in
    told_on c.args.table old new (λ taken. IsSoundIn c.args.table old (OfSoMany taken.1 (IsRead g.C.Record.StoredRow.Is g.C.Record.StoredRow.cells (g.C.RecordCheck.HasTaken taken.0)))) sound
    c.from_residual.result c.in_err-count.field-0.0 c.from_residual.ensures.1 told

pub returns-in_err-count-clause-cause : goal.returns-in_err-count-clause-cause
returns-in_err-count-clause-cause g c clean =
    let old = state g.S.Store c.args.conn.now in
    let new = state g.S.Store c.judge_rows.new.conn in
    err_caused old new c.in_err-count.field-0.0 c.from_residual.result c.from_residual.ensures.1 (c.in_err-count.ensures.cause clean)
