use Rattle.std.proofs.Common.{◌∙◌, ap, arith, subst}
use Rattle.sqlite.specs.Held.{state}
use Rattle.sqlite.specs.State.{HasCleanDisk}
use Rattle.sqlite.proofs.Callers.{unchanged_then}
use Rattle.docket_tables.specs.declared.table.Table.TheVariants as table
use Rattle.docket_scan.specs.Judging.{Holds, before, knows_later_kinds}
use Rattle.docket_scan.specs.Reading.{FailsOver}
use Rattle.docket_scan.specs.Records.{AreReceiptRows, AreSoundStored, IsStoredReceipt, receipt_cells}
use Rattle.docket_scan.specs.Scans.{OfSoMany}
use Rattle.docket_scan.specs.Taken.{HasTakenStored, IsRead}
use Rattle.docket_scan.proofs.CauseLemmas.{err_caused}
use Rattle.docket_scan.proofs.JudgingLemmas.{all_more, each_has, failed, handed, read_rows, so_many, sound_before}
use Rattle.docket_scan.proofs.judging.judge_receipts.Goals as goal

pub returns-in_err-count-clause-err : goal.returns-in_err-count-clause-err
returns-in_err-count-clause-err g c first court next prior =
    let v = c.args.version in
    let start = state g.S.Store first in
    let old = state g.S.Store c.args.conn.now in
    let new = state g.S.Store c.judge_table.new.conn in
    let fault = c.in_err-count.field-0.0 in
    handed c.from_residual.result fault (FailsOver v start court next new) c.from_residual.ensures.1
    (λ clean.
    let early : HasCleanDisk old = omega (arith, clean, c.judge_table.ensures.writes_nothing.clean) in
    let was = prior early in
    let told = rw c.in_err-count.was at (c.judge_table.ensures.told clean c.new-check.ensures.none) in
    failed start old was.same v table.Receipts (each_has v table.Receipts tt) court next new was.rows (AreReceiptRows c.new-check.result.later) fault (ap AreReceiptRows (c.new-check.ensures.later ∙ c.knows_later_kinds.ensures)) was.named was.sound told)

pub returns-clause-ok : goal.returns-clause-ok
returns-clause-ok g c first court next prior clean =
    let v = c.args.version in
    let start = state g.S.Store first in
    let old = state g.S.Store c.args.conn.now in
    let new = state g.S.Store c.judge_table.new.conn in
    let early : HasCleanDisk old = omega (arith, clean, c.judge_table.ensures.writes_nothing.clean) in
    let was = prior early in
    let told = rw c.in_ok-count.was at (c.judge_table.ensures.told clean c.new-check.ensures.none) in
    let taken = HasTakenStored c.in_ok-count.field-0-0 in
    let held = sound_before start old was.same table.Receipts (OfSoMany c.in_ok-count.count (IsRead IsStoredReceipt receipt_cells taken)) told.1 in
    let read = held.3.1 in
    let count = so_many table.Receipts start IsStoredReceipt receipt_cells taken c.in_ok-count.count held in
    let given = c.in_ok-count.ensures.context ∙ c.new-check.ensures.later ∙ c.knows_later_kinds.ensures in
    let rows = record was.rows { receipts = read.records } in
    record {
      same = unchanged_then start old new was.same told.0;
      rows = rows;
      named = was.named;
      sound = all_more (Holds v start court next rows) (before table.Receipts) table.Receipts was.sound (read_rows table.Receipts start IsStoredReceipt receipt_cells taken c.in_ok-count.count held (AreSoundStored (knows_later_kinds v)) (subst (λ later. AreSoundStored later read.records) given read.taken.sound));
      said = record {
        short_days = was.said.short_days;
        unread = was.said.unread;
        ends = was.said.ends;
        held = λ i. record (was.said.held i) { receipts = count i };
      };
    }

pub returns-in_err-count-clause-cause : goal.returns-in_err-count-clause-cause
returns-in_err-count-clause-cause g c clean =
    let old = state g.S.Store c.args.conn.now in
    let new = state g.S.Store c.judge_table.new.conn in
    err_caused old new c.in_err-count.field-0.0 c.from_residual.result c.from_residual.ensures.1 (c.in_err-count.ensures.cause clean)
