use Rattle.std.proofs.Common.{arith, refl}
use Rattle.sqlite.specs.Held.{state}
use Rattle.sqlite.specs.State.{HasCleanDisk}
use Rattle.sqlite.proofs.Callers.{unchanged_then}
use Rattle.docket_columns.specs.Cells.{case_cells}
use Rattle.docket_columns.specs.Fits.{IsCaseRow}
use Rattle.docket_sound.specs.Cases.{AreSoundCases, HasTakenCases}
use Rattle.docket_tables.specs.declared.table.Table.TheVariants as table
use Rattle.docket_scan.specs.Judging.{Holds, before}
use Rattle.docket_scan.specs.Reading.{FailsOver}
use Rattle.docket_scan.specs.Records.{AreCaseRows}
use Rattle.docket_scan.specs.Scans.{OfSoMany}
use Rattle.docket_scan.specs.Taken.{IsRead}
use Rattle.docket_scan.proofs.CauseLemmas.{err_caused}
use Rattle.docket_scan.proofs.JudgingLemmas.{all_more, each_has, failed, handed, read_rows, so_many, sound_before}
use Rattle.docket_scan.proofs.judging.judge_cases.Goals as goal

pub returns-in_err-check-clause-err : goal.returns-in_err-check-clause-err
returns-in_err-check-clause-err g c v first court next prior =
    let start = state g.S.Store first in
    let old = state g.S.Store c.args.conn.now in
    let new = state g.S.Store c.judge_table.new.conn in
    let fault = c.in_err-check.field-0.0 in
    handed c.from_residual.result fault (FailsOver v start court next new) c.from_residual.ensures.1
    (λ clean.
    let early : HasCleanDisk old = omega (arith, clean, c.judge_table.ensures.writes_nothing.clean) in
    let was = prior early in
    let told = rw c.in_err-check.was at (c.judge_table.ensures.told clean c.new-check.ensures) in
    failed start old was.same v table.Cases (each_has v table.Cases tt) court next new was.rows (AreCaseRows) fault (refl) was.named was.sound told)

pub returns-clause-ok : goal.returns-clause-ok
returns-clause-ok g c v first court next prior clean =
    let start = state g.S.Store first in
    let old = state g.S.Store c.args.conn.now in
    let new = state g.S.Store c.judge_table.new.conn in
    let early : HasCleanDisk old = omega (arith, clean, c.judge_table.ensures.writes_nothing.clean) in
    let was = prior early in
    let told = rw c.in_ok-check.was at (c.judge_table.ensures.told clean c.new-check.ensures) in
    let taken = HasTakenCases c.in_ok-check.check in
    let held = sound_before start old was.same table.Cases (OfSoMany c.in_ok-check.count (IsRead IsCaseRow case_cells taken)) told.1 in
    let read = held.3.1 in
    let count = so_many table.Cases start IsCaseRow case_cells taken c.in_ok-check.count held in
    let rows = record was.rows { cases = read.records } in
    record {
      same = unchanged_then start old new was.same told.0;
      rows = rows;
      named = was.named;
      sound = all_more (Holds v start court next rows) (before table.Cases) table.Cases was.sound (read_rows table.Cases start IsCaseRow case_cells taken c.in_ok-check.count held AreSoundCases read.taken.sound);
      said = record {
        court = was.said.court;
        calendar = was.said.calendar;
        short_days = was.said.short_days;
        unread = was.said.unread;
        names = was.said.names;
        cases = c.cases-read.ensures read.records read.taken;
        parties = was.said.parties;
        held = λ i. record (was.said.held i) { cases = count i };
      };
    }

pub returns-in_err-check-clause-cause : goal.returns-in_err-check-clause-cause
returns-in_err-check-clause-cause g c clean =
    let old = state g.S.Store c.args.conn.now in
    let new = state g.S.Store c.judge_table.new.conn in
    err_caused old new c.in_err-check.field-0.0 c.from_residual.result c.from_residual.ensures.1 (c.in_err-check.ensures.cause clean)
