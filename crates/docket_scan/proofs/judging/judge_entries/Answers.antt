use Rattle.std.proofs.Common.{◌∙◌, ap, arith, length, subst}
use Rattle.sqlite.specs.Held.{state}
use Rattle.sqlite.specs.State.{HasCleanDisk}
use Rattle.sqlite.proofs.Callers.{unchanged_then}
use Rattle.docket_columns.specs.Cells.{entry_cells}
use Rattle.docket_columns.specs.Fits.{IsEntryRow}
use Rattle.docket_sound.specs.Entries.{AreSoundEntries, HasTakenEntries, entries_checked}
use Rattle.docket_tables.specs.declared.table.Table.TheVariants as table
use Rattle.docket_scan.specs.Judging.{Holds, before}
use Rattle.docket_scan.specs.Reading.{FailsOver}
use Rattle.docket_scan.specs.Records.{AreEntryRows}
use Rattle.docket_scan.specs.Scans.{OfSoMany}
use Rattle.docket_scan.specs.Taken.{IsRead}
use Rattle.docket_scan.proofs.CauseLemmas.{err_caused}
use Rattle.docket_scan.proofs.JudgingLemmas.{all_more, each_has, failed, handed, read_rows, so_many, sound_before}
use Rattle.docket_scan.proofs.judging.judge_entries.Goals as goal

pub returns-in_err-count-clause-err : goal.returns-in_err-count-clause-err
returns-in_err-count-clause-err g c v first court next prior =
    let start = state g.S.Store first in
    let old = state g.S.Store c.args.conn.now in
    let new = state g.S.Store c.judge_table.new.conn in
    let fault = c.in_err-count.field-0.0 in
    handed c.from_residual-in_err-count.result fault (FailsOver v start court next new) c.from_residual-in_err-count.ensures.1
    (λ clean.
    let early : HasCleanDisk old = omega (arith, clean, c.judge_table.ensures.writes_nothing.clean) in
    let was = prior early in
    let told = rw c.in_err-count.was at (c.judge_table.ensures.told clean c.in_ok-check.ensures.none) in
    failed start old was.same v table.Entries (each_has v table.Entries tt) court next new was.rows (AreEntryRows (entries_checked c.in_ok-check.check)) fault (ap AreEntryRows (c.in_ok-check.ensures.cases ∙ was.said.cases)) was.named was.sound told)

pub returns-clause-ok : goal.returns-clause-ok
returns-clause-ok g c v first court next prior clean =
    let start = state g.S.Store first in
    let old = state g.S.Store c.args.conn.now in
    let new = state g.S.Store c.judge_table.new.conn in
    let early : HasCleanDisk old = omega (arith, clean, c.judge_table.ensures.writes_nothing.clean) in
    let was = prior early in
    let told = rw c.in_ok-count.was at (c.judge_table.ensures.told clean c.in_ok-check.ensures.none) in
    let taken = HasTakenEntries c.in_ok-count.field-0-0 in
    let held = sound_before start old was.same table.Entries (OfSoMany c.in_ok-count.count (IsRead IsEntryRow entry_cells taken)) told.1 in
    let read = held.3.1 in
    let count = so_many table.Entries start IsEntryRow entry_cells taken c.in_ok-count.count held in
    let given = c.in_ok-count.ensures.context ∙ c.in_ok-check.ensures.cases ∙ was.said.cases in
    let rows = record was.rows { entries = read.records } in
    record {
      same = unchanged_then start old new was.same told.0;
      rows = rows;
      named = was.named;
      sound = all_more (Holds v start court next rows) (before table.Entries) table.Entries was.sound (read_rows table.Entries start IsEntryRow entry_cells taken c.in_ok-count.count held (AreSoundEntries (length was.rows.cases)) (subst (λ n. AreSoundEntries n read.records) given read.taken.sound));
      said = record {
        court = was.said.court;
        calendar = was.said.calendar;
        short_days = was.said.short_days;
        unread = was.said.unread;
        names = was.said.names;
        cases = was.said.cases;
        parties = was.said.parties;
        held = λ i. record (was.said.held i) { entries = count i };
      };
    }

pub returns-in_err-count-clause-cause : goal.returns-in_err-count-clause-cause
returns-in_err-count-clause-cause g c clean =
    let old = state g.S.Store c.args.conn.now in
    let new = state g.S.Store c.judge_table.new.conn in
    err_caused old new c.in_err-count.field-0.0 c.from_residual-in_err-count.result c.from_residual-in_err-count.ensures.1 (c.in_err-count.ensures.cause clean)
