use Rattle.std.proofs.Common.{◌∙◌, ap, arith, length, map, subst, sym}
use Rattle.sqlite.specs.Held.{state}
use Rattle.sqlite.specs.State.{HasCleanDisk}
use Rattle.sqlite.proofs.Callers.{unchanged_then}
use Rattle.docket_columns.specs.Cells.{deadline_cells}
use Rattle.docket_columns.specs.Fits.{IsDeadlineRow}
use Rattle.docket_sound.specs.Counted.{HasNumbered, cases_of}
use Rattle.docket_sound.specs.Deadlines.{AreSoundDeadlines, HasTakenDeadlines, deadline_key}
use Rattle.docket_sound.specs.KnownTexts.{is_one_of}
use Rattle.docket_sound.specs.Parties.{party_key}
use Rattle.docket_tables.specs.declared.table.Table.TheVariants as table
use Rattle.docket_scan.specs.Judging.{Holds, before}
use Rattle.docket_scan.specs.Reading.{FailsOver}
use Rattle.docket_scan.specs.Records.{count_in}
use Rattle.docket_scan.specs.Scans.{OfSoMany}
use Rattle.docket_scan.specs.Taken.{DeadlineContext, IsRead, deadline_context}
use Rattle.docket_scan.proofs.CauseLemmas.{err_caused}
use Rattle.docket_scan.proofs.DeadlineLemmas.{AreRowsOfContext, begun}
use Rattle.docket_scan.proofs.JudgingLemmas.{all_more, each_has, failed, handed, read_rows, so_many, sound_before}
use Rattle.docket_scan.proofs.judging.judge_deadlines.Goals as goal

pub returns-in_err-check-2-clause-err : goal.returns-in_err-check-2-clause-err
returns-in_err-check-2-clause-err g c v first court next prior =
    let start = state g.S.Store first in
    let old = state g.S.Store c.args.conn.now in
    let new = state g.S.Store c.judge_table.new.conn in
    let fault = c.in_err-check-2.field-0.0 in
    handed c.from_residual-in_err-check-2.result fault (FailsOver v start court next new) c.from_residual-in_err-check-2.ensures.1
    (λ clean.
    let early : HasCleanDisk old = omega (arith, clean, c.judge_table.ensures.writes_nothing.clean) in
    let was = prior early in
    let made = begun court next was.rows c.args.read was.said c.in_ok-check.check c.in_ok-check.ensures.cases c.in_ok-check.ensures.parties c.in_ok-check.ensures.names in
    let told = rw c.in_err-check-2.was at (c.judge_table.ensures.told clean c.in_ok-check.ensures.none) in
    failed start old was.same v table.Deadlines (each_has v table.Deadlines tt) court next new was.rows (AreRowsOfContext (deadline_context c.in_ok-check.check)) fault (ap AreRowsOfContext made) was.named was.sound told)

pub returns-clause-ok : goal.returns-clause-ok
returns-clause-ok g c v first court next prior clean =
    let start = state g.S.Store first in
    let old = state g.S.Store c.args.conn.now in
    let new = state g.S.Store c.judge_table.new.conn in
    let early : HasCleanDisk old = omega (arith, clean, c.judge_table.ensures.writes_nothing.clean) in
    let was = prior early in
    let told = rw c.in_ok-check-2.was at (c.judge_table.ensures.told clean c.in_ok-check.ensures.none) in
    let taken = HasTakenDeadlines c.in_ok-check-2.check in
    let held = sound_before start old was.same table.Deadlines (OfSoMany c.in_ok-check-2.count (IsRead IsDeadlineRow deadline_cells taken)) told.1 in
    let read = held.3.1 in
    let count = so_many table.Deadlines start IsDeadlineRow deadline_cells taken c.in_ok-check-2.count held in
    let made = begun court next was.rows c.args.read was.said c.in_ok-check.check c.in_ok-check.ensures.cases c.in_ok-check.ensures.parties c.in_ok-check.ensures.names in
    let given = c.in_ok-check-2.ensures.context ∙ made in
    let rows = record was.rows { deadlines = read.records } in
    record {
      same = unchanged_then start old new was.same told.0;
      rows = rows;
      named = was.named;
      sound = all_more (Holds v start court next rows) (before table.Deadlines) table.Deadlines was.sound (read_rows table.Deadlines start IsDeadlineRow deadline_cells taken c.in_ok-check-2.count held (AreSoundDeadlines (length was.rows.cases) (count_in (map party_key was.rows.parties)) (is_one_of was.rows.names)) (subst (λ (k : DeadlineContext). AreSoundDeadlines k.0 k.1 k.2 read.records) given read.taken.sound));
      said = record {
        court = was.said.court;
        calendar = was.said.calendar;
        short_days = was.said.short_days;
        unread = was.said.unread;
        cases = ap cases_of c.finish-deadlines.ensures.deadlines ∙ ap (λ (k : DeadlineContext). k.0) given;
        deadlines = subst (λ n. HasNumbered n (map deadline_key read.records)) (sym c.finish-deadlines.ensures.deadlines) read.taken.numbered;
        held = λ i. record (was.said.held i) { deadlines = count i };
      };
    }

pub returns-in_err-check-2-clause-cause : goal.returns-in_err-check-2-clause-cause
returns-in_err-check-2-clause-cause g c clean =
    let old = state g.S.Store c.args.conn.now in
    let new = state g.S.Store c.judge_table.new.conn in
    err_caused old new c.in_err-check-2.field-0.0 c.from_residual-in_err-check-2.result c.from_residual-in_err-check-2.ensures.1 (c.in_err-check-2.ensures.cause clean)
