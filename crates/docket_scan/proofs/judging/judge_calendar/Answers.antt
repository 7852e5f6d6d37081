use Rattle.std.proofs.Common.{◌≡◌, ◌∙◌, [], map, ap, arith, inl, refl, subst, sym}
use Rattle.sqlite.specs.Held.{state}
use Rattle.sqlite.specs.State.{HasCleanDisk}
use Rattle.docket_history.specs.declared.row.CalendarRow.{CalendarRow}
use Rattle.docket_columns.specs.Cells.{calendar_cells}
use Rattle.docket_columns.specs.Fits.{IsCalendarRow}
use Rattle.docket_sound.specs.Calendars.{AreSoundCalendarRows, HasTakenCalendarRows}
use Rattle.docket_sound.specs.ShortDays.{GoesBy}
use Rattle.docket_tables.specs.declared.table.Table.TheVariants as table
use Rattle.docket_scan.specs.Judging.{no_rows}
use Rattle.docket_scan.specs.Reading.{FailsOver, IsReady, Says}
use Rattle.docket_scan.specs.Records.{AreCalendarRows}
use Rattle.docket_scan.specs.Taken.{CalendarContext, calendar_context}
use Rattle.docket_scan.specs.declared.fault.AdoptFault.TheVariants.{NoMemory}
use Rattle.docket_scan.proofs.CauseLemmas.{err_caused}
use Rattle.docket_scan.proofs.JudgingLemmas.{failed_first, failed_since, handed, read_rows, read_since, so_many}
use Rattle.docket_scan.proofs.judging.judge_calendar.Goals as goal

pub returns-in_err-check-clause-err : goal.returns-in_err-check-clause-err
returns-in_err-check-clause-err g c v first prior =
    let start = state g.S.Store first in
    let old = state g.S.Store c.args.conn.now in
    let new = state g.S.Store c.judge_table.new.conn in
    let court = c.args.court in
    let next = c.args.next_row in
    let made = c.new-check.ensures in
    let given : calendar_context c.new-check.result ≡ (court, next) = λ i. (made.court i, made.next_row i) in
    let fault = c.in_err-check.field-0.0 in
    handed c.from_residual.result fault (FailsOver v start court next new) c.from_residual.ensures.1
    (λ clean.
    let early : HasCleanDisk old = omega (arith, clean, c.judge_table.ensures.writes_nothing.clean) in
    let was = prior early in
    failed_since g.S.Store first c.args.conn.now was.still v court next new fault
    (failed_first v court next old new (record no_rows { names = was.names }) (AreCalendarRows c.new-check.result.court c.new-check.result.next_row) fault
    (ap (λ (k : CalendarContext). AreCalendarRows k.0 k.1) given) was.named (rw c.in_err-check.was at (c.judge_table.ensures.told clean made.none))))

pub returns-in_err-read-clause-err : goal.returns-in_err-read-clause-err
returns-in_err-read-clause-err g c v first prior =
    let start = state g.S.Store first in
    let old = state g.S.Store c.args.conn.now in
    let new = state g.S.Store c.judge_table.new.conn in
    handed c.from_residual-in_err-read.result NoMemory (FailsOver v start c.args.court c.args.next_row new) c.from_residual-in_err-read.ensures.1
    (λ clean.
    let early : HasCleanDisk old = omega (arith, clean, c.judge_table.ensures.writes_nothing.clean) in
    let told = rw c.in_ok-check.was at (c.judge_table.ensures.told clean c.new-check.ensures.none) in
    failed_since g.S.Store first c.args.conn.now (prior early).still v c.args.court c.args.next_row new NoMemory (inl told.0))

pub returns-clause-ok : goal.returns-clause-ok
returns-clause-ok g c v first prior clean =
    let start = state g.S.Store first in
    let old = state g.S.Store c.args.conn.now in
    let new = state g.S.Store c.judge_table.new.conn in
    let next = c.args.next_row in
    let early : HasCleanDisk old = omega (arith, clean, c.judge_table.ensures.writes_nothing.clean) in
    let was = prior early in
    let made = c.new-check.ensures in
    let begun : calendar_context c.new-check.result ≡ (c.args.court, next) = λ i. (made.court i, made.next_row i) in
    let given = c.in_ok-check.ensures.context ∙ begun in
    let told = rw c.in_ok-check.was at (c.judge_table.ensures.told clean made.none) in
    let taken = HasTakenCalendarRows c.in_ok-check.check in
    let read = told.1.3.1 in
    let count = so_many table.Calendar old IsCalendarRow calendar_cells taken c.in_ok-check.count told.1 in
    let sound = subst (λ (k : CalendarContext). AreSoundCalendarRows k.0 k.1 read.records) given read.taken.entered.sound in
    let court = c.finish-court.ensures.court ∙ ap (λ (k : CalendarContext). k.0) given in
    let finish = c.finish-court.ensures in
    let short_days = c.finish-court.result.2 in
    let ready : IsReady c.args.court next read.records [] short_days = record {
      unread = refl;
      none = finish.short_days read.records read.taken;
      goes = subst (λ (k : CalendarContext). GoesBy short_days k.0.close_minute k.1 (map (λ (r : CalendarRow). r.number) read.records)) given (finish.context read.records read.taken);
    } in
    let said = c.in_ok-read.ensures read.records was.names next (finish.calendar read.records read.taken) count (subst (λ k. IsReady k next read.records [] short_days) (sym court) ready) was.known in
    let rows = record no_rows { calendar = read.records; names = was.names } in
    read_since g.S.Store first c.args.conn.now was.still v table.Cases c.args.court next new (λ r. Says c.args.court next r c.in_ok-read.read) (record {
      same = told.0;
      rows = rows;
      named = was.named;
      sound = (read_rows table.Calendar old IsCalendarRow calendar_cells taken c.in_ok-check.count told.1 (AreSoundCalendarRows c.args.court next) sound, tt);
      said = subst (λ k. Says k next rows c.in_ok-read.read) court said;
    })

pub returns-in_err-check-clause-cause : goal.returns-in_err-check-clause-cause
returns-in_err-check-clause-cause g c clean =
    let old = state g.S.Store c.args.conn.now in
    let new = state g.S.Store c.judge_table.new.conn in
    err_caused old new c.in_err-check.field-0.0 c.from_residual.result c.from_residual.ensures.1 (c.in_err-check.ensures.cause clean)
