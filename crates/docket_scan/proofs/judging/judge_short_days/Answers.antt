use Rattle.std.proofs.Common.{◌∙◌, arith, ap, subst, map}
use Rattle.sqlite.specs.Held.{state}
use Rattle.sqlite.specs.State.{HasCleanDisk}
use Rattle.sqlite.proofs.Callers.{unchanged_then}
use Rattle.docket_history.specs.declared.row.CalendarRow.{CalendarRow}
use Rattle.docket_columns.specs.Cells.{short_day_cells}
use Rattle.docket_columns.specs.Fits.{IsShortDayRow}
use Rattle.docket_columns.specs.declared.version.Version.TheVariants.{Second}
use Rattle.docket_sound.specs.ShortDays.{AreSoundShortDays, HasTakenShortDays}
use Rattle.docket_tables.specs.declared.table.Table.TheVariants as table
use Rattle.docket_scan.specs.Judging.{Holds, before}
use Rattle.docket_scan.specs.Reading.{FailsOver}
use Rattle.docket_scan.specs.Scans.{OfSoMany}
use Rattle.docket_scan.specs.Taken.{IsRead, ShortDayContext, short_day_context}
use Rattle.docket_scan.proofs.CauseLemmas.{err_caused}
use Rattle.docket_scan.proofs.JudgingLemmas.{all_more, failed, handed, read_rows, so_many, sound_before}
use Rattle.docket_scan.proofs.ShortDayLemmas.{AreSoundRows, readied, few, now_held}
use Rattle.docket_scan.proofs.judging.judge_short_days.Goals as goal

pub returns-in_err-count-clause-err : goal.returns-in_err-count-clause-err
returns-in_err-count-clause-err g c first court next prior =
    let start = state g.S.Store first in
    let old = state g.S.Store c.args.conn.now in
    let new = state g.S.Store c.judge_table.new.conn in
    let check = c.args.read.short_days in
    let fault = c.in_err-count.field-0.0 in
    handed c.from_residual.result fault (FailsOver Second start court next new) c.from_residual.ensures.1
    (λ clean.
    let early : HasCleanDisk old = omega (arith, clean, c.judge_table.ensures.writes_nothing.clean) in
    let was = prior early in
    let context = readied court next was.rows.calendar was.rows.short_days check was.said.short_days in
    let told = rw c.in_err-count.was at (c.judge_table.ensures.told clean was.said.short_days.none) in
    failed start old was.same Second table.ShortDays tt court next new was.rows (AreSoundRows (short_day_context check)) fault (ap AreSoundRows context) was.named was.sound told)

pub returns-clause-ok : goal.returns-clause-ok
returns-clause-ok g c first court next prior clean =
    let start = state g.S.Store first in
    let old = state g.S.Store c.args.conn.now in
    let new = state g.S.Store c.judge_table.new.conn in
    let check = c.args.read.short_days in
    let early : HasCleanDisk old = omega (arith, clean, c.judge_table.ensures.writes_nothing.clean) in
    let was = prior early in
    let context = c.in_ok-count.ensures.context ∙ readied court next was.rows.calendar was.rows.short_days check was.said.short_days in
    let told = rw c.in_ok-count.was at (c.judge_table.ensures.told clean was.said.short_days.none) in
    let taken = HasTakenShortDays c.in_ok-count.field-0-0 in
    let held = sound_before start old was.same table.ShortDays (OfSoMany c.in_ok-count.count (IsRead IsShortDayRow short_day_cells taken)) told.1 in
    let read = held.3.1 in
    let count = so_many table.ShortDays start IsShortDayRow short_day_cells taken c.in_ok-count.count held in
    let numbers = map (λ (r : CalendarRow). r.number) was.rows.calendar in
    let sound : AreSoundShortDays court.close_minute next numbers read.records = subst (λ (k : ShortDayContext). AreSoundShortDays k.0 k.1 k.2 read.records) context read.taken.sound in
    let rows = record was.rows { short_days = read.records } in
    let total = c.with_more.ensures (few court next was.rows was.said.short_days.unread c.args.read.held was.said.held read.records sound c.in_ok-count.count count) in
    record {
      same = unchanged_then start old new was.same told.0;
      rows = rows;
      named = was.named;
      sound = all_more (Holds Second start court next rows) (before table.ShortDays) table.ShortDays was.sound
          (read_rows table.ShortDays start IsShortDayRow short_day_cells taken c.in_ok-count.count held (AreSoundShortDays court.close_minute next numbers) sound);
      said = now_held court next was.rows was.said.short_days.unread c.args.read.held was.said.held read.records sound c.in_ok-count.count count _ total;
    }

pub returns-in_err-count-clause-cause : goal.returns-in_err-count-clause-cause
returns-in_err-count-clause-cause g c clean =
    let old = state g.S.Store c.args.conn.now in
    let new = state g.S.Store c.judge_table.new.conn in
    err_caused old new c.in_err-count.field-0.0 c.from_residual.result c.from_residual.ensures.1 (c.in_err-count.ensures.cause clean)
