use Rattle.docket_history.specs.ShortDays.{day_and_span_rows}
use Rattle.docket_columns.specs.Cells.{calendar_cells}
use Rattle.docket_tables.proofs.ContentsLemmas.{keyed_rows}
use Rattle.docket_tables.specs.Contents.{rows_with}
use Rattle.std.proofs.lemmas.Result.{IfErr-weaker}
use Rattle.sqlite.specs.Held.{state}
use Rattle.docket_tables.proofs.ChangeCauses.{caused_passed, caused_within}
use Rattle.std.proofs.Common.{arith, refl}
use Rattle.docket_tables.specs.Holds.{without_number}
use Rattle.docket_tables.specs.Layouts.{with_rows}
use Rattle.docket_tables.specs.declared.table.Table.TheVariants.{Calendar}
use Rattle.docket_tables.proofs.CommitLemmas.{inside_then}
use Rattle.docket_tables.proofs.changing.withdraw_row.Goals as goal

pub returns-clause-inside : goal.returns-clause-inside
returns-clause-inside g c = inside_then _ _ _ c.remove_calendar_row.ensures.inside c.remove_short_day.ensures.inside

pub returns-clause-ok : goal.returns-clause-ok
returns-clause-ok g c clean rows keyed keyed_short sees =
    let first = c.in_ok-remove_calendar_row.ensures.ok (omega (arith, c.remove_short_day.ensures.inside.survives.clean)) rows keyed sees in
    c.remove_short_day.ensures.ok clean (with_rows Calendar (without_number c.args.number (rows Calendar)) rows) keyed_short first

pub returns-in_err-remove_calendar_row-clause-cause : goal.returns-in_err-remove_calendar_row-clause-cause
returns-in_err-remove_calendar_row-clause-cause g c clean court t ends sees =
    let old = state g.S.Store c.args.tx.now.conn.now in
    let new = state g.S.Store c.remove_calendar_row.new.tx.conn.now in
    caused_passed old new c.in_err-remove_calendar_row.field-0.0 c.from_residual.result c.from_residual.ensures.1 (c.in_err-remove_calendar_row.ensures.cause clean (rows_with court t ends) sees)

pub returns-clause-cause : goal.returns-clause-cause
returns-clause-cause g c clean court t ends sees =
    let old = state g.S.Store c.args.tx.now.conn.now in
    let mid = state g.S.Store c.remove_calendar_row.new.tx.conn.now in
    let new = state g.S.Store c.remove_short_day.new.tx.conn.now in
    let rows = rows_with court t ends in
    let keyed = keyed_rows calendar_cells (λ row. row.number) (λ row. refl) (day_and_span_rows t.calendar) in
    let then = c.in_ok-remove_calendar_row.ensures.ok (omega (arith, clean, c.remove_short_day.ensures.inside.survives.clean)) rows keyed sees in
    let survives = c.remove_calendar_row.ensures.inside.survives in
    IfErr-weaker c.remove_short_day.result _ _ (λ e h. caused_within old mid new new e survives.counts (omega arith) survives.limit h)
    (c.remove_short_day.ensures.cause clean (with_rows Calendar (without_number c.args.number (rows Calendar)) rows) then)
