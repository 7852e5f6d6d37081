use Rattle.docket_history.specs.declared.item.CalendarItem.TheVariants.{Day, Span, Short}
use Rattle.docket_history.specs.declared.item.CalendarItem.{CalendarItem}
use Rattle.docket_history.specs.declared.row.Change.TheVariants.{AddCalendar}
use Rattle.docket_tables.specs.Additions.{AreStorable, calendar_values}
use Rattle.docket_orderly.specs.Additions.{MayAdd}
use Rattle.docket_tables.specs.Contents.{rows_with}
use Rattle.docket_tables.proofs.AdditionLemmas.{calendar_may, short_day_may}
use Rattle.docket_tables.proofs.ChangeCauses.{row_caused}
use Rattle.std.proofs.Common.{◌∙◌, ap, refl, sym, subst, ℕ, List}
use Rattle.sqlite.specs.Held.{state}
use Rattle.docket_columns.specs.Cells.{short_day_cells, calendar_cells}
use Rattle.docket_tables.specs.AnyRows.{with_calendar_row}
use Rattle.docket_tables.specs.declared.table.Table.TheVariants.{ShortDays, Calendar}
use Rattle.docket_tables.proofs.ContentsLemmas.{row_inserted}
use Rattle.docket_tables.proofs.changing.insert_calendar_row.Goals as goal

pub returns-in-Short-clause-ok : goal.returns-in-Short-clause-ok
returns-in-Short-clause-ok g c clean rows sees =
    let old = state g.S.Store c.args.tx.now.conn.now in
    let new = state g.S.Store c.insert.new.tx.conn.now in
    let row = c.args.row.now in
    row_inserted c.insert.result old new ShortDays _ (short_day_cells (record { number = row.number; day = c.in-Short.day; close = c.in-Short.close; name = row.name })) rows (with_calendar_row row.number row.name row.item rows)
    (c.short_day_values-values.ensures ∙ ap (λ name. short_day_cells (record { number = row.number; day = c.in-Short.day; close = c.in-Short.close; name = name })) c.as_str.ensures) refl (λ other. ap (λ i. with_calendar_row row.number row.name i rows other) (sym c.in-Short.is)) (c.insert.ensures.ok clean) sees

pub returns-in-Short-clause-cause : goal.returns-in-Short-clause-cause
returns-in-Short-clause-cause g c clean court t ends sees may storable =
    let old = state g.S.Store c.args.tx.now.conn.now in
    let new = state g.S.Store c.insert.new.tx.conn.now in
    let row = c.args.row.now in
    let day = c.in-Short.day in
    let close = c.in-Short.close in
    row_caused c.insert.result old new ShortDays _ (short_day_cells (record { number = row.number; day = day; close = close; name = row.name })) (rows_with court t ends)
    (c.short_day_values-values.ensures ∙ ap (λ name. short_day_cells (record { number = row.number; day = day; close = close; name = name })) c.as_str.ensures) refl
    (short_day_may court t ends row.number day close row.name (subst (λ i. MayAdd (AddCalendar (record { number = row.number; item = i; name = row.name })) t) c.in-Short.is may)
    (subst (λ i. AreStorable (calendar_values row.number row.name i)) c.in-Short.is storable)) sees (c.insert.ensures.cause clean)

-- whatever the item is, its values can be stored in the table of the calendar too
cells_storable : (number : ℕ) (name : List ℕ) (i : CalendarItem) → AreStorable (calendar_values number name i) → AreStorable (calendar_cells (record { number = number; item = i; name = name }))
cells_storable number name (Day kind day) storable = storable
cells_storable number name (Span begin end) storable = storable
cells_storable number name (Short day close) storable = (storable.0, (refl, storable.1))

pub returns-in-Day-clause-cause : goal.returns-in-Day-clause-cause
returns-in-Day-clause-cause g c clean court t ends sees may storable =
    let old = state g.S.Store c.args.tx.now.conn.now in
    let new = state g.S.Store c.insert-in-Day.new.tx.conn.now in
    let row = c.args.row.now in
    row_caused c.insert-in-Day.result old new Calendar _ (calendar_cells row) (rows_with court t ends) c.calendar_values.ensures refl (calendar_may court t ends row may (cells_storable row.number row.name row.item storable)) sees (c.insert-in-Day.ensures.cause clean)
