use Rattle.docket_tables.proofs.ChangeCauses.{reading_passed}
use Rattle.docket_tables.specs.Causes.{IsReadingFault}
use Rattle.docket_applying.specs.Sound.{IsSoundCalendar}
use Rattle.std.proofs.Common.{◌∙◌, ap, sym, subst}
use Rattle.std.proofs.lemmas.Result.{IfOk-weaker, IfErr-weaker}
use Rattle.sqlite.specs.Held.{state}
use Rattle.docket_history.specs.CalendarItems.{calendar_of}
use Rattle.docket_history.specs.Histories.{items_of}
use Rattle.docket_tables.specs.Contents.{rows_with}
use Rattle.docket_tables.proofs.AnyLemmas.{still_read}
use Rattle.docket_tables.proofs.InsideLemmas.{failed_after}
use Rattle.docket_applying.proofs.settling.calendar_standing.Goals as goal

pub returns-in_err-rows-clause-inside : goal.returns-in_err-rows-clause-inside
returns-in_err-rows-clause-inside g c court t ends orderly =
    let rows = rows_with court t ends in
    failed_after (state g.S.Store c.args.tx.now.conn.now) (state g.S.Store c.calendar.new.tx.conn.now) rows rows c.from_residual.result _ (λ sees. (c.calendar.ensures.inside court t ends orderly sees).0) c.from_residual.ensures.0

pub returns-clause-inside : goal.returns-clause-inside
returns-clause-inside g c court t ends orderly sees =
    let read = c.in_ok-rows.ensures.inside court t ends orderly sees in (
      read.0,
      λ clean.
          let found = read.1 clean in
          IfOk-weaker c.calendar_of_rows.result _ _ (λ calendar is. (found.0, is ∙ ap (λ rows. calendar_of (items_of rows)) (c.as_slice.ensures.value ∙ found.1))) c.calendar_of_rows.ensures.calendar,
    )

pub returns-in_err-rows-clause-still : goal.returns-in_err-rows-clause-still
returns-in_err-rows-clause-still g c rows =
    failed_after (state g.S.Store c.args.tx.now.conn.now) (state g.S.Store c.calendar.new.tx.conn.now) rows rows c.from_residual.result _ (λ sees. (c.calendar.ensures.still rows sees).0) c.from_residual.ensures.0

pub returns-clause-still : goal.returns-clause-still
returns-clause-still g c rows sees =
    let read = c.in_ok-rows.ensures.still rows sees in (read.0, λ clean. still_read c.calendar_of_rows.result _ (read.1 clean).0)

pub returns-in_err-rows-clause-cause : goal.returns-in_err-rows-clause-cause
returns-in_err-rows-clause-cause g c clean court t ends orderly sound sees =
    reading_passed (state g.S.Store c.args.tx.now.conn.now) (state g.S.Store c.calendar.new.tx.conn.now) c.in_err-rows.field-0.0 c.from_residual.result c.from_residual.ensures.1
    (c.in_err-rows.ensures.cause clean court t ends orderly sees)

pub returns-clause-cause : goal.returns-clause-cause
returns-clause-cause g c clean court t ends orderly sound sees =
    let old = state g.S.Store c.args.tx.now.conn.now in
    let new = state g.S.Store c.calendar.new.tx.conn.now in
    let read = c.in_ok-rows.ensures.inside court t ends orderly (λ _. sees) in
    let is = c.as_slice.ensures.value ∙ (read.1 clean).1 in
    IfErr-weaker c.calendar_of_rows.result _ _ (λ fault none. subst (IsReadingFault old new) (sym none) tt)
    (c.calendar_of_rows.ensures.short (subst (λ rows. IsSoundCalendar (items_of rows)) (sym is) sound.calendar))
