use Rattle.std.proofs.Common.{◌∙◌, List, [], if◌then◌else◌, ap, ap₂, arith}
use Rattle.sqlite.specs.Held.{state}
use Rattle.sqlite.specs.State.{HasCleanDisk}
use Rattle.docket_history.specs.Histories.{items_of, standing_rows}
use Rattle.docket_history.specs.declared.item.CalendarItem.{CalendarItem}
use Rattle.docket_history.specs.declared.subject.Subject.{Subject}
use Rattle.docket_history.specs.declared.view.View.{View}
use Rattle.docket_decisions.specs.Tables.{rows_of}
use Rattle.docket_tables.proofs.AskLemmas.{asked, asked_err, asked_then}
use Rattle.docket_tables.proofs.ReadLemmas.{err_given}
use Rattle.docket_applying.specs.Applying.{Stands, docket_rows}
use Rattle.docket_applying.specs.Dockets.{serving}
use Rattle.docket_applying.proofs.ApplyLemmas.{docket_orderly}
use Rattle.docket_applying.proofs.judging.shown.Goals as goal

pub returns-in_err-view-clause-read : goal.returns-in_err-view-clause-read
returns-in_err-view-clause-read g c court h stands =
    err_given g.S.Store c.view.new.conn (docket_rows court h) _ c.in_err-view.field-0.0 c.from_residual.result c.from_residual.ensures.1 (c.in_err-view.ensures.read court (rows_of court h) (docket_orderly court h stands.docket) stands.rows)

pub returns-in_err-calendar-clause-read : goal.returns-in_err-calendar-clause-read
returns-in_err-calendar-clause-read g c court h stands =
    let seen = c.in_ok-view.ensures.read court (rows_of court h) (docket_orderly court h stands.docket) stands.rows in
    let still : Stands g.S.Store (serving c.view.new.conn court c.args.kept.now) h = record { docket = stands.docket; serves = stands.serves; rows = seen.0; calendar = λ clean. stands.calendar (omega (arith, clean, c.view.ensures.only.writes_nothing.clean)) } in
    err_given g.S.Store c.calendar_asked.new.conn (docket_rows court h) _ c.in_err-calendar.field-0.0 c.from_residual-in_err-calendar.result c.from_residual-in_err-calendar.ensures.1 (c.in_err-calendar.ensures.read court h still)

pub returns-clause-read : goal.returns-clause-read
returns-clause-read g c court h stands =
    let seen = c.in_ok-view.ensures.read court (rows_of court h) (docket_orderly court h stands.docket) stands.rows in
    let still : Stands g.S.Store (serving c.view.new.conn court c.args.kept.now) h = record { docket = stands.docket; serves = stands.serves; rows = seen.0; calendar = λ clean. stands.calendar (omega (arith, clean, c.view.ensures.only.writes_nothing.clean)) } in
    let asked = c.in_ok-calendar.ensures.read court h still in (
      asked.0,
      λ clean.
          let early : HasCleanDisk (state g.S.Store c.view.new.conn) = omega (arith, clean, c.calendar_asked.ensures.only.writes_nothing.clean) in
          ap₂ (λ (v : View) (items : List CalendarItem). record v { calendar = items }) (seen.1 early) (asked.1 clean ∙ ap (λ (s : Subject). if s.asks.calendar then items_of (standing_rows h) else []) c.requires.about),
    )

pub returns-clause-receipt : goal.returns-clause-receipt
returns-clause-receipt g c rows holds clean =
    let early : HasCleanDisk (state g.S.Store c.view.new.conn) = omega (arith, clean, c.calendar_asked.ensures.only.writes_nothing.clean) in
    c.in_ok-view.ensures.kept rows holds early

pub returns-in_err-view-clause-only : goal.returns-in_err-view-clause-only
returns-in_err-view-clause-only g c = asked_err c.from_residual.result c.from_residual.ensures.1 c.in_err-view.ensures.only

pub returns-in_err-calendar-clause-only : goal.returns-in_err-calendar-clause-only
returns-in_err-calendar-clause-only g c = asked_err c.from_residual-in_err-calendar.result c.from_residual-in_err-calendar.ensures.1 (asked_then c.in_ok-view.ensures.only c.in_err-calendar.ensures.only)

pub returns-clause-only : goal.returns-clause-only
returns-clause-only g c = asked (asked_then c.in_ok-view.ensures.only c.in_ok-calendar.ensures.only)
