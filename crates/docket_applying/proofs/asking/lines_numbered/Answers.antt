use Rattle.std.proofs.Common.{◌≡◌, ◌∙◌, List, Option, Some, Vec, Global, sym, ap, arith}
use Rattle.std.specs.Option.{option_map}
use Rattle.sqlite.specs.Held.{state}
use Rattle.sqlite.specs.State.{HasCleanDisk}
use Rattle.docket_history.specs.CalendarItems.{calendar_of}
use Rattle.docket_history.specs.Records.{deadline_lines}
use Rattle.docket_history.specs.declared.item.CalendarItem.{CalendarItem}
use Rattle.docket_decisions.specs.Tables.{case_deadlines, rows_of}
use Rattle.docket_history.specs.declared.record.DeadlineLine.{DeadlineLine}
use Rattle.docket_history.specs.declared.view.DeadlineView.{DeadlineView}
use Rattle.docket_applying.specs.Dockets.{serving}
use Rattle.docket_applying.proofs.AskLemmas.{asks_err, keeping}
use Rattle.docket_applying.proofs.IdleLemmas.{idle_err, idle_ok, idle_then}
use Rattle.docket_applying.proofs.asking.lines_numbered.Goals as goal

pub returns-in_err-lines-clause-answer : goal.returns-in_err-lines-clause-answer
returns-in_err-lines-clause-answer g c h stands =
    let court = c.args.court.now in
    let number = c.args.number in
    let standing : List CalendarItem = c.in_ok-standing.standing in
    let shown = c.in_ok-deadlines.ensures.answer court c.args.kept.now h stands in
    let told = c.in_ok-standing.ensures.answer court h shown.0 in
    let shows : HasCleanDisk (state g.S.Store c.calendar_taken.new.conn) → case_deadlines (rows_of court h) number ≡ Some c.as_slice.result.now = λ clean.
    sym (shown.1 (omega (arith, c.calendar_taken.ensures.leaves.writes_nothing.clean)))
    ∙ ap (option_map (λ (deadlines : Vec DeadlineView Global). deadlines.items)) c.in-Some.is ∙ ap Some (sym c.as_slice.ensures.value) in
    asks_err g.S.Store (serving c.lines_of_case-lines.new.conn court (Some standing)) h (λ (lines : Vec DeadlineLine Global). Some lines.items ≡ deadline_lines court h number)
    (λ (found : Option (Vec DeadlineLine Global)). option_map (λ lines. lines.items) found ≡ deadline_lines court h number)
    c.in_err-lines.field-0.0 c.from_residual-in_err-lines.result c.from_residual-in_err-lines.ensures.1
    (c.in_err-lines.ensures.answer (Some standing) h (keeping g.S.Store c.calendar_taken.new.conn court c.calendar_taken.new.kept standing h told.0 told.1) (λ clean. c.calendar.ensures ∙ ap calendar_of (told.1 clean)) shows)

pub returns-in_err-deadlines-clause-leaves : goal.returns-in_err-deadlines-clause-leaves
returns-in_err-deadlines-clause-leaves g c = idle_err c.from_residual.result c.from_residual.ensures.1 c.in_err-deadlines.ensures.leaves

pub returns-in_err-standing-clause-leaves : goal.returns-in_err-standing-clause-leaves
returns-in_err-standing-clause-leaves g c = idle_err c.from_residual-in_err-standing.result c.from_residual-in_err-standing.ensures.1 (idle_then c.in_ok-deadlines.ensures.leaves c.in_err-standing.ensures.leaves)

pub returns-in_err-lines-clause-leaves : goal.returns-in_err-lines-clause-leaves
returns-in_err-lines-clause-leaves g c = idle_err c.from_residual-in_err-lines.result c.from_residual-in_err-lines.ensures.1 (idle_then c.in_ok-deadlines.ensures.leaves (idle_then c.in_ok-standing.ensures.leaves c.in_err-lines.ensures.leaves))

pub returns-clause-leaves : goal.returns-clause-leaves
returns-clause-leaves g c = idle_ok (idle_then c.in_ok-deadlines.ensures.leaves (idle_then c.in_ok-standing.ensures.leaves c.in_ok-lines.ensures.leaves))
