use Rattle.std.proofs.Common.{◌≡◌, ◌∙◌, List, Some, Vec, Global, ap}
use Rattle.docket_calendar.specs.Calendar.{calendar_rows}
use Rattle.docket_history.specs.CalendarItems.{calendar_of}
use Rattle.docket_history.specs.Histories.{items_of, standing_rows}
use Rattle.docket_history.specs.declared.item.CalendarItem.{CalendarItem}
use Rattle.docket_history.specs.declared.record.DueRow.{DueRow}
use Rattle.docket_applying.specs.Dockets.{serving}
use Rattle.docket_applying.proofs.AskLemmas.{asks_err, keeping}
use Rattle.docket_applying.proofs.IdleLemmas.{idle_err, idle_then}
use Rattle.docket_applying.proofs.due.due_days.Goals as goal

pub returns-in_err-standing-clause-answer : goal.returns-in_err-standing-clause-answer
returns-in_err-standing-clause-answer g c h stands =
    let told = c.calendar_taken in
    asks_err g.S.Store (serving told.new.conn c.args.court.now told.new.kept) h (λ (items : List CalendarItem). items ≡ items_of (standing_rows h))
    (λ (found : Vec DueRow Global). found.items ≡ calendar_rows c.args.court.now h c.args.from c.args.to)
    c.in_err-standing.field-0.0 c.from_residual.result c.from_residual.ensures.1 (c.in_err-standing.ensures.answer c.args.court.now h stands)

pub returns-clause-answer : goal.returns-clause-answer
returns-clause-answer g c h stands =
    let court = c.args.court.now in
    let standing : List CalendarItem = c.in_ok-standing.standing in
    let told = c.in_ok-standing.ensures.answer court h stands in
    c.due_by-found.ensures.answer (Some standing) h (keeping g.S.Store c.calendar_taken.new.conn court c.calendar_taken.new.kept standing h told.0 told.1) (λ clean. c.calendar.ensures ∙ ap calendar_of (told.1 clean))

pub returns-in_err-standing-clause-leaves : goal.returns-in_err-standing-clause-leaves
returns-in_err-standing-clause-leaves g c = idle_err c.from_residual.result c.from_residual.ensures.1 c.in_err-standing.ensures.leaves

pub returns-clause-leaves : goal.returns-clause-leaves
returns-clause-leaves g c = idle_then c.in_ok-standing.ensures.leaves c.due_by-found.ensures.leaves
