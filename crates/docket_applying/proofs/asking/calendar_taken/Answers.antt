use Rattle.std.proofs.Common.{◌≡◌, List, arith}
use Rattle.docket_history.specs.Histories.{items_of, standing_rows}
use Rattle.docket_history.specs.declared.item.CalendarItem.{CalendarItem}
use Rattle.docket_applying.specs.Applying.{docket_rows}
use Rattle.docket_applying.proofs.AskLemmas.{asks_failed}
use Rattle.docket_applying.proofs.IdleLemmas.{found_idle, unread_idle}
use Rattle.docket_applying.proofs.asking.calendar_taken.Goals as goal

pub returns-in-Err-clause-answer : goal.returns-in-Err-clause-answer
returns-in-Err-clause-answer g c court h stands =
    asks_failed g.S.Store {X = List CalendarItem} c.read_fault.new.conn court c.take_calendar.new.kept h (λ items. items ≡ items_of (standing_rows h)) c.read_fault.result stands.docket
    (λ clean. c.take_calendar.ensures.kept h (stands.calendar (omega (arith, c.take_calendar.ensures.only.writes_nothing.clean, c.read_fault.ensures.writes_nothing.clean))))
    (c.read_fault.ensures.left (docket_rows court h) (docket_rows court h) (c.in-Err.ensures.read court h stands))

pub returns-in-Ok-clause-leaves : goal.returns-in-Ok-clause-leaves
returns-in-Ok-clause-leaves g c = found_idle c.requires c.in-Ok.ensures.only

pub returns-in-Err-clause-leaves : goal.returns-in-Err-clause-leaves
returns-in-Err-clause-leaves g c =
    unread_idle c.in-Err.ensures.only c.read_fault.ensures.idle c.read_fault.ensures.stays c.read_fault.ensures.writes_nothing c.read_fault.ensures.named c.read_fault.ensures.blames
