use Rattle.std.proofs.Common.{◌≡◌, Vec, Global, arith}
use Rattle.docket_calendar.specs.Calendar.{calendar_rows}
use Rattle.docket_history.specs.declared.record.DueRow.{DueRow}
use Rattle.docket_applying.specs.Applying.{docket_rows}
use Rattle.docket_applying.proofs.AskLemmas.{asks_failed}
use Rattle.docket_applying.proofs.ListingLemmas.{history_of}
use Rattle.docket_applying.proofs.IdleLemmas.{found_idle, unread_idle}
use Rattle.docket_applying.proofs.due.due_by.Goals as goal

pub returns-in-Ok-clause-answer : goal.returns-in-Ok-clause-answer
returns-in-Ok-clause-answer g c kept h stands entered =
    let gives = c.in-Ok.ensures.gives h (history_of c.args.court.now h stands.docket) stands.rows (λ clean. entered (omega (arith, c.due_rows.ensures.only.writes_nothing.clean))) in
    (record { docket = stands.docket; serves = stands.serves; rows = gives.0; calendar = λ clean. stands.calendar (omega (arith, c.due_rows.ensures.only.writes_nothing.clean)) }, gives.1)

pub returns-in-Err-clause-answer : goal.returns-in-Err-clause-answer
returns-in-Err-clause-answer g c kept h stands entered =
    let court = c.args.court.now in
    let gives = c.in-Err.ensures.gives h (history_of court h stands.docket) stands.rows (λ clean. entered (omega (arith, c.due_rows.ensures.only.writes_nothing.clean))) in
    asks_failed g.S.Store {X = Vec DueRow Global} c.read_fault.new.conn court kept h (λ found. found.items ≡ calendar_rows court h c.args.from c.args.to) c.read_fault.result stands.docket
    (λ clean. stands.calendar (omega (arith, c.due_rows.ensures.only.writes_nothing.clean, c.read_fault.ensures.writes_nothing.clean)))
    (c.read_fault.ensures.left (docket_rows court h) (docket_rows court h) gives)

pub returns-in-Ok-clause-leaves : goal.returns-in-Ok-clause-leaves
returns-in-Ok-clause-leaves g c = found_idle c.requires c.in-Ok.ensures.only

pub returns-in-Err-clause-leaves : goal.returns-in-Err-clause-leaves
returns-in-Err-clause-leaves g c =
    unread_idle c.in-Err.ensures.only c.read_fault.ensures.idle c.read_fault.ensures.stays c.read_fault.ensures.writes_nothing c.read_fault.ensures.named c.read_fault.ensures.blames
