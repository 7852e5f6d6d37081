use Rattle.std.proofs.Common.{◌≡◌, Option, Vec, Global, arith}
use Rattle.std.specs.Option.{option_map}
use Rattle.docket_decisions.specs.Tables.{case_deadlines, rows_of}
use Rattle.docket_history.specs.declared.view.DeadlineView.{DeadlineView}
use Rattle.docket_applying.specs.Applying.{docket_rows}
use Rattle.docket_applying.proofs.ApplyLemmas.{docket_orderly}
use Rattle.docket_applying.proofs.AskLemmas.{asks_failed}
use Rattle.docket_applying.proofs.IdleLemmas.{found_idle, unread_idle}
use Rattle.docket_applying.proofs.asking.deadlines_shown.Goals as goal

pub returns-in-Ok-clause-answer : goal.returns-in-Ok-clause-answer
returns-in-Ok-clause-answer g c court kept h stands =
    let read = c.in-Ok.ensures.read court (rows_of court h) (docket_orderly court h stands.docket) stands.rows in (
      record { docket = stands.docket; serves = stands.serves; rows = read.0; calendar = λ clean. stands.calendar (omega (arith, c.case_deadlines.ensures.only.writes_nothing.clean)) },
      read.1,
    )

pub returns-in-Err-clause-answer : goal.returns-in-Err-clause-answer
returns-in-Err-clause-answer g c court kept h stands =
    let fails = c.in-Err.ensures.read court (rows_of court h) (docket_orderly court h stands.docket) stands.rows in
    asks_failed g.S.Store {X = Option (Vec DeadlineView Global)} c.read_fault.new.conn court kept h (λ found. option_map (λ deadlines. deadlines.items) found ≡ case_deadlines (rows_of court h) c.args.number) c.read_fault.result stands.docket
    (λ clean. stands.calendar (omega (arith, c.case_deadlines.ensures.only.writes_nothing.clean, c.read_fault.ensures.writes_nothing.clean)))
    (c.read_fault.ensures.left (docket_rows court h) (docket_rows court h) fails)

pub returns-in-Ok-clause-leaves : goal.returns-in-Ok-clause-leaves
returns-in-Ok-clause-leaves g c = found_idle c.requires c.in-Ok.ensures.only

pub returns-in-Err-clause-leaves : goal.returns-in-Err-clause-leaves
returns-in-Err-clause-leaves g c =
    unread_idle c.in-Err.ensures.only c.read_fault.ensures.idle c.read_fault.ensures.stays c.read_fault.ensures.writes_nothing c.read_fault.ensures.named c.read_fault.ensures.blames
