use Rattle.std.proofs.Common.{arith}
use Rattle.docket_decisions.specs.Outcomes.{after}
use Rattle.docket_applying.specs.Applying.{docket_rows}
use Rattle.docket_applying.proofs.ApplyLemmas.{faults_of}
use Rattle.docket_applying.proofs.IdleLemmas.{found_idle, unread_idle}
use Rattle.docket_applying.proofs.judging.look.Goals as goal

pub returns-in-Ok-clause-shown : goal.returns-in-Ok-clause-shown
returns-in-Ok-clause-shown g c court h stands =
    let seen = c.in-Ok.ensures.read court h stands in (
      record { docket = stands.docket; serves = stands.serves; rows = seen.0; calendar = λ clean. c.shown.ensures.kept h (stands.calendar (omega (arith, c.shown.ensures.only.writes_nothing.clean))) },
      seen.1,
    )

pub returns-in-Err-clause-shown : goal.returns-in-Err-clause-shown
returns-in-Err-clause-shown g c court h stands =
    let command = c.args.command.now in
    let fails = c.read_fault.ensures.left (docket_rows court h) (docket_rows court (after court h command)) (c.in-Err.ensures.read court h stands) in
    faults_of g.S.Store c.read_fault.new.conn court c.shown.new.kept h command c.read_fault.result stands.docket
    (λ clean. c.shown.ensures.kept h (stands.calendar (omega (arith, c.shown.ensures.only.writes_nothing.clean, c.read_fault.ensures.writes_nothing.clean)))) fails

pub returns-in-Ok-clause-receipt : goal.returns-in-Ok-clause-receipt
returns-in-Ok-clause-receipt g c rows holds clean = c.in-Ok.ensures.receipt rows holds clean

pub returns-in-Ok-clause-leaves : goal.returns-in-Ok-clause-leaves
returns-in-Ok-clause-leaves g c = found_idle c.requires.idle c.in-Ok.ensures.only

pub returns-in-Err-clause-leaves : goal.returns-in-Err-clause-leaves
returns-in-Err-clause-leaves g c =
    unread_idle c.in-Err.ensures.only c.read_fault.ensures.idle c.read_fault.ensures.stays c.read_fault.ensures.writes_nothing c.read_fault.ensures.named c.read_fault.ensures.blames
