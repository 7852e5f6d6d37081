use Rattle.sqlite.specs.Held.{state}
use Rattle.sqlite.specs.State.{HasCleanDisk}
use Rattle.docket_store.specs.Causes.{IsCausedOpening}
use Rattle.docket_applying.proofs.AnyLemmas.{err_if, err_match}
use Rattle.docket_store.specs.Opening.{PreservesRejected}
use Rattle.docket_store.proofs.docket.Docket.adopt.Goals as goal

pub returns-in_err-docket-clause-stays : goal.returns-in_err-docket-clause-stays
returns-in_err-docket-clause-stays g c rows holds =
    err_match c.from_residual.result _ (λ returned. PreservesRejected g.S.Store returned.connection rows returned.fault) c.in_err-docket.field-0.0 c.from_residual.ensures.1 (c.in_err-docket.ensures.stays rows holds)

pub returns-in_err-docket-clause-cause : goal.returns-in_err-docket-clause-cause
returns-in_err-docket-clause-cause g c =
    err_if c.from_residual.result (λ returned. HasCleanDisk (state g.S.Store returned.connection) → IsCausedOpening (state g.S.Store c.args.conn) (state g.S.Store returned.connection) returned.failure returned.fault)
    c.in_err-docket.field-0.0 c.from_residual.ensures.1 c.in_err-docket.ensures.cause
