use Rattle.std.proofs.Common.{[], arith, subst}
use Rattle.sqlite.specs.Held.{Held, state}
use Rattle.sqlite.specs.State.{HasCleanDisk}
use Rattle.docket_applying.specs.CourtDockets.{CourtDocket as Docket}
use Rattle.file_changes.proofs.StandLemmas.{keeps_closed, not_created}
use Rattle.file_changes.proofs.creating.CreateWorkUnitUnit.work.Goals as goal

pub returns-in-Ok-clause-comes : goal.returns-in-Ok-clause-comes
returns-in-Ok-clause-comes g c =
    let made = c.in-Ok.ensures.made in
    let docket : Docket = record { court = c.args.self.court; history = [] } in
    record {
      made = keeps_closed g.S.Store c.in-Ok.docket c.close.result docket c.close.ensures.conn (record { court = made.1; stands = made.0 });
      empty = c.in-Ok.ensures.empty;
      full = c.in-Ok.ensures.full;
      not_made = tt;
      trust = λ clean.
          let here : HasCleanDisk (state g.S.Store c.in-Ok.docket.conn) = subst (λ (conn : Held g.row.S.Denot). HasCleanDisk (state g.S.Store conn)) c.close.ensures.conn clean in
          omega (arith, c.in-Ok.ensures.clean, here);
    }

pub returns-in-Err-clause-comes : goal.returns-in-Err-clause-comes
returns-in-Err-clause-comes g c =
    not_created g.S.Store c.args.conn c.in-Err.returned.connection c.from.result.connection c.args.self.court c.in-Err.returned.fault c.from.result.outcome
    c.from.ensures.1 c.from.ensures.0 c.in-Err.ensures.full c.in-Err.ensures.fault (λ clean. omega (arith, c.in-Err.ensures.clean, clean))
