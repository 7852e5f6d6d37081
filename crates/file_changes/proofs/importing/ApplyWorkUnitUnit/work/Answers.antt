use Rattle.std.proofs.Common.{◌∙◌, None, sym, subst, arith}
use Rattle.sqlite.specs.Held.{Held, state}
use Rattle.sqlite.specs.State.{HasCleanDisk}
use Rattle.docket_tables.specs.Stands.{HoldsRows}
use Rattle.file_changes.specs.Commands.{AppliesTo, IsWritten}
use Rattle.file_dockets.specs.Keeping.{HoldsBetween}
use Rattle.file_dockets.proofs.AdoptLemmas.{adopted, rejected}
use Rattle.file_changes.proofs.ApplyLemmas.{applied, unapplied, written}
use Rattle.file_changes.proofs.importing.ApplyWorkUnitUnit.work.Goals as goal

pub returns-in-Err-clause-comes : goal.returns-in-Err-clause-comes
returns-in-Err-clause-comes g c =
    let returned = c.in-Err.returned in
    let why = c.in-Err.ensures in
    unapplied g.S.Store c.args.conn returned.connection c.args.self.command.now returned.failure returned.fault c.from.result.connection c.from.result.failure c.from.result.outcome
    c.from.ensures.1 c.from.ensures.2 c.from.ensures.0 (rejected g.S.Store c.args.conn returned.connection returned.failure returned.fault why.told why.cause why.writes_nothing)
    (λ told. why.adopted told.court told.history)

pub returns-clause-comes : goal.returns-clause-comes
returns-clause-comes g c =
    let done = c.apply-answer in
    let here : HasCleanDisk (state g.S.Store c.close.result) → HasCleanDisk (state g.S.Store done.new.self.conn) =
    subst (λ (conn : Held g.row.S.Denot). HasCleanDisk (state g.S.Store conn)) c.close.ensures.conn in
    record {
      adopts = adopted g.S.Store c.args.conn c.in-Ok.found.0 c.in-Ok.found.1 c.close.result None done.result c.in-Ok.ensures.told c.in-Ok.ensures.writes_nothing.clean
          (λ clean. let now = here clean in omega (arith, now, done.ensures.clean));
      applies = λ told is stands clean.
          let now : HasCleanDisk (state g.S.Store done.new.self.conn) = here clean in
          let adopted = c.in-Ok.ensures.adopted told.court told.history is stands (omega (arith, now, done.ensures.clean)) in
          subst (λ (conn : Held g.row.S.Denot). AppliesTo (HoldsBetween g.S.Store conn) told c.args.self.command.now done.result) (sym c.close.ensures.conn)
          (applied g.S.Store done.new.self told c.args.self.command.now (done.ensures.court ∙ adopted.1) done.result (done.ensures.answer told.history adopted.0) now);
      stays = λ told is stands. tt;
      whole = λ clean.
          subst (λ (conn : Held g.row.S.Denot). IsWritten (state g.S.Store c.args.conn) (HoldsRows g.S.Store c.args.conn) (HoldsBetween g.S.Store conn) c.args.self.command.now done.result)
          (sym c.close.ensures.conn)
          (written g.S.Store c.args.conn c.in-Ok.found.0 done.new.self c.in-Ok.found.1 c.args.self.command.now done.result c.in-Ok.ensures.told c.in-Ok.ensures.stays done.ensures.court
          done.ensures.any (λ now. omega (arith, now, done.ensures.clean)) (here clean));
    }
