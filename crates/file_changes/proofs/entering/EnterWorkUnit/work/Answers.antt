use Rattle.std.proofs.Common.{None}
use Rattle.file_dockets.proofs.AdoptLemmas.{adopted, rejected}
use Rattle.file_changes.proofs.EnterLemmas.{unentered}
use Rattle.file_changes.proofs.entering.EnterWorkUnit.work.Goals as goal

pub returns-in-Err-clause-comes : goal.returns-in-Err-clause-comes
returns-in-Err-clause-comes g c =
    let returned = c.in-Err.returned in
    let why = c.in-Err.ensures in
    unentered g.S.Store c.args.conn returned.connection c.args.self.entry.now _ _ returned.failure returned.fault c.from.result.connection c.from.result.failure c.from.result.outcome
    c.from.ensures.1 c.from.ensures.2 c.from.ensures.0 (rejected g.S.Store c.args.conn returned.connection returned.failure returned.fault why.told why.cause why.writes_nothing)
    (λ told. why.adopted told.court told.history)

pub returns-clause-comes : goal.returns-clause-comes
returns-clause-comes g c =
    let done = c.answer_entry-outcome in
    record {
      adopts = adopted g.S.Store c.args.conn c.in-Ok.found.0 c.in-Ok.found.1 done.result.1 None done.result.0 c.in-Ok.ensures.told c.in-Ok.ensures.writes_nothing.clean done.ensures.trust;
      enters = λ told is stands clean.
          let adopted = c.in-Ok.ensures.adopted told.court told.history is stands (done.ensures.trust clean) in
          done.ensures.enters told (record { court = adopted.1; stands = adopted.0 }) clean;
      stays = λ told is stands. tt;
    }
