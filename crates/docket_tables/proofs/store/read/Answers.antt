use Rattle.std.proofs.Common.{◌≡◌, false, IfOk, IfErr, OnErr, Ok, Err}
use Rattle.sqlite.specs.State.{HasCleanDisk, Shown, FailsToQuery}
use Rattle.sqlite.specs.Values.{bound}
use Rattle.sqlite.specs.Held.{state}
use Rattle.docket_tables.specs.Stands.{IsSettled, IsLasting}
use Rattle.docket_tables.proofs.StandsLemmas.{read_settled, read_lasting}
use Rattle.docket_tables.proofs.store.read.Goals as goal

pub returns-clause-ok : goal.returns-clause-ok
returns-clause-ok g c rows stands plain =
    let old = state g.S.Store c.args.conn.now in
    let new = state g.S.Store c.query_all.new.self in
    let sql = c.args.sql.now in
    let params = bound c.args.params.now in
    elim c.query_all.result as (λ r. (HasCleanDisk new → IfOk r (λ found. Shown sql params old new found.items)) → IfOk r (λ found. ((c.query_all.new.self.in_transaction ≡ false) × (HasCleanDisk new → IsSettled new rows)) × (HasCleanDisk new → Shown sql params old new found.items))) [
      | Ok found ↦ λ shown. ((c.query_all.ensures.mode stands.0, read_settled sql params old new rows plain stands.1 c.query_all.ensures.survives found.items shown), shown)
      | Err e ↦ λ _. tt
    ] c.query_all.ensures.ok

pub returns-clause-err : goal.returns-clause-err
returns-clause-err g c rows stands plain =
    let old = state g.S.Store c.args.conn.now in
    let new = state g.S.Store c.query_all.new.self in
    let sql = c.args.sql.now in
    let params = bound c.args.params.now in
    elim c.query_all.result as (λ r. (HasCleanDisk new → IfErr r (FailsToQuery sql params old new)) → OnErr r ((c.query_all.new.self.in_transaction ≡ false) × (HasCleanDisk new → IsLasting new rows))) [
      | Ok found ↦ λ _. tt
      | Err e ↦ λ fails. (c.query_all.ensures.mode stands.0, read_lasting sql params old new rows plain stands.1 c.query_all.ensures.survives e fails)
    ] c.query_all.ensures.err
