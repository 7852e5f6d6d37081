use Rattle.std.proofs.Common.{arith}
use Rattle.std.proofs.lemmas.Result.{IfOk-weaker}
use Rattle.sqlite.specs.Held.{state}
use Rattle.docket_migration.specs.Moving.{grown}
use Rattle.docket_migration.proofs.KeepLemmas.{keeps_tables}
use Rattle.docket_migration.proofs.changing.change_all.Goals as goal

pub returns-clause-ok : goal.returns-clause-ok
returns-clause-ok g c clean court next rows one was =
    c.set_version.ensures.ok clean court next (grown rows) one (c.in_ok-add_tables.ensures.ok (omega (arith, c.set_version.ensures.inside.survives.clean)) rows was)

pub returns-clause-any : goal.returns-clause-any
returns-clause-any g c clean has apart =
    let old = state g.S.Store c.args.tx.now.conn.now in
    let mid = state g.S.Store c.add_tables.new.tx.conn.now in
    let new = state g.S.Store c.set_version.new.tx.conn.now in
    let on = c.in_ok-add_tables.ensures.any (omega (arith, c.set_version.ensures.inside.survives.clean)) in
    IfOk-weaker c.set_version.result _ _ (λ _ h. keeps_tables old.now mid.now new.now on h) (c.set_version.ensures.any clean old.now has apart on)
