use Rattle.std.proofs.lemmas.Result.{IfOk-weaker}
use Rattle.sqlite.specs.Held.{state}
use Rattle.docket_migration.proofs.KeepLemmas.{rewrites_court}
use Rattle.docket_migration.proofs.VersionLemmas.{version_set}
use Rattle.docket_migration.proofs.changing.set_version.Goals as goal

pub returns-clause-ok : goal.returns-clause-ok
returns-clause-ok g c clean court n rows one sees =
    let old = state g.S.Store c.args.tx.now.conn.now in
    let new = state g.S.Store c.run.new.tx.conn.now in
    IfOk-weaker c.run.result _ _ (λ _ h. version_set court n rows old new h.0 one sees (rw c.version_text.ensures at h.1) h.2) (c.run.ensures.runs clean)

pub returns-clause-any : goal.returns-clause-any
returns-clause-any g c clean first has apart on =
    let old = state g.S.Store c.args.tx.now.conn.now in
    let new = state g.S.Store c.run.new.tx.conn.now in
    IfOk-weaker c.run.result _ _ (λ _ h. rewrites_court first old new h.0 on has apart (rw c.version_text.ensures at h.1)) (c.run.ensures.runs clean)
