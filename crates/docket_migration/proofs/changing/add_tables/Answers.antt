use Rattle.std.proofs.Common.{arith}
use Rattle.std.proofs.lemmas.Result.{IfOk-weaker}
use Rattle.sqlite.specs.Held.{state}
use Rattle.docket_migration.proofs.AddLemmas.{both_added}
use Rattle.docket_migration.proofs.GrowLemmas.{all_stand}
use Rattle.docket_migration.proofs.changing.add_tables.Goals as goal

pub returns-clause-ok : goal.returns-clause-ok
returns-clause-ok g c clean rows was =
    let last = state g.S.Store c.define-2.new.tx.conn.now in
    let first = c.in_ok-define.ensures.ok (omega (arith, c.define-2.ensures.inside.survives.clean)) (λ no. no) rows was in
    IfOk-weaker c.define-2.result _ _ (λ _ h. all_stand last rows h) (c.define-2.ensures.ok clean (λ no. no) rows first)

pub returns-clause-any : goal.returns-clause-any
returns-clause-any g c clean =
    let old = state g.S.Store c.args.tx.now.conn.now in
    let mid = state g.S.Store c.define.new.tx.conn.now in
    let new = state g.S.Store c.define-2.new.tx.conn.now in
    let first = c.in_ok-define.ensures.any (omega (arith, c.define-2.ensures.inside.survives.clean)) (λ none. none) in
    IfOk-weaker c.define-2.result _ _ (λ _ h. both_added old.now mid.now new.now first h) (c.define-2.ensures.any clean (λ none. none))
