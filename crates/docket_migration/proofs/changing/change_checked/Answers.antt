use Rattle.std.proofs.Common.{◌≡◌, true, subst, sym, arith}
use Rattle.std.proofs.lemmas.Result.{IfOk-weaker}
use Rattle.sqlite.specs.Effect.{Database}
use Rattle.sqlite.specs.Held.{state}
use Rattle.docket_scan.specs.Shapes.{has_table}
use Rattle.docket_tables.specs.declared.table.Table.TheVariants.{Court}
use Rattle.docket_migration.specs.Keeping.{is_court_apart}
use Rattle.docket_migration.specs.Moving.{moved}
use Rattle.docket_migration.proofs.GoneLemmas.{gone, grown_still, sees_same}
use Rattle.docket_migration.proofs.changing.change_checked.Goals as goal

pub returns-clause-ok : goal.returns-clause-ok
returns-clause-ok g c clean court next rows one was =
    let old = state g.S.Store c.args.tx.now.conn.now in
    let read = state g.S.Store c.court_in.new.tx.conn.now in
    let changed = state g.S.Store c.change_all.new.tx.conn.now in
    let new = state g.S.Store c.check_changed.new.tx.conn.now in
    let same = c.in_ok-court.ensures.ok (omega (arith, c.check_changed.ensures.survives.clean, c.change_all.ensures.inside.survives.clean)) in
    let sees = c.in_ok-change_all.ensures.ok (omega (arith, c.check_changed.ensures.survives.clean)) court next rows one (grown_still old read rows _ same.1 was) in
    IfOk-weaker c.check_changed.result _ _ (λ _ h. sees_same changed new (moved court next rows) h.2 sees) (c.check_changed.ensures.ok clean)

pub returns-clause-any : goal.returns-clause-any
returns-clause-any g c clean has apart =
    let old = state g.S.Store c.args.tx.now.conn.now in
    let read = state g.S.Store c.court_in.new.tx.conn.now in
    let changed = state g.S.Store c.change_all.new.tx.conn.now in
    let new = state g.S.Store c.check_changed.new.tx.conn.now in
    let same = c.in_ok-court.ensures.ok (omega (arith, c.check_changed.ensures.survives.clean, c.change_all.ensures.inside.survives.clean)) in
    let there = subst (λ (d : Database). has_table d.schema Court ≡ true) (sym same.1.0.now_is) has in
    let stands = subst (λ (d : Database). is_court_apart d.schema ≡ true) (sym same.1.0.now_is) apart in
    let keeps = c.in_ok-change_all.ensures.any (omega (arith, c.check_changed.ensures.survives.clean)) there stands in
    IfOk-weaker c.check_changed.result _ _ (λ _ h. gone old read changed new c.in_ok-court.court same.0 same.1 keeps h.0 h.1 h.2) (c.check_changed.ensures.ok clean)
