use Rattle.std.proofs.lemmas.Result.{IfOk-weaker}
use Rattle.sqlite.specs.Held.{state}
use Rattle.docket_scan.proofs.ScanLemmas.{rows_shown}
use Rattle.docket_migration.proofs.reading.rows_of.Goals as goal

pub returns-clause-ok : goal.returns-clause-ok
returns-clause-ok g c clean =
    let old = state g.S.Store c.args.tx.now.conn.now in
    let new = state g.S.Store c.query_all.new.self.conn.now in
    IfOk-weaker c.query_all.result _ _ (λ rows h. rows_shown c.args.table old new rows.items (rw c.scan_text.ensures at h)) (c.query_all.ensures.ok clean)
