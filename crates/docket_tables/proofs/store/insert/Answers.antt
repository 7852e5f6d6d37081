use Rattle.docket_tables.proofs.AddingCauses.{insert_caused}
use Rattle.std.proofs.lemmas.Result.{IfErr-weaker, IfOk-weaker}
use Rattle.sqlite.specs.Held.{state}
use Rattle.sqlite.specs.Values.{bound}
use Rattle.docket_tables.proofs.LayoutLemmas.{inserted}
use Rattle.docket_tables.proofs.store.insert.Goals as goal

pub returns-clause-ok : goal.returns-clause-ok
returns-clause-ok g c clean fits rows sees =
    let old = state g.S.Store c.args.tx.now.conn.now in
    let new = state g.S.Store c.change.new.tx.conn.now in
    IfOk-weaker c.change.result _ _ (λ _ h. inserted c.args.table (bound c.args.values.now) rows old new h.0 fits sees (rw c.insert_text.ensures at h.1) h.2) (c.change.ensures.runs clean)

pub returns-clause-cause : goal.returns-clause-cause
returns-clause-cause g c clean fits rows sees may =
    let old = state g.S.Store c.args.tx.now.conn.now in
    let new = state g.S.Store c.change.new.tx.conn.now in
    IfErr-weaker c.change.result _ _ (λ e h. insert_caused c.args.table (bound c.args.values.now) rows old new e fits may sees (rw c.insert_text.ensures at h)) (c.change.ensures.fails clean sees.begun)
