use Rattle.docket_tables.proofs.MakingCauses.{open_caused}
use Rattle.docket_tables.proofs.DeleteCauses.{delete_end_caused}
use Rattle.std.proofs.lemmas.Result.{IfErr-weaker, IfOk-weaker}
use Rattle.sqlite.specs.Held.{state}
use Rattle.docket_tables.proofs.EndLemmas.{end_removed}
use Rattle.docket_tables.proofs.store.remove_end.Goals as goal

pub returns-clause-ok : goal.returns-clause-ok
returns-clause-ok g c clean rows sees =
    let old = state g.S.Store c.args.tx.now.conn.now in
    let new = state g.S.Store c.change.new.tx.conn.now in
    IfOk-weaker c.change.result _ _ (λ _ h. end_removed c.args.case c.args.deadline rows old new h.0 sees (rw (c.delete_end_text.ensures, c.params-to_sql.ensures, c.params-to_sql-2.ensures) at h.1) h.2) (c.change.ensures.runs clean)

pub returns-clause-cause : goal.returns-clause-cause
returns-clause-cause g c clean rows sees =
    let old = state g.S.Store c.args.tx.now.conn.now in
    let new = state g.S.Store c.change.new.tx.conn.now in
    IfErr-weaker c.change.result _ _ (λ e h. open_caused old new e sees.shows.is_open (delete_end_caused c.args.case c.args.deadline rows old new e sees (rw (c.delete_end_text.ensures, c.params-to_sql.ensures, c.params-to_sql-2.ensures) at h))) (c.change.ensures.fails clean sees.begun)
