use Rattle.docket_tables.proofs.MakingCauses.{open_caused}
use Rattle.docket_tables.proofs.DeleteCauses.{delete_calendar_caused}
use Rattle.std.proofs.lemmas.Result.{IfErr-weaker, IfOk-weaker}
use Rattle.std.proofs.Common.{pos}
use Rattle.sqlite.specs.Held.{state}
use Rattle.docket_tables.proofs.CalendarLemmas.{removed}
use Rattle.docket_tables.proofs.store.remove_calendar_row.Goals as goal

pub returns-clause-ok : goal.returns-clause-ok
returns-clause-ok g c clean rows keyed sees =
    let old = state g.S.Store c.args.tx.now.conn.now in
    let new = state g.S.Store c.change.new.tx.conn.now in
    IfOk-weaker c.change.result _ _ (λ _ h. removed (pos c.args.number) rows old new h.0 keyed sees (rw (c.delete_text.ensures, c.params-to_sql.ensures) at h.1) h.2) (c.change.ensures.runs clean)

pub returns-clause-cause : goal.returns-clause-cause
returns-clause-cause g c clean rows sees =
    let old = state g.S.Store c.args.tx.now.conn.now in
    let new = state g.S.Store c.change.new.tx.conn.now in
    IfErr-weaker c.change.result _ _ (λ e h. open_caused old new e sees.shows.is_open (delete_calendar_caused c.args.number rows old new e sees (rw (c.delete_text.ensures, c.params-to_sql.ensures) at h))) (c.change.ensures.fails clean sees.begun)
