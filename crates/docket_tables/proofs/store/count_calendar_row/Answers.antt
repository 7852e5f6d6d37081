use Rattle.std.proofs.Common.{codes, pos, arith}
use Rattle.docket_tables.proofs.MakingCauses.{open_caused}
use Rattle.docket_tables.proofs.CountCauses.{count_caused}
use Rattle.std.proofs.lemmas.Result.{IfErr-weaker, IfOk-weaker}
use Rattle.sqlite.specs.Held.{state}
use Rattle.docket_tables.proofs.CourtLemmas.{counted}
use Rattle.docket_tables.proofs.store.count_calendar_row.Goals as goal

pub returns-clause-ok : goal.returns-clause-ok
returns-clause-ok g c clean court n rows small one sees =
    let old = state g.S.Store c.args.tx.now.conn.now in
    let new = state g.S.Store c.change.new.tx.conn.now in
    IfOk-weaker c.change.result _ _ (λ _ h. counted court n rows old new h.0 small one sees (rw c.count_text.ensures at h.1) h.2) (c.change.ensures.runs clean)

pub returns-clause-cause : goal.returns-clause-cause
returns-clause-cause g c clean court n rows small short one sees =
    let old = state g.S.Store c.args.tx.now.conn.now in
    let new = state g.S.Store c.change.new.tx.conn.now in
    IfErr-weaker c.change.result _ _ (λ e h. open_caused old new e sees.shows.is_open
    (count_caused (codes "civil docket") court.zone_text (pos 2) (pos court.close_minute) n rows old new e small (omega arith) (omega (arith, short)) one sees (rw c.count_text.ensures at h))) (c.change.ensures.fails clean sees.begun)
