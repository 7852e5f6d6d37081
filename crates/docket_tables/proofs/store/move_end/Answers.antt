use Rattle.std.proofs.Common.{inl, inr, pos}
use Rattle.docket_tables.proofs.MakingCauses.{open_caused}
use Rattle.docket_tables.proofs.MoveCauses.{move_end_caused_or}
use Rattle.std.proofs.lemmas.Result.{IfErr-weaker, IfOk-weaker}
use Rattle.sqlite.specs.Held.{state}
use Rattle.docket_columns.specs.Cells.{moment_cell}
use Rattle.docket_tables.proofs.EndLemmas.{end_moved}
use Rattle.docket_tables.proofs.store.move_end.Goals as goal

pub returns-clause-ok : goal.returns-clause-ok
returns-clause-ok g c clean ends rows are sees =
    let old = state g.S.Store c.args.tx.now.conn.now in
    let new = state g.S.Store c.change.new.tx.conn.now in
    IfOk-weaker c.change.result _ _ (λ _ h. end_moved c.args.row.now ends rows old new h.0 are sees (rw (c.move_end_text.ensures, c.end_values.ensures) at h.1) h.2) (c.change.ensures.runs clean)

pub returns-clause-cause : goal.returns-clause-cause
returns-clause-cause g c clean rows sees =
    let old = state g.S.Store c.args.tx.now.conn.now in
    let new = state g.S.Store c.change.new.tx.conn.now in
    let row = c.args.row.now in
    IfErr-weaker c.change.result _ _ (λ e h. elim (move_end_caused_or row.case row.deadline (pos row.end.day) (moment_cell row.end.moment) rows old new e sees (rw (c.move_end_text.ensures, c.end_values.ensures) at h)) [
      | inl caused ↦ inl (open_caused old new e sees.shows.is_open caused)
      | inr none ↦ inr none.0
    ]) (c.change.ensures.fails clean sees.begun)
