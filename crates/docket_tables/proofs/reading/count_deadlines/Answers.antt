use Rattle.std.proofs.Common.{◌∙◌, ◌==◌, [], ◌∷◌, pos, inl, inr, refl, sym}
use Rattle.sqlite.specs.declared.types.Value.TheVariants.{Int}
use Rattle.sqlite_trees.proofs.ListLemmas.{all-filter}
use Rattle.docket_columns.specs.Cells.{deadline_cells}
use Rattle.docket_columns.specs.Fits.{IsDeadlineRow}
use Rattle.docket_tables.specs.Contents.{rows_in}
use Rattle.docket_tables.specs.declared.query.Query.TheVariants as ask
use Rattle.docket_tables.proofs.AnswerLemmas.{the_last, equal_number}
use Rattle.docket_tables.proofs.HoldsLemmas.{and_yes}
use Rattle.docket_tables.proofs.CauseLemmas.{number_suits}
use Rattle.docket_tables.proofs.ReadLemmas.{gives, read_ok}
use Rattle.docket_tables.proofs.AskLemmas.{rows_read, rows_unread}
use Rattle.docket_tables.proofs.reading.count_deadlines.Goals as goal

pub returns-clause-read : goal.returns-clause-read
returns-clause-read g c court t orderly holds =
    let asked = c.in_ok-rows.ensures.ok (rows_in court t) holds in
    let rows = c.in_ok-rows.rows.items in
    let k = c.args.case in
    gives g.S.Store c.ask.new.conn (rows_in court t) _ c.number_in.result asked.0 (λ clean.
    let answer = rw c.to_sql.ensures at (asked.1 clean) in
    elim (the_last ask.LastDeadline (Int (pos k) ∷ []) deadline_cells (λ row. row.case == k) (λ row. and_yes _ ∙ equal_number row.case k) t.deadlines rows (λ row. row.number) (λ row. refl)
    IsDeadlineRow refl refl (orderly.deadlines_run k) (all-filter _ _ t.deadlines orderly.deadlines) answer) [
      | inl none ↦ read_ok _ c.number_in.result 0 (c.number_in.ensures.none (c.as_slice.ensures.value ∙ none.1)) (sym none.0)
      | inr one ↦ read_ok _ c.number_in.result one.0.number (c.number_in.ensures.first (deadline_cells one.0) one.0.number one.2.1 (c.as_slice.ensures.value ∙ one.3) refl) one.1
    ])

pub returns-in_err-rows-clause-only : goal.returns-in_err-rows-clause-only
returns-in_err-rows-clause-only g c =
    rows_unread g.S.Store _ _ c.from_residual.result c.ask.ensures.mode c.ask.ensures.writes_nothing c.in_err-rows.field-0.0 c.from_residual.ensures.1 c.in_err-rows.ensures.err
    (λ rows holds clean. c.in_err-rows.ensures.cause rows holds (number_suits c.to_sql.ensures) clean)

pub returns-clause-only : goal.returns-clause-only
returns-clause-only g c = rows_read g.S.Store _ _ c.number_in.result c.ask.ensures.mode c.ask.ensures.writes_nothing (λ rows holds. (c.in_ok-rows.ensures.ok rows holds).0) c.number_in.ensures.own
