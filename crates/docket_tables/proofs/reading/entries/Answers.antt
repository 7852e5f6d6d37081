use Rattle.std.proofs.Common.{◌∙◌, ◌==◌, [], ◌∷◌, pos, refl}
use Rattle.sqlite.specs.declared.types.Value.TheVariants.{Int}
use Rattle.sqlite_trees.proofs.ListLemmas.{all-filter}
use Rattle.docket_columns.specs.Cells.{entry_cells}
use Rattle.docket_tables.specs.Contents.{rows_in}
use Rattle.docket_tables.specs.declared.query.Query.TheVariants as ask
use Rattle.docket_tables.proofs.AnswerLemmas.{in_order, rises_running, equal_number}
use Rattle.docket_tables.proofs.HoldsLemmas.{and_yes}
use Rattle.docket_tables.proofs.CauseLemmas.{number_suits}
use Rattle.docket_tables.proofs.ReadLemmas.{gives}
use Rattle.docket_history.specs.Histories.{entries_of_case}
use Rattle.docket_tables.proofs.AskLemmas.{rows_read, rows_unread}
use Rattle.docket_tables.proofs.reading.entries.Goals as goal

pub returns-clause-read : goal.returns-clause-read
returns-clause-read g c court t orderly holds =
    let asked = c.in_ok-rows.ensures.ok (rows_in court t) holds in
    let rows = c.in_ok-rows.rows.items in
    let k = c.args.case in
    gives g.S.Store c.ask.new.conn (rows_in court t) _ c.all_in.result asked.0 (λ clean.
    let answer = rw c.to_sql.ensures at (asked.1 clean) in
    let are = in_order ask.Entries (Int (pos k) ∷ []) entry_cells (λ row. row.case == k) (λ row. and_yes _ ∙ equal_number row.case k) t.entries rows (λ row. row.number) (λ row. refl) refl refl
    (rises_running 1 _ (orderly.entries_run k)) answer in
    c.all_in.ensures.read (entries_of_case k t.entries) (all-filter _ _ t.entries orderly.entries) (c.as_slice.ensures.value ∙ are))

pub returns-in_err-rows-clause-only : goal.returns-in_err-rows-clause-only
returns-in_err-rows-clause-only g c =
    rows_unread g.S.Store _ _ c.from_residual.result c.ask.ensures.mode c.ask.ensures.writes_nothing c.in_err-rows.field-0.0 c.from_residual.ensures.1 c.in_err-rows.ensures.err
    (λ rows holds clean. c.in_err-rows.ensures.cause rows holds (number_suits c.to_sql.ensures) clean)

pub returns-clause-only : goal.returns-clause-only
returns-clause-only g c = rows_read g.S.Store _ _ c.all_in.result c.ask.ensures.mode c.ask.ensures.writes_nothing (λ rows holds. (c.in_ok-rows.ensures.ok rows holds).0) c.all_in.ensures.own
