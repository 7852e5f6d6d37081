use Rattle.std.proofs.Common.{◌∙◌, ◌==◌, ◌&&◌, [], ◌∷◌, pos, refl}
use Rattle.sqlite.specs.declared.types.Value.TheVariants.{Int}
use Rattle.sqlite_trees.proofs.ListLemmas.{all-filter}
use Rattle.docket_history.specs.declared.row.ActRow.{ActRow}
use Rattle.docket_columns.specs.Cells.{act_cells}
use Rattle.docket_columns.specs.Fits.{IsActRow}
use Rattle.docket_tables.specs.Contents.{rows_in}
use Rattle.docket_orderly.specs.Orderly.{acts_on}
use Rattle.docket_tables.specs.declared.query.Query.TheVariants as ask
use Rattle.docket_tables.proofs.AnswerLemmas.{in_order, rises_running}
use Rattle.docket_tables.proofs.FoundLemmas.{equal_numbers}
use Rattle.docket_tables.proofs.CauseLemmas.{numbers_suit}
use Rattle.docket_tables.proofs.ReadLemmas.{gives}
use Rattle.docket_tables.proofs.AskLemmas.{rows_read, rows_unread}
use Rattle.docket_tables.proofs.reading.acts_of_deadline.Goals as goal

pub returns-clause-read : goal.returns-clause-read
returns-clause-read g c court t orderly holds =
    let asked = c.in_ok-rows.ensures.ok (rows_in court t) holds in
    let rows = c.in_ok-rows.rows.items in
    let k = c.args.case in
    let n = c.args.deadline in
    gives g.S.Store c.ask.new.conn (rows_in court t) _ c.acts_alone_in.result asked.0 (λ clean.
    let answer = rw (c.to_sql.ensures, c.to_sql-2.ensures) at (asked.1 clean) in
    let are = in_order ask.DeadlineActs (Int (pos k) ∷ Int (pos n) ∷ []) act_cells (λ (row : ActRow). row.case == k && row.deadline == n) (λ row. equal_numbers row.case k row.deadline n) t.acts rows (λ row. row.number) (λ row. refl) refl refl
    (rises_running 1 _ (orderly.acts_run k n)) answer in
    c.acts_alone_in.ensures.read (acts_on k n t.acts) (all-filter IsActRow _ t.acts orderly.acts) (c.as_slice.ensures.value ∙ are))

pub returns-in_err-rows-clause-only : goal.returns-in_err-rows-clause-only
returns-in_err-rows-clause-only g c =
    rows_unread g.S.Store _ _ c.from_residual.result c.ask.ensures.mode c.ask.ensures.writes_nothing c.in_err-rows.field-0.0 c.from_residual.ensures.1 c.in_err-rows.ensures.err
    (λ rows holds clean. c.in_err-rows.ensures.cause rows holds (numbers_suit c.to_sql.ensures c.to_sql-2.ensures) clean)

pub returns-clause-only : goal.returns-clause-only
returns-clause-only g c = rows_read g.S.Store _ _ c.acts_alone_in.result c.ask.ensures.mode c.ask.ensures.writes_nothing (λ rows holds. (c.in_ok-rows.ensures.ok rows holds).0) c.acts_alone_in.ensures.own
