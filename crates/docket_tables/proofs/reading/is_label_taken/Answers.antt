use Rattle.std.proofs.Common.{◌∙◌, [], ◌∷◌, nat_lt, length, refl, ap}
use Rattle.sqlite.specs.declared.types.Value.TheVariants.{Text}
use Rattle.docket_columns.specs.Cells.{case_cells}
use Rattle.docket_tables.specs.Contents.{rows_in}
use Rattle.docket_tables.specs.declared.query.Query.TheVariants as ask
use Rattle.docket_tables.proofs.AnswerLemmas.{so_many}
use Rattle.docket_tables.proofs.CellLemmas.{equal_text}
use Rattle.docket_tables.proofs.HoldsLemmas.{and_yes}
use Rattle.docket_tables.proofs.CauseLemmas.{text_suits}
use Rattle.docket_tables.proofs.ReadLemmas.{any_kept}
use Rattle.std.specs.Str.{bytes_eq}
use Rattle.docket_tables.proofs.AskLemmas.{rows_read, rows_unread}
use Rattle.docket_tables.proofs.reading.is_label_taken.Goals as goal

pub returns-clause-read : goal.returns-clause-read
returns-clause-read g c court t orderly holds =
    let asked = c.in_ok-rows.ensures.ok (rows_in court t) holds in
    let rows = c.in_ok-rows.rows.items in
    let label = c.args.label.now in (
      asked.0,
      λ clean.
          let answer = rw c.to_sql.ensures at (asked.1 clean) in
          let many = so_many ask.CaseLabelled (Text label ∷ []) case_cells (λ row. bytes_eq row.label label) (λ row. and_yes _ ∙ equal_text row.label label) t.cases rows refl answer in
          ap (nat_lt 0) (ap length c.as_slice.ensures.value ∙ many) ∙ any_kept (λ row. bytes_eq row.label label) t.cases,
    )

pub returns-in_err-rows-clause-only : goal.returns-in_err-rows-clause-only
returns-in_err-rows-clause-only g c =
    rows_unread g.S.Store _ _ c.from_residual.result c.ask.ensures.mode c.ask.ensures.writes_nothing c.in_err-rows.field-0.0 c.from_residual.ensures.1 c.in_err-rows.ensures.err
    (λ rows holds clean. c.in_err-rows.ensures.cause rows holds (text_suits c.to_sql.ensures) clean)

pub returns-clause-only : goal.returns-clause-only
returns-clause-only g c = rows_read g.S.Store _ _ _ c.ask.ensures.mode c.ask.ensures.writes_nothing (λ rows holds. (c.in_ok-rows.ensures.ok rows holds).0) tt
