use Rattle.std.proofs.Common.{◌∙◌, [], ◌∷◌, true, refl, arith}
use Rattle.docket_columns.specs.Cells.{court_cells}
use Rattle.docket_tables.specs.Contents.{rows_in}
use Rattle.docket_tables.specs.declared.query.Query.TheVariants as ask
use Rattle.docket_tables.proofs.AnswerLemmas.{the_one}
use Rattle.docket_tables.proofs.ReadLemmas.{gives}
use Rattle.docket_tables.proofs.AskLemmas.{rows_read, rows_unread}
use Rattle.docket_tables.proofs.reading.court.Goals as goal

pub returns-clause-read : goal.returns-clause-read
returns-clause-read g c court t orderly holds =
    let asked = c.in_ok-rows.ensures.ok (rows_in court t) holds in
    let rows = c.in_ok-rows.rows.items in
    gives g.S.Store c.ask.new.conn (rows_in court t) _ c.court_in.result asked.0 (λ clean.
    let are = the_one ask.Court [] (court_cells court) (λ _. true) (λ _. refl) (t.next_row ∷ []) rows refl (omega arith) (asked.1 clean) in
    c.court_in.ensures.read court t.next_row orderly.court (c.as_slice.ensures.value ∙ are))

pub returns-in_err-rows-clause-only : goal.returns-in_err-rows-clause-only
returns-in_err-rows-clause-only g c =
    rows_unread g.S.Store _ _ c.from_residual.result c.ask.ensures.mode c.ask.ensures.writes_nothing c.in_err-rows.field-0.0 c.from_residual.ensures.1 c.in_err-rows.ensures.err
    (λ rows holds clean. c.in_err-rows.ensures.cause rows holds refl clean)

pub returns-clause-only : goal.returns-clause-only
returns-clause-only g c = rows_read g.S.Store _ _ c.court_in.result c.ask.ensures.mode c.ask.ensures.writes_nothing (λ rows holds. (c.in_ok-rows.ensures.ok rows holds).0) c.court_in.ensures.own
