use Rattle.std.proofs.Common.{◌∙◌}
use Rattle.docket_tables.specs.Contents.{rows_in}
use Rattle.docket_tables.proofs.CauseLemmas.{text_suits}
use Rattle.docket_tables.proofs.ReadLemmas.{gives}
use Rattle.docket_tables.proofs.FoundLemmas.{case_labelled_read}
use Rattle.docket_tables.proofs.AskLemmas.{rows_read, rows_unread}
use Rattle.docket_tables.proofs.reading.case_labelled.Goals as goal

pub returns-clause-read : goal.returns-clause-read
returns-clause-read g c court t orderly holds =
    let asked = c.in_ok-rows.ensures.ok (rows_in court t) holds in
    let rows = c.in_ok-rows.rows.items in
    let label = c.args.label.now in
    gives g.S.Store c.ask.new.conn (rows_in court t) _ c.first_in.result asked.0 (λ clean.
    let answer = rw c.to_sql.ensures at (asked.1 clean) in
    case_labelled_read label c.first_in.result rows t.cases orderly.cases (orderly.one_case label) answer (λ none. c.first_in.ensures.none (c.as_slice.ensures.value ∙ none))
    (λ row typed one. c.first_in.ensures.one row typed (c.as_slice.ensures.value ∙ one)))

pub returns-in_err-rows-clause-only : goal.returns-in_err-rows-clause-only
returns-in_err-rows-clause-only g c =
    rows_unread g.S.Store _ _ c.from_residual.result c.ask.ensures.mode c.ask.ensures.writes_nothing c.in_err-rows.field-0.0 c.from_residual.ensures.1 c.in_err-rows.ensures.err
    (λ rows holds clean. c.in_err-rows.ensures.cause rows holds (text_suits c.to_sql.ensures) clean)

pub returns-clause-only : goal.returns-clause-only
returns-clause-only g c = rows_read g.S.Store _ _ c.first_in.result c.ask.ensures.mode c.ask.ensures.writes_nothing (λ rows holds. (c.in_ok-rows.ensures.ok rows holds).0) c.first_in.ensures.own
