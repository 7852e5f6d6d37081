use Rattle.std.proofs.Common.{◌∙◌}
use Rattle.docket_decisions.specs.EndRows.{end_rows}
use Rattle.docket_tables.specs.Contents.{rows_in, ends_of}
use Rattle.docket_tables.proofs.EndLemmas.{ends_shown}
use Rattle.docket_tables.proofs.CauseLemmas.{number_suits}
use Rattle.docket_tables.proofs.ReadLemmas.{gives}
use Rattle.docket_tables.proofs.StoredLemmas.{all_stored}
use Rattle.docket_tables.proofs.AskLemmas.{rows_read, rows_unread}
use Rattle.docket_tables.proofs.reading.ends_of_case.Goals as goal

pub returns-clause-read : goal.returns-clause-read
returns-clause-read g c court t orderly holds =
    let asked = c.in_ok-rows.ensures.ok (rows_in court t) holds in
    let rows = c.in_ok-rows.rows.items in
    let k = c.args.case in
    let ends = end_rows court t in
    let are = all_stored court t orderly k in
    gives g.S.Store c.ask.new.conn (rows_in court t) _ c.all_in.result asked.0 (λ clean.
    let answer = rw c.to_sql.ensures at (asked.1 clean) in
    c.all_in.ensures.read (ends_of k ends) are.fit (c.as_slice.ensures.value ∙ ends_shown k ends rows are.rows answer))

pub returns-in_err-rows-clause-only : goal.returns-in_err-rows-clause-only
returns-in_err-rows-clause-only g c =
    rows_unread g.S.Store _ _ c.from_residual.result c.ask.ensures.mode c.ask.ensures.writes_nothing c.in_err-rows.field-0.0 c.from_residual.ensures.1 c.in_err-rows.ensures.err
    (λ rows holds clean. c.in_err-rows.ensures.cause rows holds (number_suits c.to_sql.ensures) clean)

pub returns-clause-only : goal.returns-clause-only
returns-clause-only g c = rows_read g.S.Store _ _ c.all_in.result c.ask.ensures.mode c.ask.ensures.writes_nothing (λ rows holds. (c.in_ok-rows.ensures.ok rows holds).0) c.all_in.ensures.own
