use Rattle.std.proofs.Common.{◌∙◌, ◌==◌, sym, ap, subst, filter}
use Rattle.std.specs.List.Sorted.{IsNonDecreasingBy}
use Rattle.docket_history.specs.declared.row.ActRow.{ActRow}
use Rattle.docket_columns.specs.Fits.{IsActRow}
use Rattle.docket_tables.specs.Contents.{rows_in}
use Rattle.docket_tables.proofs.CaseActs.{in_turn, in_turn_of, in_turn_rises, in_turn_all, answered_in_turn}
use Rattle.docket_tables.proofs.CauseLemmas.{number_suits}
use Rattle.docket_tables.proofs.ReadLemmas.{gives, read_as}
use Rattle.docket_tables.proofs.AskLemmas.{rows_read, rows_unread}
use Rattle.docket_tables.proofs.reading.acts_of_case.Goals as goal

pub returns-clause-read : goal.returns-clause-read
returns-clause-read g c court t orderly holds =
    let asked = c.in_ok-rows.ensures.ok (rows_in court t) holds in
    let rows = c.in_ok-rows.rows.items in
    let k = c.args.case in
    let runs = orderly.acts_run k in
    let turn = in_turn k t.acts runs in
    gives g.S.Store c.ask.new.conn (rows_in court t) _ c.all_in.result asked.0 (λ clean.
    let answer = rw c.to_sql.ensures at (asked.1 clean) in
    read_as _ _ c.all_in.result (λ found are. (
      λ n. ap (λ xs. filter (λ row. row.deadline == n) xs) are ∙ in_turn_of k t.acts runs n,
      subst (IsNonDecreasingBy (λ (row : ActRow). row.deadline)) (sym are) (in_turn_rises k t.acts runs),
    ))
    (c.all_in.ensures.read turn (in_turn_all k t.acts runs IsActRow orderly.acts) (c.as_slice.ensures.value ∙ answered_in_turn k t.acts runs rows answer)))

pub returns-in_err-rows-clause-only : goal.returns-in_err-rows-clause-only
returns-in_err-rows-clause-only g c =
    rows_unread g.S.Store _ _ c.from_residual.result c.ask.ensures.mode c.ask.ensures.writes_nothing c.in_err-rows.field-0.0 c.from_residual.ensures.1 c.in_err-rows.ensures.err
    (λ rows holds clean. c.in_err-rows.ensures.cause rows holds (number_suits c.to_sql.ensures) clean)

pub returns-clause-only : goal.returns-clause-only
returns-clause-only g c = rows_read g.S.Store _ _ c.all_in.result c.ask.ensures.mode c.ask.ensures.writes_nothing (λ rows holds. (c.in_ok-rows.ensures.ok rows holds).0) c.all_in.ensures.own
