use Rattle.std.proofs.Common.{◌≡◌, ◌∙◌, length, ap, arith}
use Rattle.sqlite.specs.Held.{state}
use Rattle.sqlite.specs.State.{HasCleanDisk}
use Rattle.docket_history.specs.Actions.{asks_cases, asks_local_rules, asks_next_row, if_asked}
use Rattle.docket_history.specs.declared.subject.Asks.{Asks}
use Rattle.docket_tables.specs.Contents.{rows_in}
use Rattle.docket_tables.proofs.ReadLemmas.{err_given}
use Rattle.docket_tables.proofs.AskLemmas.{asked, asked_err, asked_then}
use Rattle.docket_applying.proofs.viewing.numbers_shown.Goals as goal

pub returns-in_err-cases-clause-read : goal.returns-in_err-cases-clause-read
returns-in_err-cases-clause-read g c court t orderly holds =
    err_given g.S.Store c.cases_if_asked.new.conn (rows_in court t) _ c.in_err-cases.field-0.0 c.from_residual.result c.from_residual.ensures.1 (c.in_err-cases.ensures.read court t orderly holds)

pub returns-in_err-label_taken-clause-read : goal.returns-in_err-label_taken-clause-read
returns-in_err-label_taken-clause-read g c court t orderly holds =
    let read0 = c.in_ok-cases.ensures.read court t orderly holds in
    err_given g.S.Store c.is_asked_label_taken.new.conn (rows_in court t) _ c.in_err-label_taken.field-0.0 c.from_residual-in_err-label_taken.result c.from_residual-in_err-label_taken.ensures.1 (c.in_err-label_taken.ensures.read court t orderly read0.0)

pub returns-in_err-row_stands-clause-read : goal.returns-in_err-row_stands-clause-read
returns-in_err-row_stands-clause-read g c court t orderly holds =
    let read0 = c.in_ok-cases.ensures.read court t orderly holds in
    let read1 = c.in_ok-label_taken.ensures.read court t orderly read0.0 in
    err_given g.S.Store c.is_asked_row_standing.new.conn (rows_in court t) _ c.in_err-row_stands.field-0.0 c.from_residual-in_err-row_stands.result c.from_residual-in_err-row_stands.ensures.1 (c.in_err-row_stands.ensures.read court t orderly read1.0)

pub returns-in_err-next_row-clause-read : goal.returns-in_err-next_row-clause-read
returns-in_err-next_row-clause-read g c court t orderly holds =
    let read0 = c.in_ok-cases.ensures.read court t orderly holds in
    let read1 = c.in_ok-label_taken.ensures.read court t orderly read0.0 in
    let read2 = c.in_ok-row_stands.ensures.read court t orderly read1.0 in
    err_given g.S.Store c.next_row_if_asked.new.conn (rows_in court t) _ c.in_err-next_row.field-0.0 c.from_residual-in_err-next_row.result c.from_residual-in_err-next_row.ensures.1 (c.in_err-next_row.ensures.read court t orderly read2.0)

pub returns-in_err-local_rules-clause-read : goal.returns-in_err-local_rules-clause-read
returns-in_err-local_rules-clause-read g c court t orderly holds =
    let read0 = c.in_ok-cases.ensures.read court t orderly holds in
    let read1 = c.in_ok-label_taken.ensures.read court t orderly read0.0 in
    let read2 = c.in_ok-row_stands.ensures.read court t orderly read1.0 in
    let read3 = c.in_ok-next_row.ensures.read court t orderly read2.0 in
    err_given g.S.Store c.local_rules_if_asked.new.conn (rows_in court t) _ c.in_err-local_rules.field-0.0 c.from_residual-in_err-local_rules.result c.from_residual-in_err-local_rules.ensures.1 (c.in_err-local_rules.ensures.read court t orderly read3.0)

pub returns-clause-read : goal.returns-clause-read
returns-clause-read g c court t orderly holds =
    let read0 = c.in_ok-cases.ensures.read court t orderly holds in
    let read1 = c.in_ok-label_taken.ensures.read court t orderly read0.0 in
    let read2 = c.in_ok-row_stands.ensures.read court t orderly read1.0 in
    let read3 = c.in_ok-next_row.ensures.read court t orderly read2.0 in
    let read4 = c.in_ok-local_rules.ensures.read court t orderly read3.0 in (
      read4.0,
      λ clean4.
          let clean3 : HasCleanDisk (state g.S.Store c.next_row_if_asked.new.conn) = omega (arith, c.local_rules_if_asked.ensures.only.writes_nothing.clean) in
          let clean2 : HasCleanDisk (state g.S.Store c.is_asked_row_standing.new.conn) = omega (arith, c.next_row_if_asked.ensures.only.writes_nothing.clean) in
          let clean1 : HasCleanDisk (state g.S.Store c.is_asked_label_taken.new.conn) = omega (arith, c.is_asked_row_standing.ensures.only.writes_nothing.clean) in
          let clean0 : HasCleanDisk (state g.S.Store c.cases_if_asked.new.conn) = omega (arith, c.is_asked_label_taken.ensures.only.writes_nothing.clean) in
          let counted : c.in_ok-cases.cases ≡ if_asked (asks_cases c.args.action.now) (length t.cases) = read0.1 clean0 ∙ ap (λ (asks : Asks). if_asked asks.cases (length t.cases)) c.requires in
          let next : c.in_ok-next_row.next_row ≡ if_asked (asks_next_row c.args.action.now) t.next_row = read3.1 clean3 ∙ ap (λ (asks : Asks). if_asked asks.next_row t.next_row) c.requires in
          let ruled : c.in_ok-local_rules.local_rules ≡ if_asked (asks_local_rules c.args.action.now) (length t.local_rules) = read4.1 clean4 ∙ ap (λ (asks : Asks). if_asked asks.local_rules (length t.local_rules)) c.requires in
          λ i. record { cases = counted i; label_taken = read1.1 clean1 i; row_stands = read2.1 clean2 i; next_row = next i; local_rules = ruled i },
    )

pub returns-in_err-cases-clause-only : goal.returns-in_err-cases-clause-only
returns-in_err-cases-clause-only g c = asked_err c.from_residual.result c.from_residual.ensures.1 c.in_err-cases.ensures.only

pub returns-in_err-label_taken-clause-only : goal.returns-in_err-label_taken-clause-only
returns-in_err-label_taken-clause-only g c = asked_err c.from_residual-in_err-label_taken.result c.from_residual-in_err-label_taken.ensures.1 (asked_then c.in_ok-cases.ensures.only c.in_err-label_taken.ensures.only)

pub returns-in_err-row_stands-clause-only : goal.returns-in_err-row_stands-clause-only
returns-in_err-row_stands-clause-only g c = asked_err c.from_residual-in_err-row_stands.result c.from_residual-in_err-row_stands.ensures.1 (asked_then c.in_ok-cases.ensures.only (asked_then c.in_ok-label_taken.ensures.only c.in_err-row_stands.ensures.only))

pub returns-in_err-next_row-clause-only : goal.returns-in_err-next_row-clause-only
returns-in_err-next_row-clause-only g c = asked_err c.from_residual-in_err-next_row.result c.from_residual-in_err-next_row.ensures.1 (asked_then c.in_ok-cases.ensures.only (asked_then c.in_ok-label_taken.ensures.only (asked_then c.in_ok-row_stands.ensures.only c.in_err-next_row.ensures.only)))

pub returns-in_err-local_rules-clause-only : goal.returns-in_err-local_rules-clause-only
returns-in_err-local_rules-clause-only g c = asked_err c.from_residual-in_err-local_rules.result c.from_residual-in_err-local_rules.ensures.1 (asked_then c.in_ok-cases.ensures.only (asked_then c.in_ok-label_taken.ensures.only (asked_then c.in_ok-row_stands.ensures.only (asked_then c.in_ok-next_row.ensures.only c.in_err-local_rules.ensures.only))))

pub returns-clause-only : goal.returns-clause-only
returns-clause-only g c = asked (asked_then c.in_ok-cases.ensures.only (asked_then c.in_ok-label_taken.ensures.only (asked_then c.in_ok-row_stands.ensures.only (asked_then c.in_ok-next_row.ensures.only c.in_ok-local_rules.ensures.only))))
