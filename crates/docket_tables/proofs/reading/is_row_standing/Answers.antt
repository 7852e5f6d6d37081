use Rattle.std.proofs.Common.{◌≡◌, ◌∙◌, ◌==◌, ◌||◌, nat_lt, length, true, false, ap, sym, arith, Ok}
use Rattle.std.proofs.lemmas.Bool.Decides.{nat_tests}
use Rattle.std.specs.List.{list_any}
use Rattle.docket_history.specs.ShortDays.{short_day_rows}
use Rattle.docket_history.specs.declared.row.ShortDayRow.{ShortDayRow}
use Rattle.docket_tables.specs.Contents.{rows_in}
use Rattle.docket_tables.specs.declared.fault.ReadFault.TheVariants.{Store}
use Rattle.docket_tables.proofs.CauseLemmas.{number_suits}
use Rattle.docket_tables.proofs.ReadLemmas.{err_given}
use Rattle.docket_tables.proofs.TwoTables.{day_numbered, short_day_numbered, stands_in_either}
use Rattle.docket_tables.proofs.AskLemmas.{asked_then, rows_read, rows_unread}
use Rattle.docket_tables.proofs.reading.is_row_standing.Goals as goal

pub returns-then-as_slice-gt0-clause-read : goal.returns-then-as_slice-gt0-clause-read
returns-then-as_slice-gt0-clause-read g c court t orderly holds =
    let asked = c.in_ok-rows.ensures.ok (rows_in court t) holds in
    let n = c.args.number in (
      asked.0,
      λ clean.
          let answer = rw c.to_sql.ensures at (asked.1 clean) in
          let some : nat_lt 0 (length c.as_slice.result.now) ≡ true = grind (arith, nat_tests, c.if-as_slice-gt0.true) in
          let stands = sym (day_numbered n t.calendar c.in_ok-rows.rows.items answer) ∙ ap (nat_lt 0) (ap length (sym c.as_slice.ensures.value)) ∙ some in
          sym (stands_in_either n t.calendar ∙ ap (λ b. b || list_any (λ (row : ShortDayRow). row.number == n) (short_day_rows t.calendar)) stands),
    )

pub returns-in_err-short_rows-clause-read : goal.returns-in_err-short_rows-clause-read
returns-in_err-short_rows-clause-read g c court t orderly holds =
    let rows = rows_in court t in
    let asked = c.in_ok-rows.ensures.ok rows holds in
    err_given g.S.Store c.ask-2.new.conn rows _ (Store c.in_err-short_rows.field-0.0) c.from_residual-in_err-short_rows.result c.from_residual-in_err-short_rows.ensures.1 (c.in_err-short_rows.ensures.err rows asked.0)

pub returns-clause-read : goal.returns-clause-read
returns-clause-read g c court t orderly holds =
    let rows = rows_in court t in
    let asked = c.in_ok-rows.ensures.ok rows holds in
    let next = c.in_ok-short_rows.ensures.ok rows asked.0 in
    let n = c.args.number in (
      next.0,
      λ clean.
          let answer = rw c.to_sql.ensures at (asked.1 (omega (arith, clean, c.ask-2.ensures.writes_nothing.clean))) in
          let short_answer = rw c.to_sql-2.ensures at (next.1 clean) in
          let none : nat_lt 0 (length c.as_slice.result.now) ≡ false = grind (arith, nat_tests, c.if-as_slice-gt0.false) in
          let absent = sym (day_numbered n t.calendar c.in_ok-rows.rows.items answer) ∙ ap (nat_lt 0) (ap length (sym c.as_slice.ensures.value)) ∙ none in
          ap (nat_lt 0) (ap length c.as_slice-2.ensures.value)
          ∙ short_day_numbered n t.calendar c.in_ok-short_rows.short_rows.items short_answer
          ∙ sym (stands_in_either n t.calendar ∙ ap (λ b. b || list_any (λ (row : ShortDayRow). row.number == n) (short_day_rows t.calendar)) absent),
    )

pub returns-in_err-rows-clause-only : goal.returns-in_err-rows-clause-only
returns-in_err-rows-clause-only g c =
    rows_unread g.S.Store _ _ c.from_residual.result c.ask.ensures.mode c.ask.ensures.writes_nothing c.in_err-rows.field-0.0 c.from_residual.ensures.1 c.in_err-rows.ensures.err
    (λ rows holds clean. c.in_err-rows.ensures.cause rows holds (number_suits c.to_sql.ensures) clean)

pub returns-then-as_slice-gt0-clause-only : goal.returns-then-as_slice-gt0-clause-only
returns-then-as_slice-gt0-clause-only g c = rows_read g.S.Store _ _ _ c.ask.ensures.mode c.ask.ensures.writes_nothing (λ rows holds. (c.in_ok-rows.ensures.ok rows holds).0) tt

pub returns-in_err-short_rows-clause-only : goal.returns-in_err-short_rows-clause-only
returns-in_err-short_rows-clause-only g c =
    asked_then (rows_read g.S.Store c.args.conn.now c.ask.new.conn (Ok c.in_ok-rows.rows) c.ask.ensures.mode c.ask.ensures.writes_nothing (λ rows holds. (c.in_ok-rows.ensures.ok rows holds).0) tt)
    (rows_unread g.S.Store c.ask.new.conn c.ask-2.new.conn c.from_residual-in_err-short_rows.result c.ask-2.ensures.mode c.ask-2.ensures.writes_nothing c.in_err-short_rows.field-0.0 c.from_residual-in_err-short_rows.ensures.1 c.in_err-short_rows.ensures.err
    (λ rows holds clean. c.in_err-short_rows.ensures.cause rows holds (number_suits c.to_sql-2.ensures) clean))

pub returns-clause-only : goal.returns-clause-only
returns-clause-only g c =
    asked_then (rows_read g.S.Store c.args.conn.now c.ask.new.conn (Ok c.in_ok-rows.rows) c.ask.ensures.mode c.ask.ensures.writes_nothing (λ rows holds. (c.in_ok-rows.ensures.ok rows holds).0) tt)
    (rows_read g.S.Store c.ask.new.conn c.ask-2.new.conn _ c.ask-2.ensures.mode c.ask-2.ensures.writes_nothing (λ rows holds. (c.in_ok-short_rows.ensures.ok rows holds).0) tt)
