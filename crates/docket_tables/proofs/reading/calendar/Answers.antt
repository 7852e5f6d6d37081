use Rattle.std.proofs.Common.{◌∙◌, arith, refl, Ok}
use Rattle.docket_tables.specs.Contents.{rows_in}
use Rattle.docket_tables.specs.declared.fault.ReadFault.TheVariants.{Store}
use Rattle.docket_tables.proofs.ReadLemmas.{err_given, gives}
use Rattle.docket_tables.proofs.TwoTables.{days_shown, short_days_shown}
use Rattle.docket_tables.proofs.AskLemmas.{asked_then, rows_read, rows_unread}
use Rattle.docket_tables.proofs.reading.calendar.Goals as goal

pub returns-in_err-short_rows-clause-read : goal.returns-in_err-short_rows-clause-read
returns-in_err-short_rows-clause-read g c court t orderly holds =
    let rows = rows_in court t in
    let asked = c.in_ok-rows.ensures.ok rows holds in
    err_given g.S.Store c.ask-2.new.conn rows _ (Store c.in_err-short_rows.field-0.0) c.from_residual-in_err-short_rows.result c.from_residual-in_err-short_rows.ensures.1 (c.in_err-short_rows.ensures.err rows asked.0)

pub returns-clause-read : goal.returns-clause-read
returns-clause-read g c court t orderly holds =
    let rows = rows_in court t in
    let asked = c.in_ok-rows.ensures.ok rows holds in
    let next = c.in_ok-short_rows.ensures.ok rows asked.0 in
    gives g.S.Store c.ask-2.new.conn rows _ c.calendar_in.result next.0 (λ clean.
    let days = days_shown t.calendar c.in_ok-rows.rows.items orderly.calendar_rises (asked.1 (omega (arith, clean, c.ask-2.ensures.writes_nothing.clean))) in
    let short_days = short_days_shown t.calendar c.in_ok-short_rows.short_rows.items orderly.calendar_rises (next.1 clean) in
    c.calendar_in.ensures.read t.calendar orderly.calendar orderly.short_days orderly.calendar_rises (c.as_slice.ensures.value ∙ days) (c.as_slice-2.ensures.value ∙ short_days))

pub returns-in_err-rows-clause-only : goal.returns-in_err-rows-clause-only
returns-in_err-rows-clause-only g c =
    rows_unread g.S.Store _ _ c.from_residual.result c.ask.ensures.mode c.ask.ensures.writes_nothing c.in_err-rows.field-0.0 c.from_residual.ensures.1 c.in_err-rows.ensures.err
    (λ rows holds clean. c.in_err-rows.ensures.cause rows holds refl clean)

pub returns-in_err-short_rows-clause-only : goal.returns-in_err-short_rows-clause-only
returns-in_err-short_rows-clause-only g c =
    asked_then (rows_read g.S.Store c.args.conn.now c.ask.new.conn (Ok c.in_ok-rows.rows) c.ask.ensures.mode c.ask.ensures.writes_nothing (λ rows holds. (c.in_ok-rows.ensures.ok rows holds).0) tt)
    (rows_unread g.S.Store c.ask.new.conn c.ask-2.new.conn c.from_residual-in_err-short_rows.result c.ask-2.ensures.mode c.ask-2.ensures.writes_nothing c.in_err-short_rows.field-0.0 c.from_residual-in_err-short_rows.ensures.1 c.in_err-short_rows.ensures.err
    (λ rows holds clean. c.in_err-short_rows.ensures.cause rows holds refl clean))

pub returns-clause-only : goal.returns-clause-only
returns-clause-only g c =
    asked_then (rows_read g.S.Store c.args.conn.now c.ask.new.conn (Ok c.in_ok-rows.rows) c.ask.ensures.mode c.ask.ensures.writes_nothing (λ rows holds. (c.in_ok-rows.ensures.ok rows holds).0) tt)
    (rows_read g.S.Store c.ask.new.conn c.ask-2.new.conn c.calendar_in.result c.ask-2.ensures.mode c.ask-2.ensures.writes_nothing (λ rows holds. (c.in_ok-short_rows.ensures.ok rows holds).0) c.calendar_in.ensures.own)
