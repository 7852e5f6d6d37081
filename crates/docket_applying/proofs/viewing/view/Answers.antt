use Rattle.std.proofs.Common.{Ok, ap, arith}
use Rattle.sqlite.specs.Held.{state}
use Rattle.sqlite.specs.State.{HasCleanDisk}
use Rattle.docket_tables.specs.Contents.{rows_in}
use Rattle.docket_tables.proofs.ReadLemmas.{err_given}
use Rattle.docket_applying.proofs.ViewLemmas.{whole_view}
use Rattle.docket_tables.proofs.AskLemmas.{asked, asked_err, asked_then}
use Rattle.docket_applying.proofs.viewing.view.Goals as goal

pub returns-in_err-under_key-clause-read : goal.returns-in_err-under_key-clause-read
returns-in_err-under_key-clause-read g c court t orderly holds =
    err_given g.S.Store c.under_key.new.conn (rows_in court t) _ c.in_err-under_key.field-0.0 c.from_residual.result c.from_residual.ensures.1 (c.in_err-under_key.ensures.read court t orderly holds)

pub returns-in_err-numbers-clause-read : goal.returns-in_err-numbers-clause-read
returns-in_err-numbers-clause-read g c court t orderly holds =
    let read0 = c.in_ok-under_key.ensures.read court t orderly holds in
    err_given g.S.Store c.numbers_shown.new.conn (rows_in court t) _ c.in_err-numbers.field-0.0 c.from_residual-in_err-numbers.result c.from_residual-in_err-numbers.ensures.1 (c.in_err-numbers.ensures.read court t orderly read0.0)

pub returns-in_err-case-clause-read : goal.returns-in_err-case-clause-read
returns-in_err-case-clause-read g c court t orderly holds =
    let read0 = c.in_ok-under_key.ensures.read court t orderly holds in
    let read1 = c.in_ok-numbers.ensures.read court t orderly read0.0 in
    err_given g.S.Store c.case_asked.new.conn (rows_in court t) _ c.in_err-case.field-0.0 c.from_residual-in_err-case.result c.from_residual-in_err-case.ensures.1 (c.in_err-case.ensures.read court t orderly read1.0)

pub returns-in_err-local-clause-read : goal.returns-in_err-local-clause-read
returns-in_err-local-clause-read g c court t orderly holds =
    let read0 = c.in_ok-under_key.ensures.read court t orderly holds in
    let read1 = c.in_ok-numbers.ensures.read court t orderly read0.0 in
    let read2 = c.in_ok-case.ensures.read court t orderly read1.0 in
    err_given g.S.Store c.local_rule_asked.new.conn (rows_in court t) _ c.in_err-local.field-0.0 c.from_residual-in_err-local.result c.from_residual-in_err-local.ensures.1 (c.in_err-local.ensures.read court t orderly read2.0)

pub returns-clause-read : goal.returns-clause-read
returns-clause-read g c court t orderly holds =
    let read0 = c.in_ok-under_key.ensures.read court t orderly holds in
    let read1 = c.in_ok-numbers.ensures.read court t orderly read0.0 in
    let read2 = c.in_ok-case.ensures.read court t orderly read1.0 in
    let read3 = c.in_ok-local.ensures.read court t orderly read2.0 in (
      read3.0,
      λ clean3.
          let clean2 : HasCleanDisk (state g.S.Store c.case_asked.new.conn) = omega (arith, c.local_rule_asked.ensures.only.writes_nothing.clean) in
          let clean1 : HasCleanDisk (state g.S.Store c.numbers_shown.new.conn) = omega (arith, c.case_asked.ensures.only.writes_nothing.clean) in
          let clean0 : HasCleanDisk (state g.S.Store c.under_key.new.conn) = omega (arith, c.numbers_shown.ensures.only.writes_nothing.clean) in
          whole_view t c.args.command.now _ _ _ _ _ (read0.1 clean0) (read1.1 clean1) (read2.1 clean2) c.empty.ensures (read3.1 clean3),
    )

pub returns-clause-kept : goal.returns-clause-kept
returns-clause-kept g c rows holds clean reply same =
    let read : HasCleanDisk (state g.S.Store c.under_key.new.conn) = omega (arith, clean, c.numbers_shown.ensures.only.writes_nothing.clean, c.case_asked.ensures.only.writes_nothing.clean, c.local_rule_asked.ensures.only.writes_nothing.clean) in
    c.in_ok-under_key.ensures.found rows holds read reply (ap Ok same)

pub returns-in_err-under_key-clause-only : goal.returns-in_err-under_key-clause-only
returns-in_err-under_key-clause-only g c = asked_err c.from_residual.result c.from_residual.ensures.1 c.in_err-under_key.ensures.only

pub returns-in_err-numbers-clause-only : goal.returns-in_err-numbers-clause-only
returns-in_err-numbers-clause-only g c = asked_err c.from_residual-in_err-numbers.result c.from_residual-in_err-numbers.ensures.1 (asked_then c.in_ok-under_key.ensures.only c.in_err-numbers.ensures.only)

pub returns-in_err-case-clause-only : goal.returns-in_err-case-clause-only
returns-in_err-case-clause-only g c = asked_err c.from_residual-in_err-case.result c.from_residual-in_err-case.ensures.1 (asked_then c.in_ok-under_key.ensures.only (asked_then c.in_ok-numbers.ensures.only c.in_err-case.ensures.only))

pub returns-in_err-local-clause-only : goal.returns-in_err-local-clause-only
returns-in_err-local-clause-only g c = asked_err c.from_residual-in_err-local.result c.from_residual-in_err-local.ensures.1 (asked_then c.in_ok-under_key.ensures.only (asked_then c.in_ok-numbers.ensures.only (asked_then c.in_ok-case.ensures.only c.in_err-local.ensures.only)))

pub returns-clause-only : goal.returns-clause-only
returns-clause-only g c = asked (asked_then c.in_ok-under_key.ensures.only (asked_then c.in_ok-numbers.ensures.only (asked_then c.in_ok-case.ensures.only c.in_ok-local.ensures.only)))
