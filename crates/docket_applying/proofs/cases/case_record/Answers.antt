use Rattle.std.proofs.Common.{◌∙◌, ap, sym, arith}
use Rattle.sqlite.specs.Held.{state}
use Rattle.sqlite.specs.State.{HasCleanDisk}
use Rattle.docket_history.specs.Records.{record_of}
use Rattle.docket_tables.specs.Contents.{rows_in}
use Rattle.docket_tables.proofs.ReadLemmas.{err_given}
use Rattle.docket_tables.proofs.AskLemmas.{asked, asked_err, asked_then}
use Rattle.docket_applying.proofs.cases.case_record.Goals as goal

pub returns-in_err-row-clause-read : goal.returns-in_err-row-clause-read
returns-in_err-row-clause-read g c court t orderly holds =
    err_given g.S.Store c.case.new.conn (rows_in court t) _ c.in_err-row.field-0.0 c.from_residual.result c.from_residual.ensures.1 (c.in_err-row.ensures.read court t orderly holds)

pub returns-in_err-record_of-in-Some-clause-read : goal.returns-in_err-record_of-in-Some-clause-read
returns-in_err-record_of-in-Some-clause-read g c court t orderly holds =
    let first = c.in_ok-row.ensures.read court t orderly holds in
    err_given g.S.Store c.record_of.new.conn (rows_in court t) _ c.in_err-record_of-in-Some.field-0.0 c.from_residual-in_err-record_of-in-Some.result c.from_residual-in_err-record_of-in-Some.ensures.1
    (c.in_err-record_of-in-Some.ensures.read court t orderly first.0)

pub returns-in_ok-record_of-in-Some-clause-read : goal.returns-in_ok-record_of-in-Some-clause-read
returns-in_ok-record_of-in-Some-clause-read g c court t orderly holds =
    let first = c.in_ok-row.ensures.read court t orderly holds in
    let second = c.in_ok-record_of-in-Some.ensures.read court t orderly first.0 in (
      second.0,
      λ clean.
          let early : HasCleanDisk (state g.S.Store c.case.new.conn) = omega (arith, c.record_of.ensures.only.writes_nothing.clean) in
          second.1 clean ∙ ap (record_of t.parties t.entries) (sym c.in-Some.is ∙ first.1 early),
    )

pub returns-in-None-clause-read : goal.returns-in-None-clause-read
returns-in-None-clause-read g c court t orderly holds =
    let first = c.in_ok-row.ensures.read court t orderly holds in (
      first.0,
      λ clean. ap (record_of t.parties t.entries) (sym c.in-None.is ∙ first.1 clean),
    )

pub returns-in_err-row-clause-only : goal.returns-in_err-row-clause-only
returns-in_err-row-clause-only g c = asked_err c.from_residual.result c.from_residual.ensures.1 c.in_err-row.ensures.only

pub returns-in_err-record_of-in-Some-clause-only : goal.returns-in_err-record_of-in-Some-clause-only
returns-in_err-record_of-in-Some-clause-only g c = asked_err c.from_residual-in_err-record_of-in-Some.result c.from_residual-in_err-record_of-in-Some.ensures.1 (asked_then c.in_ok-row.ensures.only c.in_err-record_of-in-Some.ensures.only)

pub returns-in_ok-record_of-in-Some-clause-only : goal.returns-in_ok-record_of-in-Some-clause-only
returns-in_ok-record_of-in-Some-clause-only g c = asked (asked_then c.in_ok-row.ensures.only c.in_ok-record_of-in-Some.ensures.only)

pub returns-in-None-clause-only : goal.returns-in-None-clause-only
returns-in-None-clause-only g c = asked c.in_ok-row.ensures.only
