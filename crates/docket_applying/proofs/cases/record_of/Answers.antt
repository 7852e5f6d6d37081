use Rattle.std.proofs.Common.{◌∙◌, Some, arith}
use Rattle.sqlite.specs.Held.{state}
use Rattle.sqlite.specs.State.{HasCleanDisk}
use Rattle.docket_tables.specs.Contents.{rows_in}
use Rattle.docket_tables.proofs.ReadLemmas.{err_given}
use Rattle.docket_tables.proofs.AskLemmas.{asked, asked_err, asked_then}
use Rattle.docket_applying.proofs.cases.record_of.Goals as goal

pub returns-in_err-parties-clause-read : goal.returns-in_err-parties-clause-read
returns-in_err-parties-clause-read g c court t orderly holds =
    err_given g.S.Store c.parties.new.conn (rows_in court t) _ c.in_err-parties.field-0.0 c.from_residual.result c.from_residual.ensures.1 (c.in_err-parties.ensures.read court t orderly holds)

pub returns-in_err-entries-clause-read : goal.returns-in_err-entries-clause-read
returns-in_err-entries-clause-read g c court t orderly holds =
    let first = c.in_ok-parties.ensures.read court t orderly holds in
    err_given g.S.Store c.entries.new.conn (rows_in court t) _ c.in_err-entries.field-0.0 c.from_residual-in_err-entries.result c.from_residual-in_err-entries.ensures.1 (c.in_err-entries.ensures.read court t orderly first.0)

pub returns-clause-read : goal.returns-clause-read
returns-clause-read g c court t orderly holds =
    let row = c.args.row in
    let first = c.in_ok-parties.ensures.read court t orderly holds in
    let second = c.in_ok-entries.ensures.read court t orderly first.0 in (
      second.0,
      λ clean.
          let early : HasCleanDisk (state g.S.Store c.parties.new.conn) = omega (arith, c.entries.ensures.only.writes_nothing.clean) in
          λ i. Some (record { number = row.number; label = row.label; caption = row.caption; filed = row.filed; parties = (c.new.ensures ∙ first.1 early) i; entries = (c.new-2.ensures ∙ second.1 clean) i }),
    )

pub returns-in_err-parties-clause-only : goal.returns-in_err-parties-clause-only
returns-in_err-parties-clause-only g c = asked_err c.from_residual.result c.from_residual.ensures.1 c.in_err-parties.ensures.only

pub returns-in_err-entries-clause-only : goal.returns-in_err-entries-clause-only
returns-in_err-entries-clause-only g c = asked_err c.from_residual-in_err-entries.result c.from_residual-in_err-entries.ensures.1 (asked_then c.in_ok-parties.ensures.only c.in_err-entries.ensures.only)

pub returns-clause-only : goal.returns-clause-only
returns-clause-only g c = asked (asked_then c.in_ok-parties.ensures.only c.in_ok-entries.ensures.only)
