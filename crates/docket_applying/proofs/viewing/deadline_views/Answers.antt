use Rattle.std.proofs.Common.{◌∙◌, ap, sym, subst, map, arith}
use Rattle.docket_history.specs.Histories.{deadlines_from}
use Rattle.docket_tables.specs.Contents.{rows_in}
use Rattle.docket_orderly.specs.Orderly.{RunsFrom}
use Rattle.docket_tables.specs.Readings.{AreActsOf}
use Rattle.docket_tables.proofs.ReadLemmas.{err_given, short_given}
use Rattle.docket_tables.proofs.AskLemmas.{asked, asked_err, asked_short, asked_then}
use Rattle.docket_applying.proofs.viewing.deadline_views.Goals as goal

pub returns-in_err-rows-clause-read : goal.returns-in_err-rows-clause-read
returns-in_err-rows-clause-read g c court t orderly holds =
    err_given g.S.Store c.deadlines.new.conn (rows_in court t) _ c.in_err-rows.field-0.0 c.from_residual.result c.from_residual.ensures.1 (c.in_err-rows.ensures.read court t orderly holds)

pub returns-in_err-acts-clause-read : goal.returns-in_err-acts-clause-read
returns-in_err-acts-clause-read g c court t orderly holds =
    let first = c.in_ok-rows.ensures.read court t orderly holds in
    err_given g.S.Store c.acts_of_case.new.conn (rows_in court t) _ c.in_err-acts.field-0.0 c.from_residual-in_err-acts.result c.from_residual-in_err-acts.ensures.1 (c.in_err-acts.ensures.read court t orderly first.0)

pub returns-in_err-with_acts-clause-read : goal.returns-in_err-with_acts-clause-read
returns-in_err-with_acts-clause-read g c court t orderly holds =
    let first = c.in_ok-rows.ensures.read court t orderly holds in
    let second = c.in_ok-acts.ensures.read court t orderly first.0 in
    short_given g.S.Store c.acts_of_case.new.conn (rows_in court t) _ c.from_residual-in_err-with_acts.result c.from_residual-in_err-with_acts.ensures.1 second.0

pub returns-clause-read : goal.returns-clause-read
returns-clause-read g c court t orderly holds =
    let first = c.in_ok-rows.ensures.read court t orderly holds in
    let second = c.in_ok-acts.ensures.read court t orderly first.0 in
    let k = c.args.case in (
      second.0,
      λ clean.
          let rows = c.as_slice.ensures.value ∙ first.1 (omega (arith, c.acts_of_case.ensures.only.writes_nothing.clean)) in
          c.in_ok-with_acts.ensures k t.acts (subst (λ rs. RunsFrom 1 (map (λ r. r.number) rs)) (sym rows) (orderly.deadlines_run k)) (subst (AreActsOf k t.acts) (sym c.as_slice-2.ensures.value) (second.1 clean))
          ∙ ap (deadlines_from k 1 t.acts) rows,
    )

pub returns-in_err-rows-clause-only : goal.returns-in_err-rows-clause-only
returns-in_err-rows-clause-only g c = asked_err c.from_residual.result c.from_residual.ensures.1 c.in_err-rows.ensures.only

pub returns-in_err-acts-clause-only : goal.returns-in_err-acts-clause-only
returns-in_err-acts-clause-only g c = asked_err c.from_residual-in_err-acts.result c.from_residual-in_err-acts.ensures.1 (asked_then c.in_ok-rows.ensures.only c.in_err-acts.ensures.only)

pub returns-in_err-with_acts-clause-only : goal.returns-in_err-with_acts-clause-only
returns-in_err-with_acts-clause-only g c = asked_short c.from_residual-in_err-with_acts.result c.from_residual-in_err-with_acts.ensures.1 (asked_then c.in_ok-rows.ensures.only c.in_ok-acts.ensures.only)

pub returns-clause-only : goal.returns-clause-only
returns-clause-only g c = asked (asked_then c.in_ok-rows.ensures.only c.in_ok-acts.ensures.only)
