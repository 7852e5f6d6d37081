use Rattle.std.proofs.Common.{◌≡◌, ◌∙◌, ◌&&◌, true, false, nat_le, ap, sym, arith}
use Rattle.sqlite.specs.Held.{state}
use Rattle.sqlite.specs.State.{HasCleanDisk}
use Rattle.docket_decisions.specs.Tables.{is_case_in}
use Rattle.docket_tables.specs.Contents.{rows_in}
use Rattle.docket_tables.proofs.ReadLemmas.{err_given}
use Rattle.docket_applying.proofs.ViewLemmas.{none_told, deadlines_told}
use Rattle.docket_tables.proofs.AskLemmas.{asked, asked_err, asked_then}
use Rattle.docket_applying.proofs.viewing.case_deadlines.Goals as goal

pub returns-in_err-count-clause-read : goal.returns-in_err-count-clause-read
returns-in_err-count-clause-read g c court t orderly holds =
    err_given g.S.Store c.cases.new.conn (rows_in court t) _ c.in_err-count.field-0.0 c.from_residual.result c.from_residual.ensures.1 (c.in_err-count.ensures.read court t orderly holds)

pub returns-then-not-is_among-clause-read : goal.returns-then-not-is_among-clause-read
returns-then-not-is_among-clause-read g c court t orderly holds =
    let read0 = c.in_ok-count.ensures.read court t orderly holds in (
      read0.0,
      λ clean.
          let out : is_case_in t c.args.number ≡ false =
          ap (λ n. nat_le 1 c.args.number && nat_le c.args.number n) (sym (read0.1 clean)) ∙ sym c.is_among.ensures ∙ c.if-not-is_among.true in
          sym (none_told t c.args.number out),
    )

pub returns-in_err-deadline_views-clause-read : goal.returns-in_err-deadline_views-clause-read
returns-in_err-deadline_views-clause-read g c court t orderly holds =
    let read0 = c.in_ok-count.ensures.read court t orderly holds in
    err_given g.S.Store c.deadline_views.new.conn (rows_in court t) _ c.in_err-deadline_views.field-0.0 c.from_residual-in_err-deadline_views.result c.from_residual-in_err-deadline_views.ensures.1 (c.in_err-deadline_views.ensures.read court t orderly read0.0)

pub returns-clause-read : goal.returns-clause-read
returns-clause-read g c court t orderly holds =
    let read0 = c.in_ok-count.ensures.read court t orderly holds in
    let read1 = c.in_ok-deadline_views.ensures.read court t orderly read0.0 in (
      read1.0,
      λ clean1.
          let clean0 : HasCleanDisk (state g.S.Store c.cases.new.conn) = omega (arith, c.deadline_views.ensures.only.writes_nothing.clean) in
          let among : is_case_in t c.args.number ≡ true =
          ap (λ n. nat_le 1 c.args.number && nat_le c.args.number n) (sym (read0.1 clean0)) ∙ sym c.is_among.ensures ∙ c.if-not-is_among.false in
          sym (deadlines_told t c.args.number _ among (read1.1 clean1)),
    )

pub returns-in_err-count-clause-only : goal.returns-in_err-count-clause-only
returns-in_err-count-clause-only g c = asked_err c.from_residual.result c.from_residual.ensures.1 c.in_err-count.ensures.only

pub returns-in_err-deadline_views-clause-only : goal.returns-in_err-deadline_views-clause-only
returns-in_err-deadline_views-clause-only g c = asked_err c.from_residual-in_err-deadline_views.result c.from_residual-in_err-deadline_views.ensures.1 (asked_then c.in_ok-count.ensures.only c.in_err-deadline_views.ensures.only)

pub returns-clause-only : goal.returns-clause-only
returns-clause-only g c = asked (asked_then c.in_ok-count.ensures.only c.in_ok-deadline_views.ensures.only)

pub returns-then-not-is_among-clause-only : goal.returns-then-not-is_among-clause-only
returns-then-not-is_among-clause-only g c = asked c.in_ok-count.ensures.only
