use Rattle.std.proofs.Common.{◌∙◌, ap}
use Rattle.docket_history.specs.Views.{is_served_among}
use Rattle.docket_tables.specs.Contents.{rows_in}
use Rattle.docket_tables.proofs.ReadLemmas.{err_given}
use Rattle.docket_tables.proofs.AskLemmas.{asked, asked_err}
use Rattle.docket_applying.proofs.viewing.is_served.Goals as goal

pub returns-in_err-deadlines-clause-read : goal.returns-in_err-deadlines-clause-read
returns-in_err-deadlines-clause-read g c court t orderly holds =
    err_given g.S.Store c.deadline_views.new.conn (rows_in court t) _ c.in_err-deadlines.field-0.0 c.from_residual.result c.from_residual.ensures.1 (c.in_err-deadlines.ensures.read court t orderly holds)

pub returns-clause-read : goal.returns-clause-read
returns-clause-read g c court t orderly holds =
    let read = c.in_ok-deadlines.ensures.read court t orderly holds in (
      read.0,
      λ clean. c.is_served_among.ensures ∙ ap (λ deadlines. is_served_among deadlines c.args.action.now) (c.as_slice.ensures.value ∙ read.1 clean),
    )

pub returns-in_err-deadlines-clause-only : goal.returns-in_err-deadlines-clause-only
returns-in_err-deadlines-clause-only g c = asked_err c.from_residual.result c.from_residual.ensures.1 c.in_err-deadlines.ensures.only

pub returns-clause-only : goal.returns-clause-only
returns-clause-only g c = asked c.in_ok-deadlines.ensures.only
