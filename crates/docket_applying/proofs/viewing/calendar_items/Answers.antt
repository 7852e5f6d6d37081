use Rattle.std.proofs.Common.{◌∙◌, ap}
use Rattle.docket_history.specs.Histories.{items_of}
use Rattle.docket_tables.specs.Contents.{rows_in}
use Rattle.docket_tables.proofs.ReadLemmas.{err_given, short_given}
use Rattle.docket_tables.proofs.AskLemmas.{asked, asked_err, asked_short}
use Rattle.docket_applying.proofs.viewing.calendar_items.Goals as goal

pub returns-in_err-rows-clause-read : goal.returns-in_err-rows-clause-read
returns-in_err-rows-clause-read g c court t orderly holds =
    err_given g.S.Store c.calendar.new.conn (rows_in court t) _ c.in_err-rows.field-0.0 c.from_residual.result c.from_residual.ensures.1 (c.in_err-rows.ensures.read court t orderly holds)

pub returns-in_err-items_of-clause-read : goal.returns-in_err-items_of-clause-read
returns-in_err-items_of-clause-read g c court t orderly holds =
    short_given g.S.Store c.calendar.new.conn (rows_in court t) _ c.from_residual-in_err-items_of.result c.from_residual-in_err-items_of.ensures.1
    (c.in_ok-rows.ensures.read court t orderly holds).0

pub returns-clause-read : goal.returns-clause-read
returns-clause-read g c court t orderly holds =
    let read = c.in_ok-rows.ensures.read court t orderly holds in (
      read.0,
      λ clean. c.in_ok-items_of.ensures ∙ ap items_of (c.as_slice.ensures.value ∙ read.1 clean),
    )

pub returns-in_err-rows-clause-only : goal.returns-in_err-rows-clause-only
returns-in_err-rows-clause-only g c = asked_err c.from_residual.result c.from_residual.ensures.1 c.in_err-rows.ensures.only

pub returns-in_err-items_of-clause-only : goal.returns-in_err-items_of-clause-only
returns-in_err-items_of-clause-only g c = asked_short c.from_residual-in_err-items_of.result c.from_residual-in_err-items_of.ensures.1 c.in_ok-rows.ensures.only

pub returns-clause-only : goal.returns-clause-only
returns-clause-only g c = asked c.in_ok-rows.ensures.only
