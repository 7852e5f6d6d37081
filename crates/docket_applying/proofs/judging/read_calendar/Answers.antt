use Rattle.std.proofs.Common.{◌∙◌, sym, subst, Err}
use Rattle.std.proofs.lemmas.Bool.{both_ways}
use Rattle.docket_applying.specs.Sound.{IsSoundCalendar}
use Rattle.docket_decisions.specs.Tables.{rows_of}
use Rattle.docket_tables.proofs.ReadLemmas.{err_given, short_given}
use Rattle.docket_tables.specs.declared.fault.ReadFault.TheVariants.{Damaged}
use Rattle.docket_applying.specs.Applying.{docket_rows}
use Rattle.docket_applying.proofs.ApplyLemmas.{docket_orderly}
use Rattle.docket_applying.proofs.AskLemmas.{sound_calendar}
use Rattle.docket_tables.proofs.AskLemmas.{asked, asked_err, asked_own, asked_short}
use Rattle.docket_applying.proofs.judging.read_calendar.Goals as goal

pub new-requires : goal.new-requires
new-requires g c =
    let sound = subst IsSoundCalendar c.as_slice.ensures.value (c.is_sound_calendar.ensures.0 c.if-not-is_sound_calendar.false) in
    record { items = sound.0; rows = sound.1 }

pub returns-in_err-items-clause-read : goal.returns-in_err-items-clause-read
returns-in_err-items-clause-read g c court h is stands =
    err_given g.S.Store c.calendar_items.new.conn (docket_rows court h) _ c.in_err-items.field-0.0 c.from_residual.result c.from_residual.ensures.1 (c.in_err-items.ensures.read court (rows_of court h) (docket_orderly court h is) stands)

pub returns-then-not-is_sound_calendar-clause-read : goal.returns-then-not-is_sound_calendar-clause-read
returns-then-not-is_sound_calendar-clause-read g c court h is stands = λ clean.
    let read = c.in_ok-items.ensures.read court (rows_of court h) (docket_orderly court h is) stands in
    let sound = sound_calendar court h is in
    both_ways _ c.if-not-is_sound_calendar.true (c.is_sound_calendar.ensures.1 (subst IsSoundCalendar (sym (c.as_slice.ensures.value ∙ read.1 clean)) sound))

pub returns-in_err-new-clause-read : goal.returns-in_err-new-clause-read
returns-in_err-new-clause-read g c court h is stands =
    short_given g.S.Store c.calendar_items.new.conn (docket_rows court h) _ c.from_residual-in_err-new.result c.from_residual-in_err-new.ensures.1
    (c.in_ok-items.ensures.read court (rows_of court h) (docket_orderly court h is) stands).0

pub returns-clause-read : goal.returns-clause-read
returns-clause-read g c court h is stands =
    let read = c.in_ok-items.ensures.read court (rows_of court h) (docket_orderly court h is) stands in
    (read.0, λ clean. c.in_ok-new.ensures ∙ read.1 clean)

pub returns-in_err-items-clause-only : goal.returns-in_err-items-clause-only
returns-in_err-items-clause-only g c = asked_err c.from_residual.result c.from_residual.ensures.1 c.in_err-items.ensures.only

pub returns-then-not-is_sound_calendar-clause-only : goal.returns-then-not-is_sound_calendar-clause-only
returns-then-not-is_sound_calendar-clause-only g c = asked_own (Err Damaged) tt c.in_ok-items.ensures.only

pub returns-in_err-new-clause-only : goal.returns-in_err-new-clause-only
returns-in_err-new-clause-only g c = asked_short c.from_residual-in_err-new.result c.from_residual-in_err-new.ensures.1 c.in_ok-items.ensures.only

pub returns-clause-only : goal.returns-clause-only
returns-clause-only g c = asked c.in_ok-items.ensures.only
