use Rattle.std.proofs.Common.{sym, subst, arith}
use Rattle.sqlite.specs.State.{HasCleanDisk}
use Rattle.sqlite.specs.Held.{state}
use Rattle.court_days.specs.Calendar.{Entered}
use Rattle.docket_calendar.specs.Asked.{Lists}
use Rattle.docket_calendar.specs.Calendar.{calendar_rows}
use Rattle.docket_calendar.specs.Question.{question, days_asked}
use Rattle.docket_calendar.proofs.StandsLemmas.{stays, tells, lists_of}
use Rattle.docket_calendar.proofs.calendar_of_days.calendar.Goals as goal

pub returns-clause-tells : goal.returns-clause-tells
returns-clause-tells g c = λ h is holds entered.
    let old = c.args.conn.now in
    let new = c.tell_days.new.conn in
    let court = c.args.court.now in
    tells g.S.Store court h c.args.from c.args.to c.args.front.now (g.W.Write.contents c.args.writer.now) (g.W.Write.contents c.tell_days.new.writer) old new is holds
    c.tell_days.ensures.mode c.tell_days.ensures.writes_nothing c.tell_days.result
    (λ clean.
    let before : HasCleanDisk (state g.S.Store old) = omega (arith, c.tell_days.ensures.writes_nothing.clean, clean) in
    let lists = subst (λ (k : Entered). Lists question (days_asked c.args.from c.args.to) court k (state g.S.Store old).now (calendar_rows court h c.args.from c.args.to)) (sym (entered clean)) (lists_of g.S.Store court h c.args.from c.args.to old is holds before) in
    c.tell_days.ensures.sends (calendar_rows court h c.args.from c.args.to) clean lists)

pub returns-clause-stays : goal.returns-clause-stays
returns-clause-stays g c = λ rows holds.
    stays g.S.Store rows c.args.conn.now c.tell_days.new.conn holds c.tell_days.ensures.mode c.tell_days.ensures.writes_nothing c.tell_days.result c.tell_days.ensures.remains
