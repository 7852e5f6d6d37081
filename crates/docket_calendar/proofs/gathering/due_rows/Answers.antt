use Rattle.std.proofs.Common.{◌≡◌, Vec, Global, sym, subst, arith}
use Rattle.sqlite.specs.State.{HasCleanDisk}
use Rattle.sqlite.specs.Held.{state}
use Rattle.court_days.specs.Calendar.{Entered}
use Rattle.docket_history.specs.declared.record.DueRow.{DueRow}
use Rattle.docket_calendar.specs.Asked.{Lists}
use Rattle.docket_calendar.specs.Calendar.{calendar_rows}
use Rattle.docket_calendar.specs.Question.{question, days_asked}
use Rattle.docket_calendar.proofs.StandsLemmas.{found_stays, gives, lists_of}
use Rattle.docket_calendar.proofs.gathering.due_rows.Goals as goal

pub returns-clause-gives : goal.returns-clause-gives
returns-clause-gives g c = λ h is holds entered.
    let old = c.args.conn.now in
    let new = c.gather_days.new.conn in
    let court = c.args.court.now in
    let rows = calendar_rows court h c.args.from c.args.to in
    gives g.S.Store court h old new is holds
    c.gather_days.ensures.mode c.gather_days.ensures.writes_nothing (λ (found : Vec DueRow Global). found.items ≡ rows) c.gather_days.result
    (λ clean.
    let before : HasCleanDisk (state g.S.Store old) = omega (arith, c.gather_days.ensures.writes_nothing.clean, clean) in
    let lists = subst (λ (k : Entered). Lists question (days_asked c.args.from c.args.to) court k (state g.S.Store old).now rows) (sym (entered clean)) (lists_of g.S.Store court h c.args.from c.args.to old is holds before) in
    c.gather_days.ensures.gathers rows clean lists)

pub returns-clause-only : goal.returns-clause-only
returns-clause-only g c = record {
  stays = λ rows holds.
      found_stays g.S.Store rows c.args.conn.now c.gather_days.new.conn holds c.gather_days.ensures.mode c.gather_days.ensures.writes_nothing c.gather_days.result c.gather_days.ensures.remains;
  writes_nothing = c.gather_days.ensures.writes_nothing;
  mode = c.gather_days.ensures.mode;
  cause = c.gather_days.ensures.cause;
}
