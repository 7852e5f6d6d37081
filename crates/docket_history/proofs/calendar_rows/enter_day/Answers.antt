use Rattle.std.proofs.Common.{◌≡◌, ◌≤◌, ◌+◌, Bool, true, false, Ok, sym, ◌∙◌, subst}
use Rattle.court_days.specs.Calendar.{Entered, rows_of, with_day}
use Rattle.docket_history.proofs.CalendarLemmas.{day_held, rows_with_day}
use Rattle.docket_history.proofs.calendar_rows.enter_day.Goals as goal

pub returns-in-Ok-clause-entered : goal.returns-in-Ok-clause-entered
returns-in-Ok-clause-entered c = entered c.in-Ok.field-0 c.in-Ok.is
  where
    entered : (new : Bool) → c.add_day.result ≡ Ok new → c.add_day.new.self ≡ with_day c.args.calendar.now c.args.kind c.args.day
    entered true e = c.add_day.ensures.entered e
    entered false e = c.add_day.ensures.kept e ∙ sym (day_held c.args.calendar.now c.args.kind c.args.day (c.add_day.ensures.stood.0 e).1)

pub returns-in-Ok-clause-rows : goal.returns-in-Ok-clause-rows
returns-in-Ok-clause-rows c =
    subst (λ (k : Entered). rows_of k ≤ rows_of c.args.calendar.now + 1) (sym (returns-in-Ok-clause-entered c)) (rows_with_day c.args.calendar.now c.args.kind c.args.day)
