use Rattle.std.proofs.Common.{◌≤◌, ◌+◌, sym, subst}
use Rattle.court_days.specs.Calendar.{Entered, rows_of}
use Rattle.docket_history.proofs.CalendarLemmas.{rows_with_short}
use Rattle.docket_history.proofs.calendar_rows.enter_short.Goals as goal

pub returns-in-Ok-clause-rows : goal.returns-in-Ok-clause-rows
returns-in-Ok-clause-rows c =
    subst (λ (k : Entered). rows_of k ≤ rows_of c.args.calendar.now + 1) (sym c.in-Ok.ensures.entered) (rows_with_short c.args.calendar.now c.args.day c.args.minute)
