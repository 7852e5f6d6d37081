use Rattle.std.proofs.Common.{◌≡◌, ◌++◌, drop, map}
use Rattle.docket_history.specs.Actions.{imported}
use Rattle.docket_history.specs.CalendarItems.{fresh}
use Rattle.docket_history.proofs.calendar_rows.fresh_days.Given as goal

abbrev pub invariant-loop-new : goal.invariant-loop-new
invariant-loop-new l =
    l.rows.items ++ fresh (l.standing ++ map (λ row. row.item) l.rows.items) (map imported (drop l.new-index l.days))
    ≡ fresh l.standing (map imported l.days)
