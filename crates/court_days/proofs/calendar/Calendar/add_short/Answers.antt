use Rattle.std.proofs.Common.{◌≡◌, ◌<◌, ◌+◌, false, arith, ap}
use Rattle.std.specs.FinMap as map
use Rattle.std.specs.FinSet.{len}
use Rattle.court_days.specs.Calendar.{rows_of}
use Rattle.court_days.specs.Civil.{IsEnteredDay}
use Rattle.court_days.proofs.Entries.{keeps_short}
use Rattle.court_days.proofs.calendar.Calendar.add_short.Goals as goal

pub invariant_of-self-2 : goal.invariant_of-self-2
invariant_of-self-2 c =
    let here : IsEnteredDay c.args.day = grind arith in
    let room : len c.self.inside.federal + len c.self.inside.state + len c.self.inside.closed + len c.self.inside.spans + map.len c.self.inside.short < 4000 = omega (arith, ap rows_of c.self.view_is) in
    let other : map.contains_key c.self.inside.short c.args.day ≡ false = grind arith in
    keeps_short _ _ _ _ _ c.args.day c.args.minute c.self.invariant here room _ other c.in_ok-insert.ensures.ok

pub returns-clause-limits : goal.returns-clause-limits
returns-clause-limits c = (c.len-rows.ensures.limits, (invariant_of-self-2 c).limits)

pub returns-clause-room : goal.returns-clause-room
returns-clause-room c = (c.len-rows.ensures.room, (invariant_of-self-2 c).rows)
