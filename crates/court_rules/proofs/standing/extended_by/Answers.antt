use Rattle.std.proofs.Common.{arith}
use Rattle.court_rules.proofs.standing.extended_by.Goals as goal

pub count_days-requires-clause-trigger : goal.count_days-requires-clause-trigger
count_days-requires-clause-trigger c =
    omega (arith, c.last_day-last.ensures.near 99 (rw c.in-Running.is at c.requires.before))

pub returns-in-Running-clause-near : goal.returns-in-Running-clause-near
returns-in-Running-clause-near c = λ count before.
    omega (arith, c.count_days.ensures.near, c.last_day-last.ensures.near count (rw c.in-Running.is at before), c.requires.days)
