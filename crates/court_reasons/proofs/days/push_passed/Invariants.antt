use Rattle.std.proofs.Common.{◌≡◌, ◌++◌}
use Rattle.court_reasons.specs.Causes.{day_causes}
use Rattle.court_reasons.specs.Steps.{days_passed}
use Rattle.court_reasons.proofs.days.push_passed.Given as goal

-- the days so far are added
abbrev pub invariant-loop-n : goal.invariant-loop-n
invariant-loop-n l = l.steps ≡ l.fn.steps ++ days_passed (day_causes l.calendar l.direction) l.from l.n
