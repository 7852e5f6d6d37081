use Rattle.std.proofs.Common.{◌≡◌, ◌++◌}
use Rattle.court_days.specs.declared.calendar.Direction.TheVariants.{Backward}
use Rattle.court_reasons.specs.Causes.{business_causes}
use Rattle.court_reasons.specs.Steps.{days_passed_back}
use Rattle.court_reasons.proofs.days.push_passed_back.Given as goal

-- the days so far are added
abbrev pub invariant-loop-n : goal.invariant-loop-n
invariant-loop-n l = l.steps ≡ l.fn.steps ++ days_passed_back (business_causes l.calendar Backward) l.from l.n
