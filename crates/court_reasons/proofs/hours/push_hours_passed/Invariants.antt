use Rattle.std.proofs.Common.{◌≡◌, ◌++◌}
use Rattle.civil_time.specs.LocalTime.{seconds}
use Rattle.court_days.specs.Court.{zone_of}
use Rattle.court_reasons.specs.Causes.{hour_causes}
use Rattle.court_reasons.specs.Steps.{days_passed}
use Rattle.court_reasons.proofs.hours.push_hours_passed.Given as goal

-- the days so far are added
abbrev pub invariant-loop-n : goal.invariant-loop-n
invariant-loop-n l = l.steps ≡ l.fn.steps ++ days_passed (hour_causes l.calendar (zone_of l.court) l.direction (seconds l.at)) l.from l.n
