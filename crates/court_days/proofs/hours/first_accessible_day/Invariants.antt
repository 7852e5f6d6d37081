use Rattle.std.proofs.Common.{ℕ, ◌+◌, ◌-◌, ◌<◌, ◌≤◌, max}
use Rattle.court_days.specs.Hours.{IsAccessibleDay}
use Rattle.court_days.proofs.hours.first_accessible_day.Given as goal

-- none so far qualifies, and one near the start does
abbrev pub invariant-days : goal.invariant-days
invariant-days l = record {
  reached : l.fn.start ≤ l.day;
  near : l.day ≤ max l.fn.start 47_484 + 7;
  none : (other : ℕ) → l.fn.start ≤ other → other < l.day → ¬ (IsAccessibleDay l.calendar l.zone l.direction l.instant other);
}

abbrev pub decreases-days : goal.decreases-days
decreases-days l = 741_001 - l.day
