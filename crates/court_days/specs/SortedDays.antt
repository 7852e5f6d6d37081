-- How a set of days is kept: in ascending order, each once.
use Rattle.std.specs.Prelude.{◌≡◌, ℕ, List, length}
use Rattle.std.specs.Ordering.{nat_cmp}
use Rattle.std.specs.FinSet.{from_list, len}
use Rattle.std.specs.List.Sorted.{IsNonDecreasing}

-- the days ascend, and each is there once
pub record IsSortedDays (days : List ℕ) : Type 0 where
  pub ascending : IsNonDecreasing days
  pub once : len (from_list {R = nat_cmp} days) ≡ length days
