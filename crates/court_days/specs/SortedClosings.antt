-- How short days are kept: in ascending order, each once.
use Rattle.std.specs.Prelude.{◌≡◌, ℕ, ◌<◌, ◌≤◌, List, length, slice_index_or}
use Rattle.std.specs.Ordering.{nat_cmp}
use Rattle.std.specs.FinMap.{from_entries, len}

-- the day at a place
abbrev pub day_at : List (ℕ × ℕ) → ℕ → ℕ
day_at closings place = let closing = slice_index_or closings place (0, 0) in closing.0

-- the days ascend, and each is there once
pub record IsSortedByDay (closings : List (ℕ × ℕ)) : Type 0 where
  pub ascending : (i j : ℕ) → i < j → j < length closings → day_at closings i < day_at closings j
  pub once : len (from_entries {R = nat_cmp} closings) ≡ length closings

-- the day is at the place
pub record IsAt (closings : List (ℕ × ℕ)) (day place : ℕ) : Type 0 where
  pub within : place < length closings
  pub here : day_at closings place ≡ day

-- the day is not there, and would go to the place
pub record IsGapFor (closings : List (ℕ × ℕ)) (day place : ℕ) : Type 0 where
  pub within : place ≤ length closings
  pub before : (i : ℕ) → i < place → day_at closings i < day
  pub after : (i : ℕ) → place ≤ i → i < length closings → day < day_at closings i
