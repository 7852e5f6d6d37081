-- How many rows of each case were taken, kept as one number a case.
use Rattle.std.specs.Prelude.{◌≡◌, ℕ, zero, suc, ◌+◌, ◌-◌, List, length, slice_get, get_or, Option, Some, None, Bool, false, ◌&&◌, ◌==◌, nat_lt}
use Rattle.docket_sound.specs.Numbers.{AreNumbered, numbers_in}
use Rattle.docket_sound.specs.declared.numbering.Key.{Key}
use Rattle.docket_sound.specs.declared.numbering.Numbering.{Numbering}

-- place 0 is no case's
abbrev pub count_at : List ℕ → ℕ → Option ℕ
count_at counts zero = None
count_at counts (suc k) = slice_get counts (suc k)

-- how many rows of the case were taken, if there is such a case
abbrev pub count_of : Numbering → ℕ → Option ℕ
count_of n k = count_at n.counts.items k

-- the same number, or 0
abbrev pub counts_of : Numbering → ℕ → ℕ
counts_of n k = get_or n.counts.items k 0

abbrev pub cases_of : Numbering → ℕ
cases_of n = length n.counts.items - 1

abbrev pub most_of : Numbering → ℕ
most_of n = n.most

-- the number is the next after so many, and there is room for it
abbrev pub follows : ℕ → ℕ → Option ℕ → Bool
follows most number None = false
follows most number (Some count) = nat_lt count most && number == count + 1

-- the row may come next: its number is the next in its case, which has room
abbrev pub is_next : Numbering → Key → Bool
is_next n key = follows n.most key.number (count_of n key.case)

-- these rows were taken: they are numbered, and counted
pub record HasNumbered (n : Numbering) (keys : List Key) : Type 0 where
  pub made : length n.counts.items ≡ cases_of n + 1
  pub numbered : AreNumbered (cases_of n) (most_of n) keys
  pub counted : (k : ℕ) → counts_of n k ≡ length (numbers_in k keys)
