-- The target of a request: its path, and its query.
use Rattle.std.specs.Prelude.{ℕ, List, length, Option, Some, None, Bool, ◌==◌, nat_lt, if◌then◌else◌}
use Rattle.std.specs.List.{before_first, after_first, position_or_len}

abbrev pub is_question_mark : ℕ → Bool
is_question_mark b = b == 63

abbrev pub is_slash : ℕ → Bool
is_slash b = b == 47

abbrev pub is_ampersand : ℕ → Bool
is_ampersand b = b == 38

-- what stands behind the first byte of a kind, where there is one
abbrev pub behind_first : (ℕ → Bool) → List ℕ → Option (List ℕ)
behind_first is_end text = if nat_lt (position_or_len is_end text) (length text) then Some (after_first is_end text) else None

-- what stands before the first question mark, or all
abbrev pub path_of : List ℕ → List ℕ
path_of target = before_first is_question_mark target

-- what stands behind the first question mark, where there is one
abbrev pub query_of : List ℕ → Option (List ℕ)
query_of target = behind_first is_question_mark target
