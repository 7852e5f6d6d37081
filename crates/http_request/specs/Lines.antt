-- Where a head ends, in lines: there are empty ones in front or none, then one or more that are not empty, then an empty one. A line ends
-- with LF, and a CR before it is dropped (RFC 9112, section 2.2).
use Rattle.std.specs.Prelude.{◌≡◌, ◌≢◌, ◌⊎◌, ℕ, ◌<◌, ◌≤◌, List, [], ◌∷◌, ◌++◌, length}
use Rattle.std.specs.List.{flat_map, AllByRecursion}

-- nothing stands before the LF of an empty line, or one CR
abbrev pub IsEmptyLine : List ℕ → Type 0
IsEmptyLine line = (line ≡ []) ⊎ (line ≡ 13 ∷ [])

pub record IsFilledLine (line : List ℕ) : Type 0 where
  pub no_feed : AllByRecursion (λ b. b ≢ 10) line
  pub not_empty : ¬ IsEmptyLine line

-- the line with its LF
abbrev pub ended : List ℕ → List ℕ
ended line = line ++ 10 ∷ []

pub record IsHead (bytes : List ℕ) : Type 0 where
  pub leading : List (List ℕ)
  pub filled : List (List ℕ)
  pub last : List ℕ
  pub leading_empty : AllByRecursion IsEmptyLine leading
  pub filled_so : AllByRecursion IsFilledLine filled
  pub some_filled : 0 < length filled
  pub last_empty : IsEmptyLine last
  pub lines : bytes ≡ flat_map ended leading ++ (flat_map ended filled ++ ended last)

-- a head of at most 8,192 bytes and 65 lines that are not empty
pub record IsHeadWithin (bytes : List ℕ) : Type 0 where
  pub head : IsHead bytes
  pub short : length bytes ≤ 8192
  pub few : length head.filled < 66
