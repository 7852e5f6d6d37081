-- The pairs of fields, one after another.
use Rattle.std.proofs.Common.{ℕ, List, ◌++◌, Result, Ok, Err}
use Rattle.entry_lines.specs.declared.entry.Unnamed.{Unnamed}

-- pairs behind others
abbrev pub behind : List (List ℕ × List ℕ) → Result (List (List ℕ × List ℕ)) Unnamed → Result (List (List ℕ × List ℕ)) Unnamed
behind before (Ok pairs) = Ok (before ++ pairs)
behind before (Err why) = Err why
