use Rattle.std.proofs.Common.{ℕ, List}
use Rattle.std.specs.Io.KnownBytes.{Appends, Consumes}
use Rattle.file_copies.proofs.pouring.pour.Given as goal

-- what left the reader is in the writer
abbrev pub invariant-pieces : goal.invariant-pieces
invariant-pieces g l = (moved : List ℕ)
    × Consumes (g.R.Read.remaining l.initial.reader) (g.R.Read.remaining l.reader) moved
    × Appends (g.W.Write.contents l.initial.writer) (g.W.Write.contents l.writer) moved
