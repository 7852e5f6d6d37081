use Rattle.std.proofs.Common.{◌≡◌, ◌+◌, ◌≤◌, ◌++◌, ℕ, List, length, take, vec_len}
use Rattle.line_io.specs.Report.{within}
use Rattle.line_io.specs.Steps.{Reaches}
use Rattle.line_io.specs.Progress.{Takes}
use Rattle.line_io.proofs.input.take_piece.Given as goal

-- what was taken of the piece so far
abbrev pub invariant-lines : goal.invariant-lines
invariant-lines g l =
    let old = l.fn.progress in
    let now = l.progress in
    (done : List ℕ) × (l.piece ≡ done ++ l.rest)
    × (vec_len now.kept ≤ g.A.Answerer.LIMIT + 2)
    × (length now.pending.items ≤ g.A.Answerer.MAX_PENDING)
    × (now.counts.bad ≤ now.counts.lines)
    × (now.counts.lines ≤ old.counts.lines + length done)
    × Reaches g.A.Answerer.Steps l.fn.answerer l.answerer
    × (g.A.Answerer.Trusts l.answerer → g.A.Answerer.Trusts l.fn.answerer)
    × ((s : g.A.Answerer.State) (part : List ℕ) → g.A.Answerer.Shows l.fn.answerer s → g.A.Answerer.Trusts l.answerer → old.kept.items ≡ take (g.A.Answerer.LIMIT + 2) part
    → Takes (within g.A.Answerer.LIMIT g.A.Answerer.answer_to g.A.Answerer.too_long) (g.A.Answerer.Shows l.answerer) (g.A.Answerer.LIMIT + 2) s part done now.kept.items
    (g.W.Write.contents l.fn.writer) (g.W.Write.contents l.writer) old.pending.items now.pending.items
    old.counts.lines old.counts.bad now.counts.lines now.counts.bad)

abbrev pub decreases-lines : goal.decreases-lines
decreases-lines g l = length l.rest
