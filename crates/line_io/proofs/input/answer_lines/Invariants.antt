use Rattle.std.proofs.Common.{◌≡◌, ◌+◌, ◌*◌, ◌≤◌, [], ℕ, List, vec_len}
use Rattle.std.specs.Io.KnownBytes.{Consumes}
use Rattle.line_io.specs.Report.{within}
use Rattle.line_io.specs.Steps.{Reaches}
use Rattle.line_io.specs.Progress.{Takes}
use Rattle.line_io.proofs.input.answer_lines.Given as goal

-- what came so far was taken, and nothing is pending
abbrev pub invariant-reads : goal.invariant-reads
invariant-reads g l =
    let now = l.progress in
    (came : List ℕ) × Consumes (g.R.Read.remaining l.fn.reader) (g.R.Read.remaining l.reader) came
    × (vec_len now.kept ≤ g.A.Answerer.LIMIT + 2)
    × (now.pending.items ≡ [])
    × (now.counts.bad ≤ now.counts.lines)
    × (now.counts.lines ≤ 16_384 * l.counter)
    × Reaches g.A.Answerer.Steps l.fn.answerer l.answerer
    × (g.A.Answerer.Trusts l.answerer → g.A.Answerer.Trusts l.fn.answerer)
    × ((s : g.A.Answerer.State) → g.A.Answerer.Shows l.fn.answerer s → g.A.Answerer.Trusts l.answerer
    → Takes (within g.A.Answerer.LIMIT g.A.Answerer.answer_to g.A.Answerer.too_long) (g.A.Answerer.Shows l.answerer) (g.A.Answerer.LIMIT + 2) s [] came now.kept.items
    (g.W.Write.contents l.fn.writer) (g.W.Write.contents l.writer) [] now.pending.items 0 0 now.counts.lines now.counts.bad)
