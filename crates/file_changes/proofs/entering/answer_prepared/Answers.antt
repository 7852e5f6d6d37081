use Rattle.std.proofs.Common.{ℕ, List, subst}
use Rattle.file_dockets.specs.Keeping.{HoldsBetween}
use Rattle.file_changes.specs.Runs.{Answers}
use Rattle.file_changes.proofs.entering.answer_prepared.Goals as goal

pub returns-clause-answers : goal.returns-clause-answers
returns-clause-answers g c told stands clean =
    let lines = c.answer_lines in
    subst (λ (input : List ℕ). Answers (HoldsBetween g.S.Store lines.result.1) told input (g.W.Write.contents c.args.writer.now) (g.W.Write.contents lines.new.writer) lines.result.0)
    c.line_of-line.ensures (lines.ensures.answers told stands clean)
