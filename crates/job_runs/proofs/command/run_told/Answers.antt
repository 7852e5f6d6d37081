use Rattle.std.proofs.Common.{◌≡◌, ◌∙◌, ℕ, List, Option, IfOk, IfSome, sym, ap, subst₂}
use Rattle.sqlite.specs.Files.{IsCleanLeft}
use Rattle.docket_store.specs.Left.{LeavesRows}
use Rattle.file_changes.specs.Runs.{Answers, LeavesPrefix}
use Rattle.file_dockets.specs.Works.{WorksTo}
use Rattle.job_runs.proofs.EndLemmas.{unbegun}
use Rattle.job_runs.proofs.command.run_told.Goals as goal

pub returns-clause-runs : goal.returns-clause-runs
returns-clause-runs g c told is files =
    subst₂ (λ before after. IfOk c.run_on_file-ended.result (λ done. IsCleanLeft done.left → IfSome (g.R.Read.remaining c.args.r.now) (λ input.
    WorksTo (Answers (LeavesRows done.left) told input before after) done.outcome)))
    (ap g.W.Write.contents c.new-answers.ensures) (ap g.W.Write.contents (sym c.finish.ensures)) (c.run_on_file-ended.ensures.runs told is files)

pub returns-clause-prefix : goal.returns-clause-prefix
returns-clause-prefix g c told is files =
    subst₂ (λ before after. IfOk c.run_on_file-ended.result (λ done. IsCleanLeft done.left → IfSome (g.R.Read.remaining c.args.r.now) (λ input.
    LeavesPrefix (LeavesRows done.left) told input before after)))
    (ap g.W.Write.contents c.new-answers.ensures) (ap g.W.Write.contents (sym c.finish.ensures)) (c.run_on_file-ended.ensures.prefix told is files)

same_contents : {X W : Type 0} (old new : X) (answers_of : X → W) (contents : W → Option (List ℕ)) (before after : W)
    → answers_of old ≡ before → new ≡ old → after ≡ answers_of new → contents after ≡ contents before
same_contents old new answers_of contents before after begun same ended = ap contents (ended ∙ ap answers_of same ∙ begun)

pub returns-clause-unwritten : goal.returns-clause-unwritten
returns-clause-unwritten g c =
    let ended = c.run_on_file-ended in
    unbegun ended.result (λ it. it.outcome) ((ended.new.reader ≡ c.args.r.now) × (ended.new.writer ≡ c.new-answers.result)) _ (λ same.
    same_contents c.new-answers.result ended.new.writer (λ it. it.answers) g.W.Write.contents c.args.w c.finish.result c.new-answers.ensures same.1 c.finish.ensures)
    ended.ensures.unread
