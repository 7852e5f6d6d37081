use Rattle.std.proofs.Common.{◌≡◌, ◌∙◌, ap, subst}
use Rattle.sqlite_wal.specs.Files.{image_at}
use Rattle.sqlite.specs.Files.{IsCleanLeft}
use Rattle.docket_store.specs.Left.{LeavesRows}
use Rattle.job_runs.specs.Spares.{SparesRun}
use Rattle.job_runs.proofs.AskLemmas.{no_more, refused, said_unwritten, worked}
use Rattle.job_runs.proofs.EndLemmas.{some_left, unopened}
use Rattle.job_runs.proofs.RunLemmas.{not_run, ran}
use Rattle.job_runs.proofs.command.run_commands.Goals as goal

pub returns-in-Ok-done_on_docket-clause-runs : goal.returns-in-Ok-done_on_docket-clause-runs
returns-in-Ok-done_on_docket-clause-runs g c docket is files =
    ran c.run_told-ended.result.0 (λ it. it.left) IsCleanLeft (λ it. it.outcome) (λ left. LeavesRows left) docket (g.R.Read.remaining c.args.r.now)
    (g.W.Write.contents c.args.w) (g.W.Write.contents c.run_told-ended.result.1) (g.W.Write.contents c.tell_end-status.new.w)
    c.in-Ok-done_on_docket.end c.in-Ok-done_on_docket.left c.with.result.left _ c.tell_end-status.result c.with.result.status
    (c.run_told-ended.ensures.runs docket is files) (c.run_told-ended.ensures.prefix docket is files) c.in-Ok-done_on_docket.ensures.done c.tell_end-status.ensures
    (c.with.ensures.status ∙ c.of-in-Ok-done_on_docket.ensures.status) c.with.ensures.left

pub returns-in-Err-done_on_docket-clause-runs : goal.returns-in-Err-done_on_docket-clause-runs
returns-in-Err-done_on_docket-clause-runs g c docket is files =
    let ended = c.in-Err-done_on_docket.ensures.done in
    not_run c.run_told-ended.result.0 (λ it. it.left) IsCleanLeft (λ it. it.outcome) (λ left. LeavesRows left) docket (g.R.Read.remaining c.args.r.now)
    (g.W.Write.contents c.args.w) (g.W.Write.contents c.run_told-ended.result.1) c.in-Err-done_on_docket.end.left _ c.in-Err-done_on_docket.end.status
    (c.run_told-ended.ensures.prefix docket is files) ended.1 ended.0 ended.0.0

pub returns-in-Ok-done_on_docket-clause-unopened : goal.returns-in-Ok-done_on_docket-clause-unopened
returns-in-Ok-done_on_docket-clause-unopened g c =
    some_left c.with.result.left c.in-Ok-done_on_docket.left (g.W.Write.contents c.tell_end-status.new.w ≡ g.W.Write.contents c.args.w) (λ left. Unit {0}) c.with.ensures.left tt

pub returns-in-Err-done_on_docket-clause-unopened : goal.returns-in-Err-done_on_docket-clause-unopened
returns-in-Err-done_on_docket-clause-unopened g c =
    unopened c.run_told-ended.result.0 (λ it. it.left) (λ it. it.outcome) _ c.in-Err-done_on_docket.end.left c.run_told-ended.ensures.unwritten c.in-Err-done_on_docket.ensures.done.1

pub returns-in-Ok-done_on_docket-clause-spared : goal.returns-in-Ok-done_on_docket-clause-spared
returns-in-Ok-done_on_docket-clause-spared g c =
    worked _ (λ left end. Unit {0}) (λ left. Unit {0}) _ c.run_told-ended.result.0 c.in-Ok-done_on_docket.end c.in-Ok-done_on_docket.left c.with.result c.with.ensures.left
    c.run_told-ended.ensures.judged (no_more c.run_told-ended.result.0) c.in-Ok-done_on_docket.ensures.done (λ left it. it)

pub returns-in-Err-done_on_docket-clause-spared : goal.returns-in-Err-done_on_docket-clause-spared
returns-in-Err-done_on_docket-clause-spared g c =
    let ended = c.in-Err-done_on_docket.ensures.done in
    let same = g.W.Write.contents c.run_told-ended.result.1 ≡ g.W.Write.contents c.args.w in
    subst (λ before. SparesRun c.args.path.now (image_at g.S.Start) before (g.E.Write.contents c.done_on_docket.new.e) c.in-Err-done_on_docket.end same) (ap g.E.Write.contents c.in-Ok.ensures.silent)
    (refused _ (λ left. Unit {0}) _ c.run_told-ended.result.0 c.in-Err-done_on_docket.end c.run_told-ended.ensures.judged ended.1
    (said_unwritten c.run_told-ended.result.0 _ _ same ended.0.0 c.done_on_docket.ensures.said c.run_told-ended.ensures.unwritten) ended.0)
