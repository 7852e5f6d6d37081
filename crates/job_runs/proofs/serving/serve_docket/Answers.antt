use Rattle.std.proofs.Common.{◌≡◌, ◌∙◌, ap, subst}
use Rattle.sqlite_wal.specs.Files.{image_at}
use Rattle.file_serving.specs.declared.serving.Service.{Service}
use Rattle.job_ends.specs.Ends.{SaysFault, unadopted_at}
use Rattle.job_runs.specs.Jobs.{FailsOr}
use Rattle.job_runs.specs.Serving.{EndsServing}
use Rattle.job_runs.specs.Spares.{SparesRun}
use Rattle.job_runs.proofs.AskLemmas.{no_more, refused, worked}
use Rattle.job_runs.proofs.EndLemmas.{some_left, unbegun, unopened}
use Rattle.job_runs.proofs.ServingLemmas.{said_unserved, served, unserved}
use Rattle.job_runs.proofs.serving.serve_docket.Goals as goal

pub returns-in-Ok-done_on_docket-clause-serves : goal.returns-in-Ok-done_on_docket-clause-serves
returns-in-Ok-done_on_docket-clause-serves g c asked same docket is files =
    subst (λ (s : Service). FailsOr c.with.result (λ left. EndsServing docket s left c.with.result.status)) same
    (served docket c.args.service.now c.serve_on_file-ended.result c.in-Ok-done_on_docket.end c.in-Ok-done_on_docket.left c.with.result.left _ c.serving_told.result c.with.result.status
    (c.serve_on_file-ended.ensures.serves docket is files) c.in-Ok-done_on_docket.ensures.done c.serving_told.ensures (c.with.ensures.status ∙ c.of-in-Ok-done_on_docket.ensures.status) c.with.ensures.left)

pub returns-in-Err-done_on_docket-clause-serves : goal.returns-in-Err-done_on_docket-clause-serves
returns-in-Err-done_on_docket-clause-serves g c asked same docket is files =
    let ended = c.in-Err-done_on_docket.ensures.done in
    unserved docket asked c.serve_on_file-ended.result c.in-Err-done_on_docket.end.left _ c.in-Err-done_on_docket.end.status (c.serve_on_file-ended.ensures.stays docket files) ended.1 ended.0 ended.0.0

pub returns-in-Ok-done_on_docket-clause-unopened : goal.returns-in-Ok-done_on_docket-clause-unopened
returns-in-Ok-done_on_docket-clause-unopened g c =
    some_left c.with.result.left c.in-Ok-done_on_docket.left _ (λ left. Unit {0}) c.with.ensures.left tt

pub returns-in-Err-done_on_docket-clause-unopened : goal.returns-in-Err-done_on_docket-clause-unopened
returns-in-Err-done_on_docket-clause-unopened g c =
    unopened c.serve_on_file-ended.result (λ it. it.left) (λ it. it.outcome) _ c.in-Err-done_on_docket.end.left
    (unbegun c.serve_on_file-ended.result (λ it. it.outcome) _ _ (λ same. ap g.W.Write.contents same.0) c.serve_on_file-ended.ensures.unserved) c.in-Err-done_on_docket.ensures.done.1

pub returns-in-Ok-done_on_docket-clause-spared : goal.returns-in-Ok-done_on_docket-clause-spared
returns-in-Ok-done_on_docket-clause-spared g c =
    worked _ (λ left end. Unit {0}) (λ left. Unit {0}) _ c.serve_on_file-ended.result c.in-Ok-done_on_docket.end c.in-Ok-done_on_docket.left c.with.result c.with.ensures.left
    c.serve_on_file-ended.ensures.judged (no_more c.serve_on_file-ended.result) c.in-Ok-done_on_docket.ensures.done (λ left it. it)

pub returns-in-Err-done_on_docket-clause-spared : goal.returns-in-Err-done_on_docket-clause-spared
returns-in-Err-done_on_docket-clause-spared g c =
    let ended = c.in-Err-done_on_docket.ensures.done in
    let same = g.W.Write.contents c.serve_on_file-ended.new.w ≡ g.W.Write.contents c.args.w.now in
    subst (λ before. SparesRun c.args.path.now (image_at g.S.Start) before (g.E.Write.contents c.done_on_docket.new.e) c.in-Err-done_on_docket.end same) (ap g.E.Write.contents c.in-Ok.ensures.silent)
    (refused _ (λ left. Unit {0}) _ c.serve_on_file-ended.result c.in-Err-done_on_docket.end c.serve_on_file-ended.ensures.judged ended.1
    (said_unserved c.serve_on_file-ended.result _ same (λ e fault. SaysFault (unadopted_at c.args.path.now fault) (g.E.Write.contents e) (g.E.Write.contents c.done_on_docket.new.e)) _ _ _ (λ untouched. ap g.W.Write.contents untouched) ended.0.0
    c.done_on_docket.ensures.said c.serve_on_file-ended.ensures.unserved) ended.0)
