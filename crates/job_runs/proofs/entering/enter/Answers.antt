use Rattle.std.proofs.Common.{◌≡◌, ◌∙◌, Err, sym, ap, subst}
use Rattle.std.proofs.lemmas.Result.{IfOk-weaker}
use Rattle.sqlite_wal.specs.Files.{image_at}
use Rattle.sqlite.specs.Files.{IsCleanLeft}
use Rattle.docket_store.specs.Left.{LeavesRows}
use Rattle.file_changes.specs.Entering.{Enters as Becomes}
use Rattle.file_dockets.specs.Works.{WorksTo}
use Rattle.job_runs.specs.Jobs.{Enters}
use Rattle.job_runs.specs.Spares.{SparesRun}
use Rattle.job_runs.proofs.AskLemmas.{if_unopened, no_more, refused, said_with, unwritten, worked}
use Rattle.job_runs.proofs.EndLemmas.{err_holds, gives, some_left, undone}
use Rattle.job_runs.proofs.EnterLemmas.{told_entry, unentered}
use Rattle.job_runs.proofs.entering.enter.Goals as goal

pub returns-in-Ok-done_on_docket-clause-enters : goal.returns-in-Ok-done_on_docket-clause-enters
returns-in-Ok-done_on_docket-clause-enters g c docket is files =
    let before = g.W.Write.contents c.args.w.now in
    let mid = g.W.Write.contents c.enter_on_file-ended.new.writer in
    let after = g.W.Write.contents c.tell_entry-status.new.w in
    let left = c.in-Ok-done_on_docket.left in
    some_left c.with.result.left left _ _ c.with.ensures.left (λ clean.
    subst (Enters (LeavesRows left) docket c.args.entry.now before after) (sym (c.with.ensures.status ∙ c.of-in-Ok-done_on_docket.ensures.status))
    (told_entry (LeavesRows left) docket c.args.entry.now before mid after c.in-Ok-done_on_docket.entered c.tell_entry-status.result
    (gives c.enter_on_file-ended.result (λ it. it.left) IsCleanLeft (λ it. it.outcome) (λ rest. WorksTo (Becomes (LeavesRows rest) docket c.args.entry.now before mid)) _ left
    (c.enter_on_file-ended.ensures.enters docket is files) c.in-Ok-done_on_docket.ensures.done clean) c.tell_entry-status.ensures))

pub returns-in-Err-done_on_docket-clause-enters : goal.returns-in-Err-done_on_docket-clause-enters
returns-in-Err-done_on_docket-clause-enters g c docket is files =
    let before = g.W.Write.contents c.args.w.now in
    let after = g.W.Write.contents c.enter_on_file-ended.new.writer in
    let end = c.in-Err-done_on_docket.end in
    let ended = c.in-Err-done_on_docket.ensures.done in
    let kept = unwritten c.enter_on_file-ended.result (Err end) (c.enter_on_file-ended.new.writer ≡ c.args.w.now) c.enter_on_file-ended.ensures.unwritten ended in
    undone c.enter_on_file-ended.result (λ it. it.left) IsCleanLeft _ (λ left. Enters (LeavesRows left) docket c.args.entry.now before after end.status) _ end.left
    (IfOk-weaker c.enter_on_file-ended.result _ _ (λ it stays clean failed.
    unentered (LeavesRows it.left) docket c.args.entry.now before after end.status ended.0.0 (ap g.W.Write.contents kept) (err_holds it.outcome _ (stays clean) failed))
    (c.enter_on_file-ended.ensures.stays docket is files)) ended.1 ended.0

pub returns-in-Ok-done_on_docket-clause-unopened : goal.returns-in-Ok-done_on_docket-clause-unopened
returns-in-Ok-done_on_docket-clause-unopened g c =
    some_left c.with.result.left c.in-Ok-done_on_docket.left (g.W.Write.contents c.tell_entry-status.new.w ≡ g.W.Write.contents c.args.w.now) (λ left. Unit {0}) c.with.ensures.left tt

pub returns-in-Err-done_on_docket-clause-unopened : goal.returns-in-Err-done_on_docket-clause-unopened
returns-in-Err-done_on_docket-clause-unopened g c =
    let end = c.in-Err-done_on_docket.end in
    let kept = unwritten c.enter_on_file-ended.result (Err end) (c.enter_on_file-ended.new.writer ≡ c.args.w.now) c.enter_on_file-ended.ensures.unwritten c.in-Err-done_on_docket.ensures.done in
    if_unopened end.left _ (ap g.W.Write.contents kept)

pub returns-in-Ok-done_on_docket-clause-spared : goal.returns-in-Ok-done_on_docket-clause-spared
returns-in-Ok-done_on_docket-clause-spared g c =
    worked _ (λ left end. Unit {0}) (λ left. Unit {0}) _ c.enter_on_file-ended.result c.in-Ok-done_on_docket.entered c.in-Ok-done_on_docket.left c.with.result c.with.ensures.left
    c.enter_on_file-ended.ensures.judged (no_more c.enter_on_file-ended.result) c.in-Ok-done_on_docket.ensures.done (λ left it. it)

pub returns-in-Err-done_on_docket-clause-spared : goal.returns-in-Err-done_on_docket-clause-spared
returns-in-Err-done_on_docket-clause-spared g c =
    let end = c.in-Err-done_on_docket.end in
    let ended = c.in-Err-done_on_docket.ensures.done in
    let kept = unwritten c.enter_on_file-ended.result (Err end) (c.enter_on_file-ended.new.writer ≡ c.args.w.now) c.enter_on_file-ended.ensures.unwritten ended in
    let same = g.W.Write.contents c.enter_on_file-ended.new.writer ≡ g.W.Write.contents c.args.w.now in
    subst (λ before. SparesRun c.args.path.now (image_at g.S.Start) before (g.E.Write.contents c.done_on_docket.new.e) end same) (ap g.E.Write.contents c.in-Ok.ensures.silent)
    (refused _ (λ left. Unit {0}) _ c.enter_on_file-ended.result end c.enter_on_file-ended.ensures.judged ended.1
    (said_with c.enter_on_file-ended.result _ _ same ended.0.0 (ap g.W.Write.contents kept) c.done_on_docket.ensures.said) ended.0)
