use Rattle.std.proofs.Common.{Result, Err, sym, ap, subst, subst₂}
use Rattle.std.proofs.lemmas.Result.{IfOk-weaker}
use Rattle.std.specs.Cow.{cow_str_bytes}
use Rattle.sqlite_wal.specs.Files.{image_at}
use Rattle.sqlite.specs.Files.{IsCleanLeft}
use Rattle.docket_command.specs.declared.refusal.Reply.{Reply}
use Rattle.docket_applying.specs.declared.fault.Fault.{Fault}
use Rattle.docket_applying.specs.declared.fault.Fault.TheVariants.{NoMemory}
use Rattle.file_changes.specs.Commands.{AppliesTo, IsWrittenOn}
use Rattle.docket_store.specs.Left.{LeavesRows}
use Rattle.file_dockets.specs.Works.{WorksTo}
use Rattle.job_runs.specs.Imports.{TellsApplied}
use Rattle.job_runs.specs.Jobs.{Applies, FailsOr}
use Rattle.job_runs.specs.Spares.{IsWhole}
use Rattle.job_runs.proofs.AskLemmas.{refused, said_with, worked}
use Rattle.job_runs.proofs.EndLemmas.{err_holds, gives, some_left, undone, unopened_end}
use Rattle.job_runs.proofs.import.import_by.Goals as goal

pub returns-in-Ok-done_on_docket : goal.returns-in-Ok-done_on_docket
returns-in-Ok-done_on_docket g c = record {
  applied = λ docket is files.
      some_left c.with.result.left c.in-Ok-done_on_docket.left _ _ c.with.ensures.left (λ clean. (
        c.in-Ok-done_on_docket.answer,
        gives c.apply_on_file-ended.result (λ it. it.left) IsCleanLeft (λ it. it.outcome) (λ left. WorksTo (AppliesTo (LeavesRows left) docket c.args.command.now)) _ c.in-Ok-done_on_docket.left
            (c.apply_on_file-ended.ensures.applies docket is files) c.in-Ok-done_on_docket.ensures.done clean,
        subst₂ (λ text status. TellsApplied c.in-Ok-done_on_docket.answer (cow_str_bytes text) status) (sym c.with.ensures.text) (sym c.with.ensures.status) c.import_told.ensures.told,
      ));
  unopened = some_left c.with.result.left c.in-Ok-done_on_docket.left _ (λ left. Unit {0}) c.with.ensures.left tt;
  spared = worked (image_at g.S.Start) (λ left. IsWrittenOn (image_at g.S.Start) left c.args.command.now)
      (λ left. (answer : Result Reply Fault) × IsWrittenOn (image_at g.S.Start) left c.args.command.now answer × TellsApplied answer (cow_str_bytes c.with.result.text) c.with.result.status) _
      c.apply_on_file-ended.result c.in-Ok-done_on_docket.answer c.in-Ok-done_on_docket.left c.with.result c.with.ensures.left
      c.apply_on_file-ended.ensures.judged c.apply_on_file-ended.ensures.whole c.in-Ok-done_on_docket.ensures.done (λ left written. (
        c.in-Ok-done_on_docket.answer,
        written,
        subst₂ (λ text status. TellsApplied c.in-Ok-done_on_docket.answer (cow_str_bytes text) status) (sym c.with.ensures.text) (sym c.with.ensures.status) c.import_told.ensures.told,
      ));
}

pub returns-in-Err-done_on_docket : goal.returns-in-Err-done_on_docket
returns-in-Err-done_on_docket g c = record {
  applied = λ docket is files.
      let ended = c.in-Err-done_on_docket.ensures.done in
      undone c.apply_on_file-ended.result (λ it. it.left) IsCleanLeft _
      (λ left. Applies (LeavesRows left) docket c.args.command.now (cow_str_bytes c.in-Err-done_on_docket.end.text) c.in-Err-done_on_docket.end.status) _ c.in-Err-done_on_docket.end.left
      (IfOk-weaker c.apply_on_file-ended.result _ _ (λ it stays clean failed. (Err NoMemory, (is, err_holds it.outcome _ (stays clean) failed), ended.0)) (c.apply_on_file-ended.ensures.stays docket is files))
      ended.1 ended.0;
  unopened = let ended = c.in-Err-done_on_docket.ensures.done in unopened_end c.apply_on_file-ended.result (λ it. it.left) _ _ c.in-Err-done_on_docket.end.left ended.1 ended.0;
  spared =
      let ended = c.in-Err-done_on_docket.ensures.done in
      let end = c.in-Err-done_on_docket.end in
      let after = g.E.Write.contents c.done_on_docket.new.e in
      subst (λ before. FailsOr end (IsWhole c.args.path.now (image_at g.S.Start) before after end c.args.command.now)) (ap g.E.Write.contents c.in-Ok.ensures.silent)
      (refused (image_at g.S.Start) (λ left. (answer : Result Reply Fault) × IsWrittenOn (image_at g.S.Start) left c.args.command.now answer × TellsApplied answer (cow_str_bytes end.text) end.status) _
      c.apply_on_file-ended.result end c.apply_on_file-ended.ensures.judged ended.1 (said_with c.apply_on_file-ended.result _ _ _ ended.0.0 ended.0.1 c.done_on_docket.ensures.said) ended.0);
}
