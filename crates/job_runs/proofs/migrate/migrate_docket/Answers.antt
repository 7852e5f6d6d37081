use Rattle.std.proofs.Common.{◌∙◌, IsErr, MatchOption, ap, refl, sym, subst}
use Rattle.std.proofs.lemmas.Result.{IfOk-weaker}
use Rattle.std.specs.Cow.{cow_str_bytes}
use Rattle.sqlite.specs.Files.{IsCleanLeft}
use Rattle.sqlite_wal.specs.Files.{image_at}
use Rattle.file_changes.specs.Migrates.{IsMigrated, MigratesTo}
use Rattle.job_ends.specs.Ends.{SaysUnopened}
use Rattle.job_runs.specs.Jobs.{FailsOr, Migrates}
use Rattle.job_runs.specs.Spares.{Moves}
use Rattle.job_runs.proofs.EndLemmas.{gives, of_both, of_fault, undone, unopened_told}
use Rattle.job_runs.proofs.ToldLemmas.{unmoved_told}
use Rattle.job_runs.proofs.migrate.migrate_docket.Goals as goal

pub returns-in-Ok-done_on_docket : goal.returns-in-Ok-done_on_docket
returns-in-Ok-done_on_docket g c = record {
  migrated = λ docket is may files clean. (
    refl,
    gives c.migrate_on_file.result (λ it. it.left) IsCleanLeft (λ it. it.outcome) (λ left. MigratesTo left docket) _ c.in-Ok-done_on_docket.left
        (c.migrate_on_file.ensures.migrated docket is may files) c.in-Ok-done_on_docket.ensures.done clean,
  );
  unopened = tt;
  spared = λ clean. (
    ap g.E.Write.contents (c.in-Ok-done_on_docket.ensures.silent ∙ c.in-Ok.ensures.silent),
    gives c.migrate_on_file.result (λ it. it.left) IsCleanLeft (λ it. it.outcome) (λ left. IsMigrated (image_at g.S.Start) left) _ c.in-Ok-done_on_docket.left c.migrate_on_file.ensures.told
        c.in-Ok-done_on_docket.ensures.done clean,
  );
}

pub returns-in-Err-done_on_docket : goal.returns-in-Err-done_on_docket
returns-in-Err-done_on_docket g c = record {
  migrated = λ docket is may files.
      let ended = c.in-Err-done_on_docket.ensures.done in
      undone c.migrate_on_file.result (λ it. it.left) IsCleanLeft _ (λ left. Migrates docket left (cow_str_bytes c.in-Err-done_on_docket.end.text) c.in-Err-done_on_docket.end.status) _ c.in-Err-done_on_docket.end.left
      (IfOk-weaker c.migrate_on_file.result _ _ (λ it migrated clean failed.
      subst (Migrates docket it.left (cow_str_bytes c.in-Err-done_on_docket.end.text)) (sym ended.0.0) (ended.0.1, of_fault it.outcome (MigratesTo it.left docket) (migrated clean) failed))
      (c.migrate_on_file.ensures.migrated docket is may files)) ended.1 ended.0;
  unopened =
      subst (λ before. MatchOption c.in-Err-done_on_docket.end.left (SaysUnopened c.args.path.now before (g.E.Write.contents c.done_on_docket.new.e)) (λ _. Unit {0}))
      (ap g.E.Write.contents c.in-Ok.ensures.silent)
      (unopened_told c.migrate_on_file.result (λ it. it.left) _ _ _ c.done_on_docket.ensures.unopened c.in-Err-done_on_docket.ensures.done.1);
  spared =
      let ended = c.in-Err-done_on_docket.ensures.done in
      let end = c.in-Err-done_on_docket.end in
      let files = image_at g.S.Start in
      let before = g.E.Write.contents c.ready.new.e in
      let after = g.E.Write.contents c.done_on_docket.new.e in
      subst (λ before. FailsOr end (λ left. Moves c.args.path.now files before after left end.status)) (ap g.E.Write.contents c.in-Ok.ensures.silent)
      (undone c.migrate_on_file.result (λ it. it.left) IsCleanLeft (λ it. IsErr it.outcome) (λ left. Moves c.args.path.now files before after left end.status) _ end.left
      (of_both c.migrate_on_file.result _ _ _ (λ it said migrated clean failed.
      unmoved_told c.args.path.now files before after it.left end.status it.outcome ended.0.0 said (migrated clean) failed)
      c.done_on_docket.ensures.said c.migrate_on_file.ensures.told) ended.1 ended.0);
}
