use Rattle.std.proofs.lemmas.Result.{IfOk-weaker}
use Rattle.file_changes.proofs.MigrateLemmas.{migrated_on, told_on}
use Rattle.file_changes.proofs.file.migrate_on_file.Goals as goal

pub returns-clause-migrated : goal.returns-clause-migrated
returns-clause-migrated g c told is known files =
    IfOk-weaker c.work_on_file.result _ _ (λ ended done. migrated_on _ ended.outcome ended.left told done is known files) c.work_on_file.ensures.done

pub returns-clause-told : goal.returns-clause-told
returns-clause-told g c = IfOk-weaker c.work_on_file.result _ _ (λ ended. told_on _ ended.left ended.outcome) c.work_on_file.ensures.done

pub returns-clause-unopened : goal.returns-clause-unopened
returns-clause-unopened g c = c.work_on_file.ensures.unopened
