use Rattle.std.proofs.lemmas.Result.{IfOk-weaker}
use Rattle.file_changes.proofs.StandLemmas.{found_on, made_on}
use Rattle.file_changes.proofs.file.create_on_file.Goals as goal

pub returns-clause-made : goal.returns-clause-made
returns-clause-made g c = IfOk-weaker c.work_on_file.result _ _ (λ ended. made_on _ c.args.court ended.outcome ended.left) c.work_on_file.ensures.done

pub returns-clause-stays : goal.returns-clause-stays
returns-clause-stays g c v rows files =
    IfOk-weaker c.work_on_file.result _ _ (λ ended done. found_on _ c.args.court v rows ended.outcome ended.left done files) c.work_on_file.ensures.done

pub returns-clause-unopened : goal.returns-clause-unopened
returns-clause-unopened g c = c.work_on_file.ensures.unopened
