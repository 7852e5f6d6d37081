use Rattle.std.proofs.lemmas.Result.{IfOk-weaker}
use Rattle.file_dockets.proofs.AdoptLemmas.{judged_on}
use Rattle.file_changes.proofs.RunLemmas.{prefix_on, runs_on}
use Rattle.file_changes.proofs.file.run_on_file.Goals as goal

pub returns-clause-runs : goal.returns-clause-runs
returns-clause-runs g c told is files =
    IfOk-weaker c.work_on_file.result _ _ (λ ended done. runs_on _ _ _ _ ended.failure ended.outcome ended.left told done is files) c.work_on_file.ensures.done

pub returns-clause-prefix : goal.returns-clause-prefix
returns-clause-prefix g c told is files =
    IfOk-weaker c.work_on_file.result _ _ (λ ended done. prefix_on _ _ _ _ ended.failure ended.outcome ended.left told done is files) c.work_on_file.ensures.done

pub returns-clause-judged : goal.returns-clause-judged
returns-clause-judged g c = IfOk-weaker c.work_on_file.result _ _ (λ ended done. judged_on _ _ ended.failure ended.outcome ended.left done done.comes.adopts) c.work_on_file.ensures.done

pub returns-clause-unopened : goal.returns-clause-unopened
returns-clause-unopened g c = c.work_on_file.ensures.unopened

pub returns-clause-unread : goal.returns-clause-unread
returns-clause-unread g c = c.work_on_file.ensures.unread
