use Rattle.std.proofs.lemmas.Result.{IfOk-weaker}
use Rattle.file_dockets.proofs.AdoptLemmas.{judged_on}
use Rattle.file_changes.proofs.EnterLemmas.{enters_on, unentered_on}
use Rattle.file_changes.proofs.file.enter_on_file.Goals as goal

pub returns-clause-enters : goal.returns-clause-enters
returns-clause-enters g c told is files =
    IfOk-weaker c.work_on_file.result _ _ (λ ended done. enters_on _ _ _ _ ended.failure ended.outcome ended.left told done is files) c.work_on_file.ensures.done

pub returns-clause-stays : goal.returns-clause-stays
returns-clause-stays g c told is files =
    IfOk-weaker c.work_on_file.result _ _ (λ ended done. unentered_on _ _ _ _ ended.failure ended.outcome ended.left told done is files) c.work_on_file.ensures.done

pub returns-clause-judged : goal.returns-clause-judged
returns-clause-judged g c = IfOk-weaker c.work_on_file.result _ _ (λ ended done. judged_on _ _ ended.failure ended.outcome ended.left done done.comes.adopts) c.work_on_file.ensures.done

pub returns-clause-unopened : goal.returns-clause-unopened
returns-clause-unopened g c = c.work_on_file.ensures.unopened
