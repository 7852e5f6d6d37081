use Rattle.std.proofs.lemmas.Result.{IfOk-weaker}
use Rattle.file_dockets.proofs.AdoptLemmas.{judged_on}
use Rattle.file_questions.proofs.AskLemmas.{stays_on, told_on}
use Rattle.file_questions.proofs.inquiry.ask_on_file.Goals as goal

pub returns-clause-told : goal.returns-clause-told
returns-clause-told g c told is files =
    IfOk-weaker c.work_on_file.result _ _ (λ ended done clean. told_on _ _ ended.failure ended.outcome ended.left done clean told is files) c.work_on_file.ensures.done

pub returns-clause-only : goal.returns-clause-only
returns-clause-only g c = record {
  stays = λ rows files.
      IfOk-weaker c.work_on_file.result _ _ (λ ended done clean. stays_on _ _ ended.failure ended.outcome ended.left done clean rows files) c.work_on_file.ensures.done;
  judged = IfOk-weaker c.work_on_file.result _ _ (λ ended done. judged_on _ _ ended.failure ended.outcome ended.left done done.comes.adopts) c.work_on_file.ensures.done;
  unopened = c.work_on_file.ensures.unopened;
}
