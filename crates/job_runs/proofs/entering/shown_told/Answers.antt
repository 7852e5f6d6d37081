use Rattle.std.proofs.Common.{◌∙◌, inl, inr, subst}
use Rattle.entry_lines.specs.Preparing.{IsPrepared}
use Rattle.file_questions.specs.Tells.{AnswersTo}
use Rattle.job_runs.proofs.entering.shown_told.Goals as goal

pub returns-in-Ok-clause-told : goal.returns-in-Ok-clause-told
returns-in-Ok-clause-told g c docket entry is =
    inl (c.in-Ok.prepared, subst (AnswersTo (IsPrepared docket.court docket.history entry)) c.in-Ok.is is, c.prepared_told.ensures.told)

pub returns-in-Err-clause-told : goal.returns-in-Err-clause-told
returns-in-Err-clause-told g c docket entry is = inr (c.of.ensures.status ∙ c.failed.ensures.status, c.of.ensures.text)
