use Rattle.std.proofs.Common.{◌∙◌, sym, subst}
use Rattle.std.specs.Cow.{cow_str_bytes}
use Rattle.file_questions.specs.Checks.{IsSoundDocket}
use Rattle.job_runs.specs.Checks.{check_text}
use Rattle.job_runs.specs.Tells.{TellsText}
use Rattle.job_runs.proofs.check.check_told.Goals as goal

pub returns-in-Ok-sound_text-clause-told : goal.returns-in-Ok-sound_text-clause-told
returns-in-Ok-sound_text-clause-told g c court held is =
    subst (λ status. TellsText (check_text court held) (cow_str_bytes c.told.result.text) status) (sym c.told.ensures.status)
    (c.told.ensures.text ∙ c.in-Ok-sound_text.ensures court held (subst (IsSoundDocket court held) c.in-Ok.is is))
