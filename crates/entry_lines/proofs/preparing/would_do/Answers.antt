use Rattle.std.proofs.Common.{ℕ, refl}
use Rattle.docket_questions.proofs.TellLemmas.{none_told, passed_told, same_told, short_told}
use Rattle.entry_lines.proofs.AnswerLemmas.{as_short}
use Rattle.entry_lines.proofs.preparing.would_do.Goals as goal

pub returns-in_err-read-clause-only : goal.returns-in_err-read-clause-only
returns-in_err-read-clause-only g c serves =
    let nothing : ℕ = 0 in
    short_told g.S.Store _ _ nothing c.from_residual.result (as_short c.from_residual.result c.in_err-read.field-0.0 c.from_residual.ensures.1 c.in_err-read.ensures.short) (none_told g.S.Store _ _ nothing refl serves)

pub returns-in_err-foreseen-in-Ok-clause-only : goal.returns-in_err-foreseen-in-Ok-clause-only
returns-in_err-foreseen-in-Ok-clause-only g c serves =
    passed_told g.S.Store _ _ _ c.from_residual-in_err-foreseen-in-Ok.result c.from_residual-in_err-foreseen-in-Ok.ensures.1 c.in_err-foreseen-in-Ok.ensures.only

pub returns-in_ok-foreseen-in-Ok-clause-only : goal.returns-in_ok-foreseen-in-Ok-clause-only
returns-in_ok-foreseen-in-Ok-clause-only g c serves = same_told g.S.Store _ _ _ _ c.in_ok-foreseen-in-Ok.ensures.only

pub returns-in-Err-clause-only : goal.returns-in-Err-clause-only
returns-in-Err-clause-only g c serves = none_told g.S.Store _ _ _ refl serves
