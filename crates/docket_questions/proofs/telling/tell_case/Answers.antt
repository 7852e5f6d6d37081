use Rattle.docket_questions.proofs.TellLemmas.{passed_told, same_told, short_told, then_told}
use Rattle.docket_questions.proofs.telling.tell_case.Goals as goal

pub returns-in_err-case-clause-only : goal.returns-in_err-case-clause-only
returns-in_err-case-clause-only g c = passed_told g.S.Store _ _ _ c.from_residual.result c.from_residual.ensures.1 c.in_err-case.ensures.only

pub returns-in_default-clause-only : goal.returns-in_default-clause-only
returns-in_default-clause-only g c = same_told g.S.Store _ _ _ _ c.in_ok-case.ensures.only

pub returns-in_err-lines-clause-only : goal.returns-in_err-lines-clause-only
returns-in_err-lines-clause-only g c =
    then_told g.S.Store _ _ _ _ _ c.in_ok-case.ensures.only
    (λ _. passed_told g.S.Store _ _ _ c.from_residual-in_err-lines.result c.from_residual-in_err-lines.ensures.1 c.in_err-lines.ensures.only)

pub returns-in_default-2-clause-only : goal.returns-in_default-2-clause-only
returns-in_default-2-clause-only g c =
    then_told g.S.Store _ _ _ _ _ c.in_ok-case.ensures.only
    (λ _. same_told g.S.Store _ _ _ _ c.in_ok-lines.ensures.only)

pub returns-in_err-text-clause-only : goal.returns-in_err-text-clause-only
returns-in_err-text-clause-only g c =
    then_told g.S.Store _ _ _ _ _ c.in_ok-case.ensures.only
    (λ _. short_told g.S.Store _ _ _ c.from_residual-in_err-text.result c.from_residual-in_err-text.ensures.1 c.in_ok-lines.ensures.only)

pub returns-clause-only : goal.returns-clause-only
returns-clause-only g c =
    then_told g.S.Store _ _ _ _ _ c.in_ok-case.ensures.only
    (λ _. same_told g.S.Store _ _ _ _ c.in_ok-lines.ensures.only)
