use Rattle.docket_questions.proofs.TellLemmas.{passed_told, same_told, short_told}
use Rattle.docket_questions.proofs.newest.push_wanted.Goals as goal

pub returns-in_err-is_wanted-clause-only : goal.returns-in_err-is_wanted-clause-only
returns-in_err-is_wanted-clause-only g c serves = passed_told g.S.Store _ _ _ c.from_residual.result c.from_residual.ensures.1 (c.in_err-is_wanted.ensures.only serves)

pub returns-in_err-push-clause-only : goal.returns-in_err-push-clause-only
returns-in_err-push-clause-only g c serves = short_told g.S.Store _ _ _ c.from_residual-in_err-push.result c.from_residual-in_err-push.ensures.1 (c.in_ok-is_wanted.ensures.only serves)

pub returns-in_ok-push-clause-only : goal.returns-in_ok-push-clause-only
returns-in_ok-push-clause-only g c serves = same_told g.S.Store _ _ _ _ (c.in_ok-is_wanted.ensures.only serves)

pub returns-else-branch-clause-only : goal.returns-else-branch-clause-only
returns-else-branch-clause-only g c serves = same_told g.S.Store _ _ _ _ (c.in_ok-is_wanted.ensures.only serves)
