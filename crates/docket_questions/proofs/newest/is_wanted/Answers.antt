use Rattle.docket_questions.proofs.TellLemmas.{passed_told}
use Rattle.docket_questions.proofs.newest.is_wanted.Goals as goal

pub returns-in_err-parties-clause-only : goal.returns-in_err-parties-clause-only
returns-in_err-parties-clause-only g c serves = passed_told g.S.Store _ _ _ c.from_residual.result c.from_residual.ensures.1 c.in_err-parties.ensures.only
