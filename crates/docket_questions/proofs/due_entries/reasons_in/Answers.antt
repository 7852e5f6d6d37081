use Rattle.docket_questions.proofs.TellLemmas.{passed_told}
use Rattle.docket_questions.proofs.due_entries.reasons_in.Goals as goal

pub returns-in_err-text-clause-only : goal.returns-in_err-text-clause-only
returns-in_err-text-clause-only g c serves = passed_told g.S.Store _ _ _ c.from_residual.result c.from_residual.ensures.1 c.in_err-text.ensures.only
