use Rattle.docket_questions.proofs.TellLemmas.{short_told}
use Rattle.docket_questions.proofs.court.RulesPageQuestion.ask.Goals as goal

pub returns-in_err-page-clause-only : goal.returns-in_err-page-clause-only
returns-in_err-page-clause-only g c = short_told g.S.Store _ _ _ c.from_residual-in_err-page.result c.from_residual-in_err-page.ensures.1 c.in_ok-text.ensures.only
