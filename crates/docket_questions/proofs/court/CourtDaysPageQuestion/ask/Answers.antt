use Rattle.docket_questions.proofs.TellLemmas.{passed_told, same_told, short_told}
use Rattle.docket_questions.proofs.court.CourtDaysPageQuestion.ask.Goals as goal

pub returns-in_err-rows-clause-only : goal.returns-in_err-rows-clause-only
returns-in_err-rows-clause-only g c = passed_told g.S.Store _ _ _ c.from_residual.result c.from_residual.ensures.1 c.in_err-rows.ensures.only

pub returns-in_err-page-clause-only : goal.returns-in_err-page-clause-only
returns-in_err-page-clause-only g c = short_told g.S.Store _ _ _ c.from_residual-in_err-page.result c.from_residual-in_err-page.ensures.1 c.in_ok-rows.ensures.only

pub returns-clause-only : goal.returns-clause-only
returns-clause-only g c = same_told g.S.Store _ _ _ _ c.in_ok-rows.ensures.only
