use Rattle.docket_questions.proofs.TellLemmas.{passed_told, short_told}
use Rattle.docket_questions.proofs.moving.push_move.Goals as goal

pub returns-in_err-grounds-clause-only : goal.returns-in_err-grounds-clause-only
returns-in_err-grounds-clause-only g c = passed_told g.S.Store _ _ c.in_err-grounds.field-0.0 c.from_residual.result c.from_residual.ensures.1 c.in_err-grounds.ensures.only

pub returns-in_err-push_deadline-clause-only : goal.returns-in_err-push_deadline-clause-only
returns-in_err-push_deadline-clause-only g c = short_told g.S.Store _ _ _ c.from_residual-in_err-push_deadline.result c.from_residual-in_err-push_deadline.ensures.1 c.in_ok-grounds.ensures.only
