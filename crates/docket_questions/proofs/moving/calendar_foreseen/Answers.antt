use Rattle.docket_questions.proofs.TellLemmas.{short_told}
use Rattle.docket_questions.proofs.moving.calendar_foreseen.Goals as goal

pub returns-in_err-text-clause-only : goal.returns-in_err-text-clause-only
returns-in_err-text-clause-only g c = short_told g.S.Store _ _ _ c.from_residual-in_err-text.result c.from_residual-in_err-text.ensures.1 c.in_ok-moves.ensures.only
