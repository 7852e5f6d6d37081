use Rattle.std.proofs.Common.{◌∙◌, subst}
use Rattle.docket_applying.specs.Grounds.{AreGrounds}
use Rattle.docket_questions.proofs.ReasonLemmas.{told_reasons}
use Rattle.docket_questions.proofs.TellLemmas.{passed_told, same_told, short_told}
use Rattle.docket_questions.proofs.reasons.ReasonsTextQuestion.ask.Goals as goal

pub returns-clause-answer : goal.returns-clause-answer
returns-clause-answer g c h stands =
    let asked = c.in_ok-grounds.ensures.answer h stands in (
      asked.0,
      λ clean. told_reasons c.args.docket.now.court c.court.result.now h c.args.self.now.case c.args.self.now.deadline c.in-Some.grounds _ (c.court.ensures ∙ c.grounds.ensures.only.court) c.in_ok-text.ensures (subst (AreGrounds h c.args.self.now.case c.args.self.now.deadline) c.in-Some.is (asked.1 clean)),
    )

pub returns-in_err-grounds-clause-only : goal.returns-in_err-grounds-clause-only
returns-in_err-grounds-clause-only g c = passed_told g.S.Store _ _ _ c.from_residual.result c.from_residual.ensures.1 c.in_err-grounds.ensures.only

pub returns-in_default-clause-only : goal.returns-in_default-clause-only
returns-in_default-clause-only g c = same_told g.S.Store _ _ _ _ c.in_ok-grounds.ensures.only

pub returns-in_err-text-clause-only : goal.returns-in_err-text-clause-only
returns-in_err-text-clause-only g c = short_told g.S.Store _ _ _ c.from_residual-in_err-text.result c.from_residual-in_err-text.ensures.1 c.in_ok-grounds.ensures.only

pub returns-clause-only : goal.returns-clause-only
returns-clause-only g c = same_told g.S.Store _ _ _ _ c.in_ok-grounds.ensures.only
