use Rattle.std.proofs.Common.{◌∙◌, ap, arith}
use Rattle.docket_questions.specs.Searches.{lines_found}
use Rattle.docket_questions.proofs.NewestLemmas.{all_found}
use Rattle.docket_questions.proofs.TellLemmas.{passed_told, same_told, short_told}
use Rattle.docket_questions.proofs.found.FoundCasesQuestion.ask.Goals as goal

pub returns-clause-answer : goal.returns-clause-answer
returns-clause-answer g c h stands =
    let asked = c.in_ok-found.ensures.answer h stands in
    let words = c.args.self.now.words.now in (
      asked.0,
      λ clean. c.in_ok-text.ensures
          ∙ ap lines_found (c.as_slice.ensures.value ∙ all_found c.args.docket.now.court h stands.docket.history words c.in_ok-found.found.items (asked.1 clean (omega arith))),
    )

pub returns-in_err-found-clause-only : goal.returns-in_err-found-clause-only
returns-in_err-found-clause-only g c = passed_told g.S.Store _ _ _ c.from_residual.result c.from_residual.ensures.1 c.in_err-found.ensures.only

pub returns-in_err-text-clause-only : goal.returns-in_err-text-clause-only
returns-in_err-text-clause-only g c = short_told g.S.Store _ _ _ c.from_residual-in_err-text.result c.from_residual-in_err-text.ensures.1 c.in_ok-found.ensures.only

pub returns-clause-only : goal.returns-clause-only
returns-clause-only g c = same_told g.S.Store _ _ _ _ c.in_ok-found.ensures.only
