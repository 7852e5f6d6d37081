use Rattle.std.proofs.Common.{◌∙◌, arith}
use Rattle.std.specs.Prelude.{string_bytes}
use Rattle.docket_questions.proofs.NewestLemmas.{page_of_first}
use Rattle.docket_questions.proofs.TellLemmas.{passed_told, same_told, short_told}
use Rattle.docket_questions.proofs.search.SearchPageQuestion.ask.Goals as goal

pub returns-clause-answer : goal.returns-clause-answer
returns-clause-answer g c h stands =
    let asked = c.in_ok-found.ensures.answer h stands in
    (asked.0, λ clean. page_of_first h c.args.self.now.words.now c.args.self.now.day c.as_slice.result.now (string_bytes c.in_ok-page.page) (c.as_slice.ensures.value ∙ asked.1 clean (omega arith)) c.in_ok-page.ensures)

pub returns-in_err-found-clause-only : goal.returns-in_err-found-clause-only
returns-in_err-found-clause-only g c = passed_told g.S.Store _ _ _ c.from_residual.result c.from_residual.ensures.1 c.in_err-found.ensures.only

pub returns-in_err-page-clause-only : goal.returns-in_err-page-clause-only
returns-in_err-page-clause-only g c = short_told g.S.Store _ _ _ c.from_residual-in_err-page.result c.from_residual-in_err-page.ensures.1 c.in_ok-found.ensures.only

pub returns-clause-only : goal.returns-clause-only
returns-clause-only g c = same_told g.S.Store _ _ _ _ c.in_ok-found.ensures.only
