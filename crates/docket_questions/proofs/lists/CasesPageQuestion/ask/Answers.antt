use Rattle.std.proofs.Common.{◌∙◌, Some, ap}
use Rattle.std.specs.Prelude.{string_bytes}
use Rattle.docket_questions.proofs.NewestLemmas.{paged}
use Rattle.docket_questions.proofs.TellLemmas.{clean_before, passed_told, same_told, short_told, then_told}
use Rattle.docket_questions.proofs.lists.CasesPageQuestion.ask.Goals as goal

pub returns-clause-answer : goal.returns-clause-answer
returns-clause-answer g c h stands =
    let first = c.in_ok-count.ensures in
    let found = c.in_ok-cases.ensures in
    let asked = first.answer h stands in
    let cases = found.answer h asked.0 in (
      cases.0,
      λ clean. ap Some (paged c.args.docket.now.court h stands.docket.history c.args.self.now.before c.args.self.now.day c.in_ok-count.count c.last_before-last.result c.as_slice.result.now
          c.newer.result c.older.result (string_bytes c.in_ok-page.page) (asked.1 (clean_before _ _ (found.only asked.0.serves).clean clean))
          c.last_before-last.ensures (λ less. c.as_slice.ensures.value ∙ cases.1 clean less) c.newer.ensures c.older.ensures c.in_ok-page.ensures),
    )

pub returns-in_err-count-clause-only : goal.returns-in_err-count-clause-only
returns-in_err-count-clause-only g c = passed_told g.S.Store _ _ _ c.from_residual.result c.from_residual.ensures.1 c.in_err-count.ensures.only

pub returns-in_err-cases-clause-only : goal.returns-in_err-cases-clause-only
returns-in_err-cases-clause-only g c =
    then_told g.S.Store _ _ _ _ _ c.in_ok-count.ensures.only
    (λ still. passed_told g.S.Store _ _ _ c.from_residual-in_err-cases.result c.from_residual-in_err-cases.ensures.1 (c.in_err-cases.ensures.only still))

pub returns-in_err-page-clause-only : goal.returns-in_err-page-clause-only
returns-in_err-page-clause-only g c =
    then_told g.S.Store _ _ _ _ _ c.in_ok-count.ensures.only
    (λ still. short_told g.S.Store _ _ _ c.from_residual-in_err-page.result c.from_residual-in_err-page.ensures.1 (c.in_ok-cases.ensures.only still))

pub returns-clause-only : goal.returns-clause-only
returns-clause-only g c = then_told g.S.Store _ _ _ _ _ c.in_ok-count.ensures.only (λ still. same_told g.S.Store _ _ _ _ (c.in_ok-cases.ensures.only still))
