use Rattle.std.proofs.Common.{◌∙◌, sym}
use Rattle.docket_questions.proofs.NewestLemmas.{none_labelled, one_labelled}
use Rattle.docket_questions.proofs.TellLemmas.{asks_more, clean_before, passed_told, short_told, then_told}
use Rattle.docket_questions.proofs.search.found_cases.Goals as goal

pub returns-in_ok-found-in-Some-clause-answer : goal.returns-in_ok-found-in-Some-clause-answer
returns-in_ok-found-in-Some-clause-answer g c h stands =
    let labelled = c.in_ok-case.ensures.answer h stands in (
      labelled.0,
      λ clean some. one_labelled h c.args.words.now c.args.most c.in-Some.case c.in_ok-found-in-Some.found.items some c.in_ok-found-in-Some.ensures.items (sym (labelled.1 clean) ∙ c.in-Some.is),
    )

pub returns-in_ok-count-in-None-clause-answer : goal.returns-in_ok-count-in-None-clause-answer
returns-in_ok-count-in-None-clause-answer g c h stands =
    let first = c.in_ok-case.ensures in
    let second = c.in_ok-count-in-None.ensures in
    let labelled = first.answer h stands in
    let counted = second.answer h labelled.0 in
    let found = c.newest_cases.ensures in
    asks_more g.S.Store c.newest_cases.new.docket h _ _ c.newest_cases.result
    (λ clean cases told some.
    let seen = clean_before _ _ (found.only counted.0.serves).clean clean in
    none_labelled h c.args.words.now c.args.most c.in_ok-count-in-None.count cases.items (counted.1 seen) (sym (labelled.1 (clean_before _ _ second.only.clean seen)) ∙ c.in-None.is) told)
    (found.answer h counted.0)

pub returns-in_err-case-clause-only : goal.returns-in_err-case-clause-only
returns-in_err-case-clause-only g c = passed_told g.S.Store _ _ _ c.from_residual.result c.from_residual.ensures.1 c.in_err-case.ensures.only

pub returns-in_err-found-in-Some-clause-only : goal.returns-in_err-found-in-Some-clause-only
returns-in_err-found-in-Some-clause-only g c = short_told g.S.Store _ _ _ c.from_residual-in_err-found-in-Some.result c.from_residual-in_err-found-in-Some.ensures.1 c.in_ok-case.ensures.only

pub returns-in_err-count-in-None-clause-only : goal.returns-in_err-count-in-None-clause-only
returns-in_err-count-in-None-clause-only g c =
    then_told g.S.Store _ _ _ _ _ c.in_ok-case.ensures.only
    (λ _. passed_told g.S.Store _ _ _ c.from_residual-in_err-count-in-None.result c.from_residual-in_err-count-in-None.ensures.1 c.in_err-count-in-None.ensures.only)

pub returns-in_ok-count-in-None-clause-only : goal.returns-in_ok-count-in-None-clause-only
returns-in_ok-count-in-None-clause-only g c =
    then_told g.S.Store _ _ _ _ _ c.in_ok-case.ensures.only (λ _. then_told g.S.Store _ _ _ _ _ c.in_ok-count-in-None.ensures.only c.newest_cases.ensures.only)
