use Rattle.std.proofs.Common.{◌∙◌, refl, sym, arith}
use Rattle.docket_history.specs.Histories.{case_rows}
use Rattle.docket_questions.proofs.CasedLemmas.{case_is, case_missed}
use Rattle.docket_questions.proofs.TellLemmas.{clean_before, damaged_told, passed_told, same_told, then_told}
use Rattle.docket_questions.proofs.kept.ask_case.Goals as goal

pub returns-in_default-clause-answer : goal.returns-in_default-clause-answer
returns-in_default-clause-answer g c h stands has clean =
    let asked = c.in_ok-case.ensures.answer h stands in
    case_missed (case_rows h) c.args.number (has (omega (arith, clean, c.case_row.ensures.only.clean))) (sym c.in_default.is ∙ asked.1 clean)

pub returns-clause-answer : goal.returns-clause-answer
returns-clause-answer g c h stands has =
    let asked = c.in_ok-case.ensures.answer h stands in
    let told = c.in_ok-parties.ensures.answer h asked.0 in (
      told.0,
      λ clean. (
        refl,
        (case_is (case_rows h) c.args.number c.in-Some.case (sym c.in-Some.is ∙ asked.1 (clean_before _ _ c.in_ok-parties.ensures.only.clean clean)), told.1 clean),
      ),
    )

pub returns-in_err-case-clause-only : goal.returns-in_err-case-clause-only
returns-in_err-case-clause-only g c = passed_told g.S.Store _ _ _ c.from_residual.result c.from_residual.ensures.1 c.in_err-case.ensures.only

pub returns-in_default-clause-only : goal.returns-in_default-clause-only
returns-in_default-clause-only g c = damaged_told g.S.Store _ _ _ c.in_ok-case.ensures.only

pub returns-in_err-parties-clause-only : goal.returns-in_err-parties-clause-only
returns-in_err-parties-clause-only g c =
    then_told g.S.Store _ _ _ _ _ c.in_ok-case.ensures.only
    (λ _. passed_told g.S.Store _ _ _ c.from_residual-in_err-parties.result c.from_residual-in_err-parties.ensures.1 c.in_err-parties.ensures.only)

pub returns-clause-only : goal.returns-clause-only
returns-clause-only g c = then_told g.S.Store _ _ _ _ _ c.in_ok-case.ensures.only (λ _. same_told g.S.Store _ _ _ _ c.in_ok-parties.ensures.only)
