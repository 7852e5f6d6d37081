use Rattle.std.proofs.Common.{◌∙◌}
use Rattle.command_forms.specs.Given.{texts_given}
use Rattle.docket_questions.proofs.TellLemmas.{clean_before, passed_told, same_told, short_told, then_told}
use Rattle.entry_lines.proofs.PreparingLemmas.{fields_found}
use Rattle.entry_lines.proofs.preparing.fields_named.Goals as goal

pub returns-in_err-labelled-clause-only : goal.returns-in_err-labelled-clause-only
returns-in_err-labelled-clause-only g c = passed_told g.S.Store _ _ _ c.from_residual.result c.from_residual.ensures.1 c.in_err-labelled.ensures.only

pub returns-in_err-parties-clause-only : goal.returns-in_err-parties-clause-only
returns-in_err-parties-clause-only g c =
    then_told g.S.Store _ _ _ _ _ c.in_ok-labelled.ensures.only
    (λ _. passed_told g.S.Store _ _ _ c.from_residual-in_err-parties.result c.from_residual-in_err-parties.ensures.1 c.in_err-parties.ensures.only)

pub returns-in_err-pairs-clause-only : goal.returns-in_err-pairs-clause-only
returns-in_err-pairs-clause-only g c =
    then_told g.S.Store _ _ _ _ _ c.in_ok-labelled.ensures.only
    (λ _. short_told g.S.Store _ _ _ c.from_residual-in_err-pairs.result c.from_residual-in_err-pairs.ensures.1 c.in_ok-parties.ensures.only)

pub returns-clause-only : goal.returns-clause-only
returns-clause-only g c = then_told g.S.Store _ _ _ _ _ c.in_ok-labelled.ensures.only (λ _. same_told g.S.Store _ _ _ _ c.in_ok-parties.ensures.only)

pub returns-clause-answer : goal.returns-clause-answer
returns-clause-answer g c h stands =
    let first = c.in_ok-labelled.ensures.answer h stands in
    let second = c.in_ok-parties.ensures.answer h first.0 in (
      second.0,
      λ clean.
          c.in_ok-pairs.ensures
          ∙ fields_found h (texts_given c.args.given.now) c.case_text-text.result.now c.in_ok-labelled.labelled c.case_found-case.result c.unwrap_or.result c.as_slice.result.now c.case_text-text.ensures
          (first.1 (clean_before _ _ c.in_ok-parties.ensures.only.clean clean)) c.case_found-case.ensures c.unwrap_or.ensures (c.as_slice.ensures.value ∙ second.1 clean),
    )
