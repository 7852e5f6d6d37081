use Rattle.std.proofs.Common.{◌∙◌, Option, string_bytes, subst, sym}
use Rattle.docket_questions.specs.Kept.{KeepsCase}
use Rattle.docket_questions.specs.declared.kept.CaseAsked.{CaseAsked}
use Rattle.docket_questions.proofs.DueLemmas.{entry_is}
use Rattle.docket_questions.proofs.TellLemmas.{clean_before, passed_told, same_told, short_told, then_told}
use Rattle.docket_questions.proofs.due_entries.push_due.Goals as goal

pub returns-clause-answer : goal.returns-clause-answer
returns-clause-answer g c h stands has =
    let first = c.in_ok-asked.ensures in
    let second = c.in_ok-reasons.ensures in
    let asked = first.answer h stands has in
    let told = second.answer h asked.0 in (
      told.0,
      λ clean keeps.
          let here = asked.1 (clean_before _ _ (second.only asked.0.serves).clean clean) (subst (λ (kept : Option CaseAsked). KeepsCase h kept) (sym c.take.ensures.value) keeps) in (
            here.1,
            entry_is c.args.form.now h c.court.result.now c.case_numbered.new.docket.court c.args.docket.now.court c.args.place c.args.due.now c.in_ok-asked.asked.number c.in_ok-asked.asked.case
                c.in_ok-asked.asked.parties.items c.deref.result.now c.deref-2.result.now (string_bytes c.args.text.now) (string_bytes c.push_str.new.self) (first.only stands.serves).court
                (c.court.ensures ∙ (second.only asked.0.serves).court) here.0 here.1.0 here.1.1 (c.deref.ensures ∙ told.1 clean) (c.deref-2.ensures ∙ c.in_ok-entry.ensures) c.in_ok-push_str.ensures.bytes,
          ),
    )

pub returns-in_err-asked-clause-only : goal.returns-in_err-asked-clause-only
returns-in_err-asked-clause-only g c serves = passed_told g.S.Store _ _ _ c.from_residual.result c.from_residual.ensures.1 (c.in_err-asked.ensures.only serves)

pub returns-in_err-reasons-clause-only : goal.returns-in_err-reasons-clause-only
returns-in_err-reasons-clause-only g c serves =
    then_told g.S.Store _ _ _ _ _ (c.in_ok-asked.ensures.only serves)
    (λ still. passed_told g.S.Store _ _ _ c.from_residual-in_err-reasons.result c.from_residual-in_err-reasons.ensures.1 (c.in_err-reasons.ensures.only still))

pub returns-in_err-entry-clause-only : goal.returns-in_err-entry-clause-only
returns-in_err-entry-clause-only g c serves =
    then_told g.S.Store _ _ _ _ _ (c.in_ok-asked.ensures.only serves)
    (λ still. short_told g.S.Store _ _ _ c.from_residual-in_err-entry.result c.from_residual-in_err-entry.ensures.1 (c.in_ok-reasons.ensures.only still))

pub returns-in_err-push_str-clause-only : goal.returns-in_err-push_str-clause-only
returns-in_err-push_str-clause-only g c serves =
    then_told g.S.Store _ _ _ _ _ (c.in_ok-asked.ensures.only serves)
    (λ still. short_told g.S.Store _ _ _ c.from_residual-in_err-push_str.result c.from_residual-in_err-push_str.ensures.1 (c.in_ok-reasons.ensures.only still))

pub returns-clause-only : goal.returns-clause-only
returns-clause-only g c serves =
    then_told g.S.Store _ _ _ _ _ (c.in_ok-asked.ensures.only serves) (λ still. same_told g.S.Store _ _ _ _ (c.in_ok-reasons.ensures.only still))
