use Rattle.std.proofs.Common.{Err, subst, sym, string_bytes}
use Rattle.docket_applying.specs.Applying.{IsDecided}
use Rattle.docket_applying.specs.declared.fault.Fault.TheVariants.{Closed, Damaged, NoMemory, StoreFailed}
use Rattle.docket_questions.proofs.AskedLemmas.{failed_lasts, refused_only}
use Rattle.docket_questions.proofs.TellLemmas.{clean_before, passed_told, same_told, then_told}
use Rattle.docket_questions.proofs.ToldLemmas.{accepted_in}
use Rattle.docket_questions.proofs.foreseeing.foreseen.Goals as goal

pub returns-in_err-text-in-Ok-Change-clause-only : goal.returns-in_err-text-in-Ok-Change-clause-only
returns-in_err-text-in-Ok-Change-clause-only g c =
    then_told g.S.Store _ _ _ _ c.from_residual.result c.in-Ok-Change.ensures.only
    (λ serves. passed_told g.S.Store _ _ _ c.from_residual.result c.from_residual.ensures.1 (c.in_err-text-in-Ok-Change.ensures.only serves))

pub returns-in_ok-text-in-Ok-Change-clause-answer : goal.returns-in_ok-text-in-Ok-Change-clause-answer
returns-in_ok-text-in-Ok-Change-clause-answer g c h stands =
    let old = c.args.docket.now.court in
    let mid = c.decision.new.self in
    let command = c.args.command.now in
    let decided = c.in-Ok-Change.ensures.answer h stands in
    let told = c.in_ok-text-in-Ok-Change.ensures.answer h decided.0 (λ clean. subst (IsDecided mid.court h command) c.in-Ok-Change.field-0-is (decided.1 clean)) in (
      told.0,
      λ clean. accepted_in h command mid.court old c.in-Ok-Change.changes c.in-Ok-Change.field-0 (string_bytes c.in_ok-text-in-Ok-Change.text) c.in-Ok-Change.ensures.only.court c.in-Ok-Change.field-0-is
          (decided.1 (clean_before _ _ (c.in_ok-text-in-Ok-Change.ensures.only decided.0.serves).clean clean)) (told.1 clean),
    )

pub returns-in_ok-text-in-Ok-Change-clause-only : goal.returns-in_ok-text-in-Ok-Change-clause-only
returns-in_ok-text-in-Ok-Change-clause-only g c =
    then_told g.S.Store _ _ _ _ _ c.in-Ok-Change.ensures.only (λ serves. same_told g.S.Store _ _ _ _ (c.in_ok-text-in-Ok-Change.ensures.only serves))

pub returns-in-Err-Refused-clause-only : goal.returns-in-Err-Refused-clause-only
returns-in-Err-Refused-clause-only g c = refused_only g.S.Store _ _ c.in-Err-Refused.field-0 c.in-Err-Refused.refusal _ c.in-Err-Refused.field-0-is c.in-Err-Refused.ensures.only

pub returns-in-Err-StoreFailed-clause-answer : goal.returns-in-Err-StoreFailed-clause-answer
returns-in-Err-StoreFailed-clause-answer g c h stands = failed_lasts g.S.Store _ _ h c.in-Err-StoreFailed.field-0 c.in-Err-StoreFailed.field-0-is stands c.in-Err-StoreFailed.ensures.only

pub returns-in-Err-NoMemory-clause-only : goal.returns-in-Err-NoMemory-clause-only
returns-in-Err-NoMemory-clause-only g c = passed_told g.S.Store _ _ c.in-Err-NoMemory.field-0 (Err NoMemory) (sym c.in-Err-NoMemory.field-0-is) c.in-Err-NoMemory.ensures.only

pub returns-in-Err-StoreFailed-clause-only : goal.returns-in-Err-StoreFailed-clause-only
returns-in-Err-StoreFailed-clause-only g c = passed_told g.S.Store _ _ c.in-Err-StoreFailed.field-0 (Err StoreFailed) (sym c.in-Err-StoreFailed.field-0-is) c.in-Err-StoreFailed.ensures.only

pub returns-in-Err-Damaged-clause-only : goal.returns-in-Err-Damaged-clause-only
returns-in-Err-Damaged-clause-only g c = passed_told g.S.Store _ _ c.in-Err-Damaged.field-0 (Err Damaged) (sym c.in-Err-Damaged.field-0-is) c.in-Err-Damaged.ensures.only

pub returns-in-Err-Closed-clause-only : goal.returns-in-Err-Closed-clause-only
returns-in-Err-Closed-clause-only g c = passed_told g.S.Store _ _ c.in-Err-Closed.field-0 (Err Closed) (sym c.in-Err-Closed.field-0-is) c.in-Err-Closed.ensures.only
