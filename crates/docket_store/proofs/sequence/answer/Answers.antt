use Rattle.std.proofs.Common.{refl, sym, ap, subst, ◌∙◌, Err}
use Rattle.docket_history.specs.Histories.{History}
use Rattle.docket_decisions.specs.Outcomes.{after_answer}
use Rattle.docket_applying.specs.Applying.{Faults, Stands}
use Rattle.docket_applying.specs.declared.fault.Fault.{Fault}
use Rattle.docket_applying.specs.AnyRows.{WritesWhole}
use Rattle.docket_applying.specs.declared.fault.Fault.TheVariants.{StoreFailed}
use Rattle.docket_applying.proofs.FailureLemmas.{failed_closes, same_fault, stays_open}
use Rattle.docket_store.proofs.sequence.answer.Goals as goal

pub returns-in-Err-Refused-clause-answer : goal.returns-in-Err-Refused-clause-answer
returns-in-Err-Refused-clause-answer g c h stands clean =
    let told = subst (λ (f : Fault). Faults g.S.Store c.apply.new.self h c.args.command.now f) c.in-Err-Refused.field-0-is (c.in-Err-Refused.ensures.answer h stands) in
    let refused = told.1 clean in
    (subst (λ (x : History). Stands g.S.Store c.apply.new.self x) (sym (ap (λ a. after_answer a h c.args.command.now) refused)) told.0, refused)

pub returns-in-Err-Refused-clause-any : goal.returns-in-Err-Refused-clause-any
returns-in-Err-Refused-clause-any g c rows n stored are small holds =
    let new = c.apply.new.self in
    subst (λ (f : Fault). WritesWhole g.S.Store new.conn new.court n rows c.args.command.now (Err f)) c.in-Err-Refused.field-0-is (c.in-Err-Refused.ensures.any rows n stored are small holds)

pub returns-in-Err-clause-any : goal.returns-in-Err-clause-any
returns-in-Err-clause-any g c rows n stored are small holds = c.in-Err.ensures.any rows n stored are small holds

pub returns-in-Err-clause-closes : goal.returns-in-Err-clause-closes
returns-in-Err-clause-closes g c failed = failed_closes c.args.docket.now.closed c.apply.new.self.closed c.apply.result (λ shut. (c.apply.ensures.closed shut).0) c.apply.ensures.closes (c.in-Err.is ∙ ap Err (same_fault _ c.in-Err.fault StoreFailed refl failed))

pub returns-in-Err-clause-cause : goal.returns-in-Err-clause-cause
returns-in-Err-clause-cause g c h stands clean failed = c.apply.ensures.cause h stands clean (c.in-Err.is ∙ ap Err (same_fault _ c.in-Err.fault StoreFailed refl failed))

pub returns-in-Ok-clause-stays_open : goal.returns-in-Ok-clause-stays_open
returns-in-Ok-clause-stays_open g c opened other = stays_open c.apply.new.self.closed c.apply.result (c.apply.ensures.closes opened) (λ failed. let no = sym c.in-Ok.is ∙ failed in cc)

pub returns-in-Err-Refused-clause-stays_open : goal.returns-in-Err-Refused-clause-stays_open
returns-in-Err-Refused-clause-stays_open g c opened other = stays_open c.apply.new.self.closed c.apply.result (c.apply.ensures.closes opened) (λ failed. let no = sym c.in-Err-Refused.is ∙ failed in cc)

pub returns-in-Err-clause-stays_open : goal.returns-in-Err-clause-stays_open
returns-in-Err-clause-stays_open g c opened other = stays_open c.apply.new.self.closed c.apply.result (c.apply.ensures.closes opened) (λ failed. other (ap Err (same_fault c.apply.result c.in-Err.fault StoreFailed c.in-Err.is failed)))
