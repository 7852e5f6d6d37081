use Rattle.std.proofs.Common.{sym, ◌∙◌, ◌≡◌, ◌-◌, arith}
use Rattle.civil_time.specs.LocalTime.{shown_at}
use Rattle.civil_time.proofs.LocalTimeLemmas.{instant_of-earlier, instant_of-standard, earlier_is, standard_is_it, instant_of-fold}
use Rattle.civil_time.proofs.zone.Zone.instant_of.Goals as goal

pub returns-then-shown_at-local-clause-value : goal.returns-then-shown_at-local-clause-value
returns-then-shown_at-local-clause-value c =
    let e : shown_at c.args.self.now (c.args.local - 3600) ≡ c.args.local = sym c.shown_at.ensures.value ∙ c.if-shown_at-local.true in
    c.instant_by_standard.ensures.value ∙ sym (instant_of-earlier c.args.self.now c.shown_at.ensures.zone c.args.local (omega (arith, c.requires)) e)

pub returns-then-shown_at-local-clause-law : goal.returns-then-shown_at-local-clause-law
returns-then-shown_at-local-clause-law c =
    let e : shown_at c.args.self.now (c.args.local - 3600) ≡ c.args.local = sym c.shown_at.ensures.value ∙ c.if-shown_at-local.true in
    rw c.instant_by_standard.ensures.value (earlier_is c.args.self.now c.shown_at.ensures.zone c.args.local (omega (arith, c.requires)) e)

pub returns-then-shown_at-local-clause-fold : goal.returns-then-shown_at-local-clause-fold
returns-then-shown_at-local-clause-fold c = λ first fold.
    let e : shown_at c.args.self.now (c.args.local - 3600) ≡ c.args.local = sym c.shown_at.ensures.value ∙ c.if-shown_at-local.true in
    c.instant_by_standard.ensures.value ∙ sym (instant_of-earlier c.args.self.now c.shown_at.ensures.zone c.args.local (omega (arith, c.requires)) e)
    ∙ instant_of-fold c.args.self.now c.shown_at.ensures.zone c.args.local first (omega (arith, c.requires)) fold

pub returns-else-shown_at-local-clause-value : goal.returns-else-shown_at-local-clause-value
returns-else-shown_at-local-clause-value c =
    let e : ¬ (shown_at c.args.self.now (c.args.local - 3600) ≡ c.args.local) = λ k. c.if-shown_at-local.false (c.shown_at.ensures.value ∙ k) in
    c.instant_by_standard-else-shown_at-local.ensures.value ∙ sym (instant_of-standard c.args.self.now c.shown_at.ensures.zone c.args.local (omega (arith, c.requires)) e)

pub returns-else-shown_at-local-clause-law : goal.returns-else-shown_at-local-clause-law
returns-else-shown_at-local-clause-law c =
    let e : ¬ (shown_at c.args.self.now (c.args.local - 3600) ≡ c.args.local) = λ k. c.if-shown_at-local.false (c.shown_at.ensures.value ∙ k) in
    rw c.instant_by_standard-else-shown_at-local.ensures.value (standard_is_it c.args.self.now c.shown_at.ensures.zone c.args.local (omega (arith, c.requires)) e)

pub returns-else-shown_at-local-clause-fold : goal.returns-else-shown_at-local-clause-fold
returns-else-shown_at-local-clause-fold c = λ first fold.
    let e : ¬ (shown_at c.args.self.now (c.args.local - 3600) ≡ c.args.local) = λ k. c.if-shown_at-local.false (c.shown_at.ensures.value ∙ k) in
    c.instant_by_standard-else-shown_at-local.ensures.value ∙ sym (instant_of-standard c.args.self.now c.shown_at.ensures.zone c.args.local (omega (arith, c.requires)) e)
    ∙ instant_of-fold c.args.self.now c.shown_at.ensures.zone c.args.local first (omega (arith, c.requires)) fold
