use Rattle.std.proofs.Common.{◌≡◌, ◌+◌, ◌<◌, min, inl, inr, subst, arith, ℕ}
use Rattle.std.proofs.lemmas.Bool.{cases_lt, both_ways}
use Rattle.court_days.specs.Legal.{IsBusinessDay}
use Rattle.court_days.specs.declared.calendar.Direction.TheVariants.{Backward}
use Rattle.court_days.proofs.Gaps.{tuesday_before, tuesday_before_is, midweek_business}
use Rattle.court_days.proofs.period.last_business_to.Goals as goal

pub loop-day-preserved : goal.loop-day-preserved
loop-day-preserved c =
    let day = c.loop-day.day in
    let tuesday = tuesday_before (min c.args.start 10_956) in
    let is = tuesday_before_is (min c.args.start 10_956) (omega arith) in
    let P : ℕ → Type 0 = λ d. ¬ (IsBusinessDay c.args.calendar.now Backward d) in
    let here : P day = λ q. both_ways _ c.loop-day-test.true (c.business.ensures.means.1 q) in
    let near : tuesday < day =
    elim (cases_lt tuesday day) [
      | inl lt ↦ lt
      | inr le ↦ let e : day ≡ tuesday = omega arith in
          absurd (midweek_business c.args.calendar.now c.business.ensures.limits Backward tuesday is.2 (λ h. omega arith) (λ h. omega arith)
          (subst P e here) (c.loop-day.invariant.none (tuesday + 1) (omega arith) (omega arith)))
    ] in
    record {
      reached = omega arith;
      near = omega arith;
      none = λ other above high. elim (cases_lt day other) [
        | inl lt ↦ c.loop-day.invariant.none other lt high
        | inr le ↦ let e : day ≡ other = omega arith in subst P e here
      ];
    }

pub returns-clause-near : goal.returns-clause-near
returns-clause-near c = omega (arith, c.loop-day.invariant.near, tuesday_before_is (min c.args.start 10_956) (omega arith))
