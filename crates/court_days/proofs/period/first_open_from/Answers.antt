use Rattle.std.proofs.Common.{◌≡◌, ◌+◌, ◌≤◌, max, inl, inr, subst, arith, ℕ}
use Rattle.std.proofs.lemmas.Bool.{cases_lt, both_ways}
use Rattle.court_days.specs.Legal.{IsOpenBusinessDay}
use Rattle.court_days.proofs.Gaps.{tuesday_from, tuesday_from_is, midweek_open}
use Rattle.court_days.proofs.period.first_open_from.Goals as goal

pub loop-direction-preserved : goal.loop-direction-preserved
loop-direction-preserved c =
    let day = c.loop-direction.day in
    let tuesday = tuesday_from (max c.args.start 47_482) in
    let is = tuesday_from_is (max c.args.start 47_482) in
    let P : ℕ → Type 0 = λ d. ¬ (IsOpenBusinessDay c.args.calendar.now c.args.direction d) in
    let here : P day = λ q. both_ways _ c.loop-direction-test.true (c.is_open_business.ensures.means.1 q) in
    let near : day ≤ tuesday =
    elim (cases_lt tuesday day) [
      | inr le ↦ le
      | inl lt ↦ let e : day ≡ tuesday + 1 = omega arith in
          absurd (midweek_open c.args.calendar.now c.is_open_business.ensures.limits c.args.direction tuesday is.2 (λ h. omega arith) (λ h. omega arith)
          (c.loop-direction.invariant.none tuesday (omega arith) lt) (subst P e here))
    ] in
    record {
      reached = omega arith;
      near = omega arith;
      none = λ other low below. elim (cases_lt other day) [
        | inl lt ↦ c.loop-direction.invariant.none other low lt
        | inr le ↦ let e : day ≡ other = omega arith in subst P e here
      ];
    }
