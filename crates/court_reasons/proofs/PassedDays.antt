-- A day that is passed over has a cause, and a day on which a period ends has none.
use Rattle.std.proofs.Common.{◌≡◌, ℕ, ◌-◌, ◌≤◌, false, inl, inr, is_some, IsTrue, ◌↔◌, arith}
use Rattle.std.proofs.lemmas.Bool.{both_ways, cases_Bool, or_cases, or_parts}
use Rattle.civil_time.specs.LocalTime.{IsInstant}
use Rattle.civil_time.specs.Zone.{ZoneRules, IsZone}
use Rattle.court_days.specs.Calendar.{Entered, IsWithinLimits}
use Rattle.court_days.specs.Hours.{IsAccessibleDay}
use Rattle.court_days.specs.Legal.{IsBusinessDay, IsOpenBusinessDay}
use Rattle.court_days.specs.Period.{IsFirstFrom, IsLastUpTo}
use Rattle.court_days.specs.declared.calendar.Direction.{Direction}
use Rattle.court_days.specs.declared.calendar.Direction.TheVariants.{Backward}
use Rattle.court_reasons.specs.declared.cause.Causes.{Causes}
use Rattle.court_reasons.specs.Causes.{business_causes, day_causes, hour_causes}
use Rattle.court_reasons.specs.Passing.{AreBusinessCauses, AreDayCauses, AreBackCauses, AreHourCauses, has_cause, HasCause, IsPassed, NamesDays, NamesDaysBack}
use Rattle.court_reasons.specs.Steps.{passed, passed_back}
use Rattle.court_reasons.proofs.Naming.{names, names_back}
use Rattle.court_reasons.proofs.TrueCauses.{day_causes-true, back_causes-true, hour_causes-true}

module _ (c : Causes) where
  -- each cause, refuted
  no_cause : ¬ (IsTrue c.saturday) → ¬ (IsTrue c.sunday) → ¬ (IsTrue (is_some c.statutory)) → ¬ (IsTrue c.federal) → ¬ (IsTrue c.state) → ¬ (IsTrue c.closed) → ¬ (IsTrue c.inaccessible) → ¬ (HasCause c)
  no_cause sa su st fe sta cl ina h =
      elim (or_cases c.saturday _ h) [
        | inl e ↦ sa e
        | inr h₁ ↦
            elim (or_cases c.sunday _ h₁) [
              | inl e ↦ su e
              | inr h₂ ↦
                  elim (or_cases (is_some c.statutory) _ h₂) [
                    | inl e ↦ st e
                    | inr h₃ ↦
                        elim (or_cases c.federal _ h₃) [
                          | inl e ↦ fe e
                          | inr h₄ ↦
                              elim (or_cases c.state _ h₄) [
                                | inl e ↦ sta e
                                | inr h₅ ↦
                                    elim (or_cases c.closed c.inaccessible h₅) [ inl e ↦ cl e | inr e ↦ ina e ]
                              ]
                        ]
                  ]
            ]
      ]

  some_cause : ¬ (has_cause c ≡ false) → HasCause c
  some_cause never = elim (cases_Bool (has_cause c)) [ inl t ↦ t | inr f ↦ absurd (never f) ]

  module _ (entered : Entered) (direction : Direction) (day : ℕ) (are : AreBusinessCauses entered direction day c) where
    -- a day with no cause but that the office is closed is a business day
    business_without : has_cause c ≡ false → IsBusinessDay entered direction day × (c.closed ≡ false) × (c.inaccessible ≡ false)
    business_without never =
        let p₁ = or_parts c.saturday _ never in
        let p₂ = or_parts c.sunday _ p₁.1 in
        let p₃ = or_parts (is_some c.statutory) _ p₂.1 in
        let p₄ = or_parts c.federal _ p₃.1 in
        let p₅ = or_parts c.state _ p₄.1 in
        let p₆ = or_parts c.closed c.inaccessible p₅.1 in (
          (
            λ weekend. elim weekend [ inl w ↦ both_ways _ p₁.0 (are.saturday.1 w) | inr w ↦ both_ways _ p₂.0 (are.sunday.1 w) ],
            λ legal. elim legal [
              | inl s ↦ both_ways _ p₃.0 (are.statutory.1 s)
              | inr (inl f) ↦ both_ways _ p₄.0 (are.federal.1 f)
              | inr (inr s) ↦ both_ways _ p₅.0 (are.state.1 s)
            ],
          ),
          p₆.0,
          p₆.1,
        )

    none_of : IsBusinessDay entered direction day → ¬ (IsTrue c.closed) → ¬ (IsTrue c.inaccessible) → ¬ (HasCause c)
    none_of is closed inaccessible =
        no_cause (λ e. is.0 (inl (are.saturday.0 e))) (λ e. is.0 (inr (are.sunday.0 e))) (λ e. is.1 (inl (are.statutory.0 e)))
        (λ e. is.1 (inr (inl (are.federal.0 e)))) (λ e. is.1 (inr (inr (are.state.0 e)))) closed inaccessible

  -- there are causes just where no period ends on the day
  pub day_causes-tell : (entered : Entered) (direction : Direction) (day : ℕ) → AreDayCauses entered direction day c → HasCause c ↔ ¬ (IsOpenBusinessDay entered direction day)
  day_causes-tell entered direction day are = (
    λ h q. none_of entered direction day are.business q.0 (λ e. q.1 (are.closed.0 e)) (λ e. both_ways _ are.inaccessible e) h,
    λ never. some_cause (λ f. let free = business_without entered direction day are.business f in
        never (free.0, λ h. both_ways _ free.1 (are.closed.1 h))),
  )

  pub back_causes-tell : (entered : Entered) (direction : Direction) (day : ℕ) → AreBackCauses entered direction day c → HasCause c ↔ ¬ (IsBusinessDay entered direction day)
  back_causes-tell entered direction day are = (
    λ h q. none_of entered direction day are.business q (λ e. both_ways _ are.closed e) (λ e. both_ways _ are.inaccessible e) h,
    λ never. some_cause (λ f. never (business_without entered direction day are.business f).0),
  )

  pub hour_causes-tell : (entered : Entered) (zone : ZoneRules) (direction : Direction) (instant day : ℕ) → AreHourCauses entered zone direction instant day c → HasCause c ↔ ¬ (IsAccessibleDay entered zone direction instant day)
  hour_causes-tell entered zone direction instant day are = (
    λ h q. none_of entered direction day are.business q.0 (λ e. both_ways _ are.closed e) (λ e. are.inaccessible.0 e q.1) h,
    λ never. some_cause (λ f. let free = business_without entered direction day are.business f in
        never (free.0, λ other a b shut. both_ways _ free.2 (are.inaccessible.1 (λ acc. acc other a b shut)))),
  )

-- so the days up to the first that qualifies are named, each with a cause
pub names_on : (entered : Entered) (direction : Direction) (from end : ℕ) → end ≤ 1_000_000 → IsFirstFrom (IsOpenBusinessDay entered direction) from end → NamesDays (IsPassed (AreDayCauses entered direction)) from end (passed (day_causes entered direction) from end)
names_on entered direction from end limit first =
    names (IsPassed (AreDayCauses entered direction)) (day_causes entered direction) from end (end - from) (omega (arith, first.reached))
    (λ day a b. let are = day_causes-true entered direction day (omega arith) in
    (are, (day_causes-tell _ entered direction day are).1 (λ q. omega (arith, b, first.least day a q))))

pub names_back_to : (entered : Entered) (from last : ℕ) → from ≤ 1_000_000 → IsLastUpTo (IsBusinessDay entered Backward) from last → NamesDaysBack (IsPassed (AreBackCauses entered Backward)) from last (passed_back (business_causes entered Backward) from last)
names_back_to entered from last limit is_last =
    names_back (IsPassed (AreBackCauses entered Backward)) (business_causes entered Backward) from last is_last.reached
    (λ day a b. let are = back_causes-true entered Backward day (omega arith) in
    (are, (back_causes-tell _ entered Backward day are).1 (λ q. omega (arith, b, is_last.greatest day a q))))

pub names_hours : (entered : Entered) (zone : ZoneRules) (direction : Direction) (instant from end : ℕ) → IsWithinLimits entered → IsZone zone → IsInstant instant → 3660 ≤ from → end ≤ 741_000 → IsFirstFrom (IsAccessibleDay entered zone direction instant) from end → NamesDays (IsPassed (AreHourCauses entered zone direction instant)) from end (passed (hour_causes entered zone direction instant) from end)
names_hours entered zone direction instant from end limits is moment low high first =
    names (IsPassed (AreHourCauses entered zone direction instant)) (hour_causes entered zone direction instant) from end (end - from) (omega (arith, first.reached))
    (λ day a b. let are = hour_causes-true entered zone direction instant day limits is moment (omega arith) (omega arith) in
    (are, (hour_causes-tell _ entered zone direction instant day are).1 (λ q. omega (arith, b, first.least day a q))))
