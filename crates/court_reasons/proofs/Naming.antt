-- The days that are named, and the last step.
use Rattle.std.proofs.Common.{◌≡◌, ℕ, zero, suc, ◌+◌, ◌-◌, ◌≤◌, ◌<◌, map, List, [], ◌∷◌, ◌++◌, refl, sym, ap, ◌∙◌, append_assoc, arith}
use Rattle.std.specs.List.{range_with_len}
use Rattle.civil_time.specs.Zone.{ZoneRules}
use Rattle.court_days.specs.Calendar.{Entered}
use Rattle.court_rules.specs.declared.act.Act.{Act}
use Rattle.court_rules.specs.declared.act.Standing.{Standing}
use Rattle.court_rules.specs.Standings.{standing_after, standing_through}
use Rattle.court_reasons.specs.declared.cause.Causes.{Causes}
use Rattle.court_reasons.specs.declared.step.Step.{Step}
use Rattle.court_reasons.specs.declared.step.Step.TheVariants as step
use Rattle.court_reasons.specs.Passing.{NamesDays, NamesDaysBack}
use Rattle.court_reasons.specs.Steps.{days_passed, passed_back, steps_of_act, steps_through}

pub names : (Are : ℕ → Causes → Type 0) (causes : ℕ → Causes) (from end count : ℕ) → from + count ≡ end → ((day : ℕ) → from ≤ day → day < end → Are day (causes day)) → NamesDays Are from end (days_passed causes from count)
names Are causes from end zero e are = omega arith
names Are causes from end (suc count) e are =
    (refl, omega arith, are from (omega arith) (omega arith), names Are causes (from + 1) end count (omega arith) (λ day a b. are day (omega arith) b))

-- back from a day, after k days of them
names_from : (Are : ℕ → Causes → Type 0) (causes : ℕ → Causes) (from at k last count : ℕ) → last + count ≡ at → at + k ≡ from → ((day : ℕ) → day ≤ from → last < day → Are day (causes day)) → NamesDaysBack Are at last (map (λ n. step.Passed (from - n) (causes (from - n))) (range_with_len k count))
names_from Are causes from at k last zero e o are = omega arith
names_from Are causes from at k last (suc count) e o are =
    (omega arith, omega arith, are (from - k) (omega arith) (omega arith), names_from Are causes from (at - 1) (k + 1) last count (omega arith) (omega arith) are)

pub names_back : (Are : ℕ → Causes → Type 0) (causes : ℕ → Causes) (from last : ℕ) → last ≤ from → ((day : ℕ) → day ≤ from → last < day → Are day (causes day)) → NamesDaysBack Are from last (passed_back causes from last)
names_back Are causes from last le are = names_from Are causes from from 0 last (from - last) (omega arith) (omega arith) are

pub last_step : (zone : ZoneRules) (entered : Entered) (before : Standing) (acts : List Act) → (front : List Step) × (steps_through zone entered before acts ≡ front ++ step.Stands (standing_through zone entered before acts) ∷ [])
last_step zone entered before [] = ([], refl)
last_step zone entered before (act ∷ acts) =
    let rest = last_step zone entered (standing_after zone entered before act) acts in (
      steps_of_act zone entered before act ++ rest.0,
      ap (λ s. steps_of_act zone entered before act ++ s) rest.1 ∙ sym (append_assoc (steps_of_act zone entered before act) rest.0 _),
    )
