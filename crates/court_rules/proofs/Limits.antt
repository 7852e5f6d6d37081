-- What holds of every line of the table, by computing each.
use Rattle.std.proofs.Common.{◌≡◌, IfSome, IsNone, ◌↔◌, lit≤, refl}
use Rattle.court_rules.specs.declared.rule.Rule.{Rule}
use Rattle.court_rules.specs.declared.rule.Rule.TheVariants.{Ordered}
use Rattle.court_rules.specs.Rules.{line_of, period_of, direction_of, IsPeriod}

pub period_of-limits : (rule : Rule) → IfSome (period_of rule) IsPeriod
unfolding line_of
period_of-limits Ordered = tt
period_of-limits _ = (lit≤ tt, lit≤ tt)

-- the times that the court ordered are the ones whose period and direction are as entered
pub period_of-none : (rule : Rule) → IsNone (period_of rule) ↔ (rule ≡ Ordered)
unfolding line_of
period_of-none Ordered = (λ _. refl, λ _. refl)
period_of-none _ = (λ h. cc, λ h. cc)

pub direction_of-none : (rule : Rule) → IsNone (direction_of rule) ↔ (rule ≡ Ordered)
unfolding line_of
direction_of-none Ordered = (λ _. refl, λ _. refl)
direction_of-none _ = (λ h. cc, λ h. cc)
