use Rattle.std.proofs.Common.{IfSome, IsNone, ◌↔◌, ◌≡◌, subst, sym, ap}
use Rattle.court_rules.specs.declared.rule.Rule.TheVariants.{Ordered}
use Rattle.court_rules.specs.Rules.{IsPeriod}
use Rattle.court_rules.proofs.Limits.{period_of-limits, period_of-none}
use Rattle.court_rules.proofs.rule.Rule.period.Goals as goal

pub returns-clause-limits : goal.returns-clause-limits
returns-clause-limits c =
    subst (λ period. IfSome period IsPeriod) (sym (ap (λ entry. entry.1.period) c.row.ensures)) (period_of-limits c.args.self)

pub returns-clause-none : goal.returns-clause-none
returns-clause-none c =
    subst (λ period. IsNone period ↔ (c.args.self ≡ Ordered)) (sym (ap (λ entry. entry.1.period) c.row.ensures))
    (period_of-none c.args.self)
