use Rattle.std.proofs.Common.{IsNone, ◌↔◌, ◌≡◌, subst, sym, ap}
use Rattle.court_rules.specs.declared.rule.Rule.TheVariants.{Ordered}
use Rattle.court_rules.proofs.Limits.{direction_of-none}
use Rattle.court_rules.proofs.rule.Rule.direction.Goals as goal

pub returns-clause-none : goal.returns-clause-none
returns-clause-none c =
    subst (λ direction. IsNone direction ↔ (c.args.self ≡ Ordered)) (sym (ap (λ entry. entry.1.direction) c.row.ensures))
    (direction_of-none c.args.self)
