use Rattle.std.proofs.Common.{IfSome, sym, subst, [], ◌∷◌}
use Rattle.count_lines.specs.Requests.{IsAsked}
use Rattle.court_days.specs.Court.{zone_of}
use Rattle.court_rules.specs.Standings.{AreActs}
use Rattle.court_rules.specs.declared.act.Act.TheVariants as act
use Rattle.explain_lines.proofs.Starts.{time_may}
use Rattle.explain_lines.proofs.start.start_of.Goals as goal

pub returns-in-ByRule-clause-acts : goal.returns-in-ByRule-clause-acts
returns-in-ByRule-clause-acts c =
    subst (λ begun. IfSome begun (λ b. AreActs (zone_of c.args.court.now) (act.Start b ∷ []))) (sym c.time_from.ensures)
    (time_may (zone_of c.args.court.now) c.in-ByRule.rule c.in-ByRule.day c.in-ByRule.method (subst IsAsked c.in-ByRule.is c.requires))
