use Rattle.std.proofs.Common.{◌≡◌, drop}
use Rattle.court_rules.specs.Acts.{phase_through}
use Rattle.court_rules.specs.declared.order.Phase.TheVariants.{Unmade}
use Rattle.court_rules.proofs.order.phase_through.Given as goal

-- what is left of the acts leads from here where all of them lead from the beginning
abbrev pub invariant-loop-act : goal.invariant-loop-act
invariant-loop-act l = phase_through l.phase (drop l.act-index l.acts) ≡ phase_through Unmade l.acts
