use Rattle.court_rules.specs.declared.act.Standing.TheVariants.{Vacated}
use Rattle.court_reasons.proofs.Naming.{last_step}
use Rattle.court_reasons.proofs.laws.steps_end_in_the_standing.Goals as goal

pub returns : goal.returns
returns c = λ zone entered acts. last_step zone entered Vacated acts
