use Rattle.std.proofs.Common.{arith}
use Rattle.std.proofs.lemmas.Grind.{common_steps}
use Rattle.court_rules.proofs.standing.due.Goals as goal

pub loop-act-preserved : goal.loop-act-preserved
loop-act-preserved c = (grind (arith, common_steps), c.standing_after-standing.ensures.near c.loop-act.act-index c.loop-act.invariant.1)
