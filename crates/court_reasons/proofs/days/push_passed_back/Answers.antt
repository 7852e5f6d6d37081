use Rattle.court_days.specs.declared.calendar.Direction.TheVariants.{Backward}
use Rattle.court_reasons.specs.Causes.{business_causes}
use Rattle.court_reasons.proofs.Pushing.{passed_back_more}
use Rattle.court_reasons.proofs.days.push_passed_back.Goals as goal

pub loop-n-preserved : goal.loop-n-preserved
loop-n-preserved c =
    passed_back_more (business_causes c.args.calendar.now Backward) c.args.steps.now c.loop-n.steps c.push.new.self c.args.from c.loop-n.n _ _
    c.minus-day.ensures c.business_causes.ensures c.loop-n.invariant c.in_ok-push.ensures
