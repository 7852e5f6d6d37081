use Rattle.court_reasons.specs.Causes.{day_causes}
use Rattle.court_reasons.proofs.Pushing.{passed_more}
use Rattle.court_reasons.proofs.days.push_passed.Goals as goal

pub loop-n-preserved : goal.loop-n-preserved
loop-n-preserved c =
    passed_more (day_causes c.args.calendar.now c.args.direction) c.args.steps.now c.loop-n.steps c.push.new.self c.args.from c.loop-n.n _ _
    c.plus-day.ensures c.day_causes.ensures c.loop-n.invariant c.in_ok-push.ensures
