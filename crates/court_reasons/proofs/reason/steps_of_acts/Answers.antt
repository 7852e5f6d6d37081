use Rattle.court_days.specs.Court.{zone_of}
use Rattle.court_reasons.proofs.Through.{act_more}
use Rattle.court_reasons.proofs.reason.steps_of_acts.Goals as goal

pub loop-act-preserved : goal.loop-act-preserved
loop-act-preserved c = record {
  steps = act_more (zone_of c.args.court.now) c.args.calendar.now c.loop-act.standing c.standing_after-standing.result c.args.acts.now c.loop-act.act-index c.act-item.result c.loop-act.steps c.push_act.new.steps _
      c.loop-act-test.true c.act-item.is c.standing_after-standing.ensures.value c.in_ok-push_act.ensures c.loop-act.invariant.steps;
  near = c.standing_after-standing.ensures.near c.loop-act.act-index c.loop-act.invariant.near;
}
