use Rattle.std.proofs.Common.{◌≡◌, ◌++◌, drop}
use Rattle.court_days.specs.Court.{zone_of}
use Rattle.court_rules.specs.Standings.{StandsAfter}
use Rattle.court_reasons.specs.Steps.{steps_through, steps_of}
use Rattle.court_reasons.proofs.reason.steps_of_acts.Given as goal

-- what is left of the acts goes on from here, and so many acts have moved the end
abbrev pub invariant-loop-act : goal.invariant-loop-act
invariant-loop-act l = record {
  steps : l.steps ++ steps_through (zone_of l.court) l.calendar l.standing (drop l.act-index l.acts)
      ≡ steps_of (zone_of l.court) l.calendar l.acts;
  near : StandsAfter l.act-index l.standing;
}
