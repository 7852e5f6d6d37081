use Rattle.std.proofs.Common.{◌≡◌, drop}
use Rattle.court_days.specs.Court.{zone_of}
use Rattle.court_rules.specs.Standings.{standing, standing_through, StandsAfter}
use Rattle.court_rules.proofs.standing.due.Given as goal

-- what is left of the acts leads from here where all of them lead, and so many acts have moved the end
abbrev pub invariant-loop-act : goal.invariant-loop-act
invariant-loop-act l =
    (standing_through (zone_of l.court) l.calendar l.standing (drop l.act-index l.acts)
    ≡ standing (zone_of l.court) l.calendar l.acts)
    × StandsAfter l.act-index l.standing
