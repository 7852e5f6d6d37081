use Rattle.std.proofs.Common.{ap, sym, ◌∙◌}
use Rattle.court_days.specs.Court.{zone_of}
use Rattle.court_days.specs.CourtKept.{settings_in}
use Rattle.court_days.proofs.CourtLemmas.{zone_of-within}
use Rattle.court_days.proofs.court.Court.zone.Goals as goal

pub returns-clause-value : goal.returns-clause-value
returns-clause-value c =
    sym (zone_of-within (settings_in c.self.inside) c.self.inside.zone c.self.invariant.spelled).0 ∙ ap zone_of c.self.view_is

pub returns-clause-limits : goal.returns-clause-limits
returns-clause-limits c = (zone_of-within (settings_in c.self.inside) c.self.inside.zone c.self.invariant.spelled).1
