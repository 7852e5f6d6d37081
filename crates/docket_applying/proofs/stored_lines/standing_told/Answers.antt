use Rattle.std.proofs.Common.{◌∙◌, sym, ap}
use Rattle.court_days.specs.Court.{zone_of}
use Rattle.court_rules.specs.declared.act.Standing.TheVariants.{Running}
use Rattle.docket_applying.proofs.LineLemmas.{runs_to}
use Rattle.docket_applying.proofs.stored_lines.standing_told.Goals as goal

pub returns-in-Some : goal.returns-in-Some
returns-in-Some c same =
    let it = runs_to c.args.court.now c.args.calendar.now c.args.acts.now c.in-Some.stored (sym c.in-Some.is ∙ same) in
    ap Running (c.end.ensures.stored (zone_of c.args.court.now) it.0 it.1) ∙ sym it.2

pub returns-in-None : goal.returns-in-None
returns-in-None c same = c.due.ensures.value
