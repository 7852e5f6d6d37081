use Rattle.court_days.specs.Court.{zone_of}
use Rattle.docket_sound.proofs.DueLemmas.{lawful_acts}
use Rattle.docket_sound.proofs.due.deadline_standing.Goals as goal

pub due-requires : goal.due-requires
due-requires c = lawful_acts (zone_of c.args.court.now) c.args.acts.now c.requires.lawful
