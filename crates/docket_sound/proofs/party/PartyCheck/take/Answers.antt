use Rattle.std.proofs.Common.{◌∙◌, sym}
use Rattle.docket_sound.specs.Parties.{is_sound_party}
use Rattle.docket_sound.proofs.NumberLemmas.{one_fails}
use Rattle.docket_sound.proofs.party.PartyCheck.take.Goals as goal

pub returns-else-is_sound_party-clause-refused : goal.returns-else-is_sound_party-clause-refused
returns-else-is_sound_party-clause-refused c rows more has refused all = one_fails is_sound_party rows c.args.row.now more all.within (sym c.is_sound_party.ensures ∙ refused)
