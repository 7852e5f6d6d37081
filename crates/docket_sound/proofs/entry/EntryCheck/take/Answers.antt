use Rattle.std.proofs.Common.{◌∙◌, sym}
use Rattle.docket_sound.specs.Entries.{is_sound_entry}
use Rattle.docket_sound.proofs.NumberLemmas.{one_fails}
use Rattle.docket_sound.proofs.entry.EntryCheck.take.Goals as goal

pub returns-else-is_sound_entry-clause-refused : goal.returns-else-is_sound_entry-clause-refused
returns-else-is_sound_entry-clause-refused c rows more has refused all = one_fails is_sound_entry rows c.args.row.now more all.within (sym c.is_sound_entry.ensures ∙ refused)
