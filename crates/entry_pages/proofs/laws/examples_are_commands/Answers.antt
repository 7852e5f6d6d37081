use Rattle.entry_pages.proofs.CommandLemmas.{each}
use Rattle.entry_pages.proofs.laws.examples_are_commands.Goals as goal

pub returns : goal.returns
returns c = each
