use Rattle.entry_lines.proofs.GivenLemmas.{lines_of_commands}
use Rattle.entry_lines.proofs.laws.commands_have_their_lines.Goals as goal

pub returns : goal.returns
returns c = lines_of_commands
