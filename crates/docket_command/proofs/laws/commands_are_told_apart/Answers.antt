use Rattle.docket_command.proofs.SamenessLemmas.{same_command}
use Rattle.docket_command.proofs.laws.commands_are_told_apart.Goals as goal

pub returns : goal.returns
returns c = same_command
