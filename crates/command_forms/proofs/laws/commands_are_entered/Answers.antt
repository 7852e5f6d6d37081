use Rattle.command_forms.proofs.EnteringLemmas.{entered}
use Rattle.command_forms.proofs.laws.commands_are_entered.Goals as goal

pub returns : goal.returns
returns c = entered
