use Rattle.docket_wire.proofs.SpellsLemmas.{read_as_spelled}
use Rattle.docket_wire.proofs.laws.texts_are_read_as_spelled.Goals as goal

pub returns : goal.returns
returns c = read_as_spelled
