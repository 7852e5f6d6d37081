use Rattle.docket_wire.proofs.FaultLemmas.{told_in_order}
use Rattle.docket_wire.proofs.laws.faults_are_told_in_order.Goals as goal

pub returns : goal.returns
returns c = told_in_order
