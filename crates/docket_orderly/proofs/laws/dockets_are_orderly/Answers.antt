use Rattle.docket_orderly.proofs.DocketLemmas.{orderly}
use Rattle.docket_orderly.proofs.laws.dockets_are_orderly.Goals as goal

pub returns : goal.returns
returns c = orderly
