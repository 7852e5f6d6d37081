use Rattle.docket_decisions.proofs.ActsInOrder.{acts_in_order}
use Rattle.docket_decisions.proofs.InOrderLemmas.{deadlines_in_order}
use Rattle.docket_decisions.proofs.laws.acts_are_in_order.Goals as goal

pub returns-clause-deadlines : goal.returns-clause-deadlines
returns-clause-deadlines c h k = deadlines_in_order k h

pub returns-clause-acts : goal.returns-clause-acts
returns-clause-acts c court h is k n made at = acts_in_order court h is k n made at
