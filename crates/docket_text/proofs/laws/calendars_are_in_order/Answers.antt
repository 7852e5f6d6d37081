use Rattle.docket_text.proofs.OrderLemmas.{in_order}
use Rattle.docket_text.proofs.laws.calendars_are_in_order.Goals as goal

pub returns : goal.returns
returns c = λ court rows listed is. in_order court listed is.ordered
