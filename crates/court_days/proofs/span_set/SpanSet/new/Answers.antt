use Rattle.court_days.proofs.SpanSets.{none_once}
use Rattle.court_days.proofs.span_set.SpanSet.new.Goals as goal

pub invariant_of-result : goal.invariant_of-result
invariant_of-result c = none_once _ c.new.ensures.items
