use Rattle.court_days.proofs.ShortDays.{none_sorted}
use Rattle.court_days.proofs.short_days.ShortDays.new.Goals as goal

pub invariant_of-result : goal.invariant_of-result
invariant_of-result c = none_sorted _ c.new.ensures.items
