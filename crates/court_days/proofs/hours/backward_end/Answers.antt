use Rattle.std.proofs.Common.{inl, inr}
use Rattle.std.proofs.lemmas.Bool.{both_ways}
use Rattle.court_days.proofs.hours.backward_end.Goals as goal

pub returns-then-is_accessible-clause-means : goal.returns-then-is_accessible-clause-means
returns-then-is_accessible-clause-means c =
    let last = rw c.local_day.ensures.value at c.last_business-last.ensures.last in
    let accessible = rw c.same_time_on-end.ensures.value at (c.is_accessible.ensures.means.0 c.if-is_accessible.true) in
    (c.last_business-last.result, last, inl (accessible, c.same_time_on-end.ensures.value))

pub returns-clause-means : goal.returns-clause-means
returns-clause-means c =
    let last = rw c.local_day.ensures.value at c.last_business-last.ensures.last in
    let accessible = rw c.same_time_on-end.ensures.value at c.is_accessible.ensures.means in
    let end = rw c.plus.ensures at c.forward_end.ensures.means in
    (c.last_business-last.result, last, inr ((λ free. both_ways _ c.if-is_accessible.false (accessible.1 free)), end))
