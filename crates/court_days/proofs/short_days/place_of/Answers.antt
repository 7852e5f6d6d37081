use Rattle.std.proofs.Common.{rules}
use Rattle.std.proofs.lemmas.List.Sorted.{answers_always}
use Rattle.court_days.proofs.ShortDays.{searched}
use Rattle.court_days.proofs.short_days.place_of.Goals as goal

pub returns : goal.returns
returns c =
    let by_day = c.binary_search_by_key.ensures.position (λ closing. closing.0) (answers_always _ _ _ (λ f a r g called. search rules)) in
    let ends = searched c.args.closings.now c.args.day c.requires c.binary_search_by_key.result c.binary_search_by_key.ensures.bound by_day in
    record { found = ends.0; absent = ends.1 }
