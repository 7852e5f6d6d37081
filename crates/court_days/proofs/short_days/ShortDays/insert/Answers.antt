use Rattle.std.proofs.Common.{is_some, sym, ap, subst, ◌∙◌}
use Rattle.std.proofs.lemmas.Bool.{true≢false}
use Rattle.std.specs.FinMap.{contains_key, from_entries, insert}
use Rattle.court_days.specs.SortedClosings.{IsAt, IsGapFor}
use Rattle.court_days.proofs.ShortDays.{get_at, keeps_sorted_by_day, from_entries-insert}
use Rattle.court_days.proofs.short_days.ShortDays.insert.Goals as goal

pub unreachable-requires : goal.unreachable-requires
unreachable-requires c =
    let at = subst (λ l. IsAt l c.args.day c.in-Ok.field-0) c.deref.ensures.value c.in-Ok.ensures.found in
    let found = get_at c.self.inside.closings.items c.args.day c.self.invariant c.in-Ok.field-0 at in
    true≢false (sym (ap is_some found) ∙ ap (λ m. contains_key m c.args.day) c.self.view_is ∙ c.requires)

pub invariant_of-self-in-Err : goal.invariant_of-self-in-Err
invariant_of-self-in-Err c =
    let gap = subst (λ l. IsGapFor l c.args.day c.in-Err.place) c.deref.ensures.value c.in-Err.ensures.absent in
    rw c.in_ok-insert-in-Err.ensures.items
    (keeps_sorted_by_day c.self.inside.closings.items c.args.day c.in-Err.place gap c.args.minute c.self.invariant)

pub returns-clause-ok : goal.returns-clause-ok
returns-clause-ok c =
    let gap = subst (λ l. IsGapFor l c.args.day c.in-Err.place) c.deref.ensures.value c.in-Err.ensures.absent in
    ap from_entries c.in_ok-insert-in-Err.ensures.items
    ∙ from_entries-insert c.self.inside.closings.items c.args.day c.in-Err.place gap c.args.minute
    ∙ ap (λ m. insert m c.args.day c.args.minute) c.self.view_is
