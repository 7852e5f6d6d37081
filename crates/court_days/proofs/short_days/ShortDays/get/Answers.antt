use Rattle.std.proofs.Common.{sym, ap, subst, ◌∙◌, arith}
use Rattle.std.proofs.lemmas.List.{get_or_default}
use Rattle.std.specs.FinMap.{get}
use Rattle.court_days.specs.SortedClosings.{IsAt, IsGapFor}
use Rattle.court_days.proofs.ShortDays.{get_at, get_none}
use Rattle.court_days.proofs.short_days.ShortDays.get.Goals as goal

pub returns-in-Ok : goal.returns-in-Ok
returns-in-Ok c =
    let closings = c.self.inside.closings.items in
    let at = subst (λ l. IsAt l c.args.day c.in-Ok.place) c.deref.ensures.value c.in-Ok.ensures.found in
    let found = get_at closings c.args.day c.self.invariant c.in-Ok.place at in
    let read = get_or_default closings c.in-Ok.place c.index.result.now (0, 0) at.within in
    grind (arith, c.self.view_is)

pub returns-in-Err : goal.returns-in-Err
returns-in-Err c =
    let gap = subst (λ l. IsGapFor l c.args.day c.in-Err.field-0) c.deref.ensures.value c.in-Err.ensures.absent in
    sym (ap (λ m. get m c.args.day) (sym c.self.view_is) ∙ get_none c.self.inside.closings.items c.args.day c.in-Err.field-0 gap)
