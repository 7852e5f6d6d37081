use Rattle.std.proofs.Common.{◌∙◌, ap}
use Rattle.std.specs.FinSet.{contains}
use Rattle.court_days.proofs.SpanSets.{contains-any}
use Rattle.court_days.proofs.span_set.SpanSet.contains.Goals as goal

pub returns : goal.returns
returns c =
    let test = rw c.deref.ensures.value at c.is_among.ensures in
    test ∙ contains-any c.self.inside.spans.items c.args.span ∙ ap (λ s. contains s c.args.span) c.self.view_is
