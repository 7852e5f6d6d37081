use Rattle.std.proofs.Common.{◌∙◌, sym, subst}
use Rattle.court_days.specs.Spans.{Meets}
use Rattle.court_days.proofs.SpanSets.{any-meets}
use Rattle.court_days.proofs.span_set.SpanSet.meets.Goals as goal

pub returns : goal.returns
returns c =
    let test = rw c.deref.ensures.value at c.is_met_by_any.ensures in
    let means = any-meets c.self.inside.spans.items c.args.start c.args.end in (
      λ t. subst (λ s. Meets s c.args.start c.args.end) c.self.view_is (means.0 (sym test ∙ t)),
      λ m. test ∙ means.1 (subst (λ s. Meets s c.args.start c.args.end) (sym c.self.view_is) m),
    )
