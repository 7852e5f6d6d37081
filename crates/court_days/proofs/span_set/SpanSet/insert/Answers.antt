use Rattle.std.proofs.Common.{◌∙◌, ap}
use Rattle.std.specs.FinSet.{contains, from_list, insert}
use Rattle.court_days.proofs.SpanSets.{once-push, from_list-push}
use Rattle.court_days.proofs.span_set.SpanSet.insert.Goals as goal

pub invariant_of-self-2 : goal.invariant_of-self-2
invariant_of-self-2 c =
    let other = ap (λ s. contains s c.args.span) c.self.view_is ∙ c.requires in
    rw c.in_ok-push.ensures.items (once-push c.self.inside.spans.items c.args.span c.self.invariant other)

pub returns-clause-ok : goal.returns-clause-ok
returns-clause-ok c =
    ap from_list c.in_ok-push.ensures.items
    ∙ from_list-push c.self.inside.spans.items c.args.span
    ∙ ap (λ s. insert s c.args.span) c.self.view_is
