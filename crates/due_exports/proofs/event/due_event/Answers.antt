use Rattle.std.proofs.Common.{w64, ◌∙◌}
use Rattle.std.proofs.lemmas.Int.{to_z-of_z}
use Rattle.due_exports.proofs.event.due_event.Goals as goal

pub returns : goal.returns
returns c =
    let uid = c.deref.ensures ∙ c.in_ok-uid.ensures in
    let summary = c.deref-2.ensures ∙ c.in_ok-summary.ensures in
    let description = c.deref-3.ensures ∙ c.in_ok-description.ensures in
    rw (uid, summary, description, to_z-of_z w64 c.args.stamp c.ranges.stamp) at c.event_text.ensures
