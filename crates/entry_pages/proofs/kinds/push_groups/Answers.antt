use Rattle.entry_pages.specs.Kinds.{kind_group}
use Rattle.entry_pages.proofs.FieldLemmas.{pushed_on}
use Rattle.entry_pages.proofs.kinds.push_groups.Goals as goal

pub loop-group-preserved : goal.loop-group-preserved
loop-group-preserved c =
    pushed_on (λ group. kind_group (group.0.now, group.1.now)) c.args.groups.now c.loop-group.group-index _ _ _ _ c.loop-group-test.true c.loop-group.invariant c.in_ok-push_group.ensures
