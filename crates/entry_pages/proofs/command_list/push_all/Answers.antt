use Rattle.entry_pages.specs.CommandList.{kind_line}
use Rattle.entry_pages.proofs.FieldLemmas.{pushed_on}
use Rattle.entry_pages.proofs.command_list.push_all.Goals as goal

pub loop-kind-preserved : goal.loop-kind-preserved
loop-kind-preserved c =
    pushed_on kind_line c.args.kinds.now c.loop-kind.kind-index _ _ _ _ c.loop-kind-test.true c.loop-kind.invariant c.in_ok-push_kind.ensures
