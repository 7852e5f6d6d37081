use Rattle.std.proofs.Common.{sym}
use Rattle.entry_pages.specs.Kinds.{groups, kind_group, kind_groups}
use Rattle.entry_pages.proofs.FieldLemmas.{mapped}
use Rattle.entry_pages.proofs.kinds.push_kinds.Goals as goal

pub returns : goal.returns
unfolding kind_groups
returns c =
    rw (sym (mapped kind_group (λ group. (group.0.now, group.1.now)) c.groups.result.now groups c.groups.ensures)) c.push_groups.ensures
