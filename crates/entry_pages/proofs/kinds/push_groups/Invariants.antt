use Rattle.std.proofs.Common.{◌≡◌, ◌++◌, drop, string_bytes}
use Rattle.std.specs.List.{flat_map}
use Rattle.entry_pages.specs.Kinds.{kind_group}
use Rattle.entry_pages.proofs.kinds.push_groups.Given as goal

abbrev pub invariant-loop-group : goal.invariant-loop-group
invariant-loop-group l =
    string_bytes l.text ++ flat_map (λ group. kind_group (group.0.now, group.1.now)) (drop l.group-index l.groups) ≡ string_bytes l.initial.text ++ flat_map (λ group. kind_group (group.0.now, group.1.now)) l.groups
