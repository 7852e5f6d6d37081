use Rattle.std.proofs.Common.{◌≡◌, ◌++◌, drop, string_bytes}
use Rattle.std.specs.List.{flat_map}
use Rattle.entry_pages.specs.CommandList.{kind_line}
use Rattle.entry_pages.proofs.command_list.push_all.Given as goal

abbrev pub invariant-loop-kind : goal.invariant-loop-kind
invariant-loop-kind l =
    string_bytes l.text ++ flat_map kind_line (drop l.kind-index l.kinds) ≡ string_bytes l.initial.text ++ flat_map kind_line l.kinds
