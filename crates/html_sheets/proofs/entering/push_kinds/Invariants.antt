use Rattle.std.proofs.Common.{◌≡◌, ◌++◌, drop, string_bytes}
use Rattle.std.specs.List.{flat_map}
use Rattle.html_sheets.specs.Entering.{enter_line}
use Rattle.html_sheets.proofs.entering.push_kinds.Given as goal

abbrev pub invariant-loop-kind : goal.invariant-loop-kind
invariant-loop-kind l =
    string_bytes l.text ++ flat_map (enter_line l.about) (drop l.kind-index l.kinds)
    ≡ string_bytes l.initial.text ++ flat_map (enter_line l.about) l.kinds
