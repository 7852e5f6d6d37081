use Rattle.std.proofs.Common.{◌≡◌, ◌++◌, drop}
use Rattle.std.specs.List.{flat_map}
use Rattle.command_forms.specs.Entered.{spec_of}
use Rattle.command_forms.specs.Forms.{texts_of}
use Rattle.entry_pages.specs.Examples.{example_pair}
use Rattle.entry_pages.proofs.example.push_each.Given as goal

abbrev pub invariant-loop-entered : goal.invariant-loop-entered
invariant-loop-entered l =
    texts_of l.pairs.items ++ flat_map (λ e. example_pair l.kind (spec_of e)) (drop l.entered-index l.fields)
    ≡ texts_of l.initial.pairs.items ++ flat_map (λ e. example_pair l.kind (spec_of e)) l.fields
