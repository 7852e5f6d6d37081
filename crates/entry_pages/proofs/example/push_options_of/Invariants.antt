use Rattle.std.proofs.Common.{◌≡◌, ◌++◌, drop, string_bytes}
use Rattle.std.specs.List.{flat_map}
use Rattle.command_forms.specs.Entered.{spec_of}
use Rattle.entry_pages.specs.Examples.{example_option}
use Rattle.entry_pages.proofs.example.push_options_of.Given as goal

abbrev pub invariant-loop-entered : goal.invariant-loop-entered
invariant-loop-entered l =
    string_bytes l.text ++ flat_map (λ e. example_option l.kind (spec_of e)) (drop l.entered-index l.fields) ≡ string_bytes l.initial.text ++ flat_map (λ e. example_option l.kind (spec_of e)) l.fields
