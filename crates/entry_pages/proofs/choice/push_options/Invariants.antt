use Rattle.std.proofs.Common.{◌≡◌, ◌++◌, drop, string_bytes}
use Rattle.std.specs.List.{flat_map}
use Rattle.entry_pages.specs.Controls.{option_told}
use Rattle.entry_pages.proofs.choice.push_options.Given as goal

abbrev pub invariant-loop-choice : goal.invariant-loop-choice
invariant-loop-choice l =
    string_bytes l.text ++ flat_map (λ choice. option_told l.value (choice.0.now, choice.1.now)) (drop l.choice-index l.choices)
    ≡ string_bytes l.initial.text ++ flat_map (λ choice. option_told l.value (choice.0.now, choice.1.now)) l.choices
