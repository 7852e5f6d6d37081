use Rattle.std.proofs.Common.{◌≡◌, ◌++◌, drop, string_bytes}
use Rattle.std.specs.List.{flat_map}
use Rattle.entry_pages.specs.ValueForms.{next_word}
use Rattle.entry_pages.proofs.value_form.push_rest.Given as goal

abbrev pub invariant-loop-choice : goal.invariant-loop-choice
invariant-loop-choice l =
    string_bytes l.text ++ flat_map (λ choice. next_word (choice.0.now, choice.1.now)) (drop l.choice-index l.choices) ≡ string_bytes l.initial.text ++ flat_map (λ choice. next_word (choice.0.now, choice.1.now)) l.choices
