-- The pairs of an example, one added behind the other.
use Rattle.std.proofs.Common.{◌≡◌, ◌∙◌, ℕ, List, [], ◌∷◌, ◌++◌, map, codes, ap, ap₂}
use Rattle.std.specs.List.{flat_map}
use Rattle.docket_command.specs.declared.command_name.CommandName.{CommandName}
use Rattle.docket_command.specs.Names.{command_word}
use Rattle.docket_command.specs.Schema.{fields_of}
use Rattle.command_forms.specs.Entered.{spec_of}
use Rattle.command_forms.specs.declared.entered.Entered.{Entered}
use Rattle.entry_pages.specs.Examples.{example_pair, example_pairs}
use Rattle.entry_pages.proofs.FieldLemmas.{mapped}

pub pairs_joined : (kind : CommandName) (fields : List Entered) (word : List ℕ) (none one two three : List (List ℕ × List ℕ)) → map spec_of fields ≡ fields_of kind → word ≡ command_word kind
    → none ≡ [] → one ≡ none ++ (codes "do", word) ∷ [] → two ≡ one ++ (codes "key", codes "k1") ∷ [] → three ≡ two ++ flat_map (λ e. example_pair kind (spec_of e)) fields
    → three ≡ example_pairs kind
pairs_joined kind fields word none one two three are is_word is_none is_one is_two is_three =
    is_three
    ∙ ap₂ (λ (a b : List (List ℕ × List ℕ)). a ++ b)
    (is_two ∙ ap (λ (a : List (List ℕ × List ℕ)). a ++ (codes "key", codes "k1") ∷ []) (is_one ∙ ap₂ (λ (a : List (List ℕ × List ℕ)) (w : List ℕ). a ++ (codes "do", w) ∷ []) is_none is_word))
    (mapped (example_pair kind) spec_of fields (fields_of kind) are)
