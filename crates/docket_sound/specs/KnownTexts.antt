-- The texts that are known.
use Rattle.std.specs.Prelude.{ℕ, Bool, List, bytes_eq}
use Rattle.std.specs.BTreeSet.{contains_text}
use Rattle.std.specs.List.{list_any}
use Rattle.docket_sound.specs.declared.known_texts.KnownTexts.{KnownTexts}

abbrev pub is_known : KnownTexts → List ℕ → Bool
is_known known text = contains_text known.texts text

-- the text is one of those
abbrev pub is_one_of : List (List ℕ) → List ℕ → Bool
is_one_of texts text = list_any (λ other. bytes_eq other text) texts
