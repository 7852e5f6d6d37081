-- A name is text: bytes that are none are no name.
use Rattle.std.proofs.Common.{◌≡◌, ◌<◌, ℕ, zero, suc, nat_lt, ◌&&◌, List, [], ◌∷◌, slice_index, true, Bool, Option, Some, None, IsUtf8, refl, subst, lit<, arith}
use Rattle.std.specs.List.{list_all}
use Rattle.std.proofs.lemmas.Bool.Decides.{nat_tests}
use Rattle.std.proofs.lemmas.Str.{IsUtf8-from_ascii}
use Rattle.court_rules.specs.declared.method.Method.{Method}
use Rattle.court_rules.specs.declared.method.Method.TheVariants.{Rule4}
use Rattle.court_rules.specs.declared.rule.Rule.{Rule}
use Rattle.court_rules.specs.declared.rule.Rule.TheVariants.{AnswerToSummons}
use Rattle.court_rules.specs.Methods.{method_name, method_named}
use Rattle.court_rules.specs.Rules.{line_of, name_of, rule_named}
use Rattle.court_rules.proofs.Names.{name_of-named, method_name-named}

-- bytes from 33 to 127: ASCII text without a space
abbrev pub is_word_byte : ℕ → Bool
is_word_byte byte = nat_lt 32 byte && nat_lt byte 128

abbrev pub is_word : List ℕ → Bool
is_word = list_all is_word_byte

ascii_bytes : (text : List ℕ) → is_word text ≡ true → (i : ℕ) → slice_index text i < 128
ascii_bytes [] h i = lit< tt
ascii_bytes (byte ∷ text) h zero = grind (arith, nat_tests, h)
ascii_bytes (byte ∷ text) h (suc i) = ascii_bytes text (grind (arith, nat_tests, h)) i

pub is_text : (text : List ℕ) → is_word text ≡ true → IsUtf8 text
is_text text h = IsUtf8-from_ascii text (ascii_bytes text h)

rule_name-word : (rule : Rule) → is_word (name_of rule) ≡ true
unfolding line_of
rule_name-word AnswerToSummons = refl
rule_name-word _ = refl

method_name-word : (method : Method) → is_word (method_name method) ≡ true
method_name-word Rule4 = refl
method_name-word _ = refl

pub none_found : {A : Type 0} (found : Option A) → ((a : A) → found ≡ Some a → ⊥) → None ≡ found
none_found None h = refl
none_found (Some a) h = absurd (h a refl)

pub no_rule : (text : List ℕ) → ¬ (IsUtf8 text) → None ≡ rule_named text
no_rule text other =
    none_found (rule_named text) (λ rule is. other (subst IsUtf8 (name_of-named text rule is) (is_text (name_of rule) (rule_name-word rule))))

pub no_method : (text : List ℕ) → ¬ (IsUtf8 text) → None ≡ method_named text
no_method text other =
    none_found (method_named text) (λ method is. other (subst IsUtf8 (method_name-named text method is) (is_text (method_name method) (method_name-word method))))
