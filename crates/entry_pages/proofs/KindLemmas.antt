-- The groups of kinds, and links to forms.
use Rattle.std.proofs.Common.{◌≡◌, ◌∙◌, ℕ, ◌++◌, List, ap, ap₂, append_assoc, codes, refl}
use Rattle.docket_command.specs.declared.command_name.CommandName.{CommandName}
use Rattle.docket_command.specs.Names.{command_word}
use Rattle.std.specs.Prelude.{decimal}
use Rattle.entry_pages.specs.Forms.{form_head}

pub head_parts : (kind : CommandName) (fresh : ℕ) (word : List ℕ) → word ≡ command_word kind
    → codes "<form class=\"entry\" action=\"/pages/commands\" method=\"post\" autocomplete=\"off\">\n<input type=\"hidden\" name=\"do\" value=\""
    ++ (word ++ (codes "\"><input type=\"hidden\" name=\"key\" value=\"desk-" ++ (decimal fresh ++ codes "\">\n")))
    ≡ form_head kind fresh
head_parts kind fresh word is_word =
    ap (λ (w : List ℕ). codes "<form class=\"entry\" action=\"/pages/commands\" method=\"post\" autocomplete=\"off\">\n<input type=\"hidden\" name=\"do\" value=\""
    ++ (w ++ (codes "\"><input type=\"hidden\" name=\"key\" value=\"desk-" ++ (decimal fresh ++ codes "\">\n")))) is_word

-- a text to which another is added
pub added : {old new text more last : List ℕ} → new ≡ old ++ more → old ≡ text → more ≡ last → new ≡ text ++ last
added is before behind = is ∙ ap₂ (λ (a b : List ℕ). a ++ b) before behind

-- four texts, one added behind the other
pub four_added : (a b c d one two three four : List ℕ) → one ≡ a → two ≡ one ++ b → three ≡ two ++ c → four ≡ three ++ d → four ≡ a ++ (b ++ (c ++ d))
four_added a b c d one two three four is_one is_two is_three is_four = rw (is_four, is_three, is_two, is_one) (simp append_assoc refl)

-- a text behind a head, and others behind it
pub words_added : (head word told last old one two : List ℕ) → one ≡ old ++ (head ++ word) → two ≡ one ++ told → told ≡ last → two ≡ old ++ (head ++ (word ++ last))
words_added head word told last old one two is_one is_two is_told = rw (is_two, is_one, is_told) (simp append_assoc refl)

-- a word between two texts, then options, then a line between two texts
pub example_added : (a word named b options c line d old one two three : List ℕ) → word ≡ named → one ≡ old ++ (a ++ (word ++ b)) → two ≡ one ++ options → three ≡ two ++ (c ++ (line ++ d))
    → three ≡ old ++ (a ++ (named ++ (b ++ (options ++ (c ++ (line ++ d))))))
example_added a word named b options c line d old one two three is_word is_one is_two is_three = rw (is_three, is_two, is_one, is_word) (simp append_assoc refl)
