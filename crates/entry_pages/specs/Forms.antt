-- The form of a kind of command, filled in with the texts of pairs.
use Rattle.std.specs.Prelude.{ℕ, List, [], ◌∷◌, ◌++◌, Bool, true, false, bytes_eq, if◌then◌else◌, codes, decimal}
use Rattle.std.specs.List.{flat_map}
use Rattle.docket_command.specs.declared.command_name.CommandName.{CommandName}
use Rattle.docket_command.specs.declared.field.Field.{Field}
use Rattle.docket_command.specs.declared.field.Field.TheVariants as field
use Rattle.docket_command.specs.Fields.{field_name}
use Rattle.docket_command.specs.FieldTypes.{FieldType}
use Rattle.docket_command.specs.Names.{command_word}
use Rattle.docket_command.specs.Schema.{FieldSpec, must, may, fields_of}
use Rattle.html_sheets.specs.declared.about.About.{About}
use Rattle.html_sheets.specs.declared.about.About.TheVariants as about
use Rattle.entry_pages.specs.Controls.{control_told, state_told}
use Rattle.entry_pages.specs.Hints.{hint_of, hint_told, is_hinted}
use Rattle.entry_pages.specs.Labels.{label_of}
use Rattle.entry_pages.specs.Saying.{Saying, is_marked}

-- the text of the last pair of a name, and that so far where there is none
abbrev pub text_from : List ℕ → List (List ℕ × List ℕ) → List ℕ → List ℕ
text_from name [] so_far = so_far
text_from name (pair ∷ pairs) so_far = text_from name pairs (if bytes_eq pair.0 name then pair.1 else so_far)

abbrev pub text_in : List ℕ → List (List ℕ × List ℕ) → List ℕ
text_in name pairs = text_from name pairs []

abbrev pub label_told : List ℕ → List ℕ → List ℕ
label_told name words = codes "<p><label for=\"" ++ (name ++ (codes "\">" ++ (words ++ codes "</label>")))

-- a field: its label, its control, and its hint
abbrev pub field_with : CommandName → List (List ℕ × List ℕ) → Saying → Field → FieldType → Bool → List ℕ
field_with kind pairs said f t needed =
    label_told (field_name f) (label_of kind f)
    ++ (control_told t (field_name f) (text_in (field_name f) pairs) (state_told (field_name f) needed (is_marked said f) (is_hinted (hint_of kind f t needed)))
    ++ (hint_told (field_name f) (hint_of kind f t needed)
    ++ codes "</p>\n"))

abbrev pub field_told : CommandName → List (List ℕ × List ℕ) → Saying → FieldSpec → List ℕ
field_told kind pairs said (must f t) = field_with kind pairs said f t true
field_told kind pairs said (may f t) = field_with kind pairs said f t false

-- the key of a form, by a number that no other form has
abbrev pub key_of : ℕ → List ℕ
key_of fresh = codes "desk-" ++ decimal fresh

abbrev pub form_head : CommandName → ℕ → List ℕ
form_head kind fresh =
    codes "<form class=\"entry\" action=\"/pages/commands\" method=\"post\" autocomplete=\"off\">\n<input type=\"hidden\" name=\"do\" value=\""
    ++ (command_word kind ++ (codes "\"><input type=\"hidden\" name=\"key\" value=\"" ++ (key_of fresh ++ codes "\">\n")))

-- the button that enters the command, which is the first and so the one of the Enter key, and that which shows what it would do
-- (HTML Living Standard, 4.10.21.2 on implicit submission, 4.10.18.6 on formaction)
abbrev pub form_foot : List ℕ
form_foot =
    codes "<p><button>Enter</button> <button class=\"other\" formaction=\"/pages/previews\">Show what it would do</button></p>\n</form>\n"

-- each field of the kind, in the order of the one table
unfoldable pub entry_form : CommandName → ℕ → List (List ℕ × List ℕ) → Saying → List ℕ
entry_form kind fresh pairs said = form_head kind fresh ++ (flat_map (field_told kind pairs said) (fields_of kind) ++ form_foot)

-- ---- the pairs with which a link fills in a form

abbrev pub number_pair : Field → ℕ → List ℕ × List ℕ
number_pair f number = (field_name f, decimal number)

abbrev pub about_pairs : About → List (List ℕ × List ℕ)
about_pairs about.Nothing = []
about_pairs (about.Case case) = number_pair field.Case case ∷ []
about_pairs (about.Party case party) = number_pair field.Case case ∷ number_pair field.Party party ∷ []
about_pairs (about.Deadline case deadline) = number_pair field.Case case ∷ number_pair field.Deadline deadline ∷ []
