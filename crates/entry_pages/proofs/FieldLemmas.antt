-- The fields of a form, as rows of the table, and the choices of a control.
use Rattle.std.proofs.Common.{◌≡◌, ◌∙◌, ℕ, ◌+◌, ◌<◌, ◌++◌, Bor, codes, ap, append_assoc, add-one, arith, drop, get_or, List, length, map, refl, sym, Bool}
use Rattle.std.proofs.Math.Seq.{drop-cons}
use Rattle.std.proofs.lemmas.Bool.{cond-false, ne_eqb}
use Rattle.std.proofs.lemmas.List.{length-map}
use Rattle.std.specs.List.{flat_map}
use Rattle.std.proofs.lemmas.List.Folds.{flat_map-map}
use Rattle.docket_command.specs.declared.command_name.CommandName.{CommandName}
use Rattle.docket_command.specs.declared.field.Field.{Field}
use Rattle.docket_command.specs.Fields.{field_name}
use Rattle.docket_command.specs.FieldTypes.{FieldType}
use Rattle.docket_command.specs.Schema.{fields_of}
use Rattle.command_forms.specs.Entered.{spec_of}
use Rattle.command_forms.specs.declared.entered.Entered.{Entered}
use Rattle.entry_pages.specs.Controls.{choices_of, option_told, select_head, control_told, state_told}
use Rattle.entry_pages.specs.Hints.{hint_of, hint_told, is_hinted}
use Rattle.entry_pages.specs.Labels.{label_of}
use Rattle.entry_pages.specs.Saying.{Saying, is_marked}
use Rattle.entry_pages.specs.Forms.{field_told, field_with, label_told, text_in}

pub all_fields : (kind : CommandName) (pairs : List (List ℕ × List ℕ)) (said : Saying) (entered : List Entered) → map spec_of entered ≡ fields_of kind
    → flat_map (λ e. field_told kind pairs said (spec_of e)) entered ≡ flat_map (field_told kind pairs said) (fields_of kind)
all_fields kind pairs said entered is = sym (flat_map-map (field_told kind pairs said) spec_of entered) ∙ ap (flat_map (field_told kind pairs said)) is

-- what a list points to, told item by item
pub mapped : {A B C : Type 0} (f : B → List C) (g : A → B) (xs : List A) (ys : List B) → map g xs ≡ ys → flat_map (λ x. f (g x)) xs ≡ flat_map f ys
mapped f g xs ys is = sym (flat_map-map f g xs) ∙ ap (flat_map f) is

-- a choice, by the texts to which it points
abbrev pub texts_at : Bor (List ℕ) × Bor (List ℕ) → List ℕ × List ℕ
texts_at choice = (choice.0.now, choice.1.now)

all_choices : (value : List ℕ) (choices : List (Bor (List ℕ) × Bor (List ℕ))) (texts : List (List ℕ × List ℕ)) → map texts_at choices ≡ texts
    → flat_map (λ choice. option_told value (texts_at choice)) choices ≡ flat_map (option_told value) texts
all_choices value choices texts is = sym (flat_map-map (option_told value) texts_at choices) ∙ ap (flat_map (option_told value)) is

as_many : (choices : List (Bor (List ℕ) × Bor (List ℕ))) (texts : List (List ℕ × List ℕ)) → map texts_at choices ≡ texts → length choices ≡ length texts
as_many choices texts is = sym (length-map choices texts_at) ∙ ap length is

-- a type that has choices is chosen from them
pub chosen : (t : FieldType) (choices : List (Bor (List ℕ) × Bor (List ℕ))) (name value state : List ℕ) → map texts_at choices ≡ choices_of t → 0 < length choices
    → control_told t name value state ≡ select_head name state ++ (flat_map (λ choice. option_told value (texts_at choice)) choices ++ codes "</select>")
chosen t choices name value state is some =
    cond-false _ _ _ (ne_eqb (length (choices_of t)) 0 (λ none. omega (arith, some, as_many choices (choices_of t) is, none)))
    ∙ ap (λ told. select_head name state ++ (told ++ codes "</select>")) (sym (all_choices value choices (choices_of t) is))

-- one more of a list is pushed behind those before it
pub pushed_on : {A : Type 0} (f : A → List ℕ) (xs : List A) (i : ℕ) (d : A) (all old new : List ℕ) → i < length xs → old ++ flat_map f (drop i xs) ≡ all
    → new ≡ old ++ f (get_or xs i d) → new ++ flat_map f (drop (i + 1) xs) ≡ all
pushed_on f xs i d all old new below so_far is =
    let step : flat_map f (drop i xs) ≡ f (get_or xs i d) ++ flat_map f (drop (i + 1) xs) = rw (add-one, drop-cons xs i d below) refl in
    ap (λ t. t ++ flat_map f (drop (i + 1) xs)) is ∙ append_assoc old (f (get_or xs i d)) (flat_map f (drop (i + 1) xs)) ∙ ap (λ t. old ++ t) (sym step) ∙ so_far

-- four texts, one added behind the other
four_joined : (old a b c d : List ℕ) → (((old ++ a) ++ b) ++ c) ++ d ≡ old ++ (a ++ (b ++ (c ++ d)))
four_joined old a b c d = simp append_assoc refl

-- the parts of a field, pushed one behind the other with the values that were computed for them
pub field_pushed : (kind : CommandName) (pairs : List (List ℕ × List ℕ)) (said : Saying) (f : Field) (t : FieldType) (needed marked hinted : Bool) (name words value hint old one two three four : List ℕ)
    → name ≡ field_name f → words ≡ label_of kind f → value ≡ text_in name pairs → hint ≡ hint_of kind f t needed → marked ≡ is_marked said f → hinted ≡ is_hinted hint
    → one ≡ old ++ label_told name words → two ≡ one ++ control_told t name value (state_told name needed marked hinted) → three ≡ two ++ hint_told name hint → four ≡ three ++ codes "</p>\n"
    → four ≡ old ++ field_with kind pairs said f t needed
field_pushed kind pairs said f t needed marked hinted name words value hint old one two three four is_name is_words is_value is_hint is_marked is_hinted is_one is_two is_three is_four =
    rw (is_four, is_three, is_two, is_one, is_hinted, is_hint, is_marked, is_words, is_value, is_name) (four_joined old _ _ _ (codes "</p>\n"))
