-- The line of an entry that gives a command as it is.
use Rattle.std.proofs.Common.{◌≡◌, ◌∙◌, ℕ, ◌<◌, ◌^◌, Bool, true, false, ◌&&◌, List, [], ◌∷◌, Option, Some, None, Ok, is_none, if◌then◌else◌, refl, sym, ap, ap₂, nat_lt, length}
use Rattle.std.specs.Fmt.{decimal}
use Rattle.serde_json.specs.Data.{Data, null, boolean, number, string, array, object, unsigned, negative, float}
use Rattle.serde_json.specs.Written.{compact_text}
use Rattle.court_days.specs.Court.{CourtSettings}
use Rattle.docket_command.specs.Fields.{field_name}
use Rattle.docket_command.specs.Names.{command_word}
use Rattle.docket_command.specs.declared.command.Command.{Command}
use Rattle.docket_command.specs.declared.field.Field.{Field}
use Rattle.docket_command.specs.declared.field.Field.TheVariants as field
use Rattle.docket_history.specs.Histories.{History}
use Rattle.docket_history.specs.declared.row.PartyRow.{PartyRow}
use Rattle.docket_wire.specs.Reading.{is_known}
use Rattle.docket_wire.specs.Valid.{IsCommand}
use Rattle.docket_wire.specs.Writing.{action_members, canonical, command_data}
use Rattle.command_forms.specs.Entering.{CanBeEntered, entered_pairs, entered_text, pairs_of}
use Rattle.command_forms.specs.Forms.{line_of}
use Rattle.command_forms.specs.Given.{texts_given}
use Rattle.command_forms.specs.Shapes.{shape_named}
use Rattle.command_forms.specs.Values.{number_of}
use Rattle.command_forms.specs.declared.shape.Shape.TheVariants.{Number, Flag, Text}
use Rattle.command_forms.proofs.EnteringLemmas.{AreEntered, IsEntered, command_entered, number-decimal, object_entered}
use Rattle.entry_lines.specs.Giving.{GivesCommand, entered_fields}
use Rattle.entry_lines.specs.Lines.{fields_named, key_or_made, kind_pair, line_entered, pairs_meant, with_field}
use Rattle.entry_lines.specs.Names.{is_name, number_meant, takes_name, text_meant, text_of_number}
use Rattle.entry_lines.specs.declared.entry.Entry.{Entry}

neither : (a b : Bool) → b ≡ false → (a && b) ≡ false
neither true b never = never
neither false b never = refl

otherwise : {X : Type 0} (b : Bool) (x y : X) → b ≡ false → (if b then x else y) ≡ y
otherwise true x y never = absurd (cc)
otherwise false x y never = refl

-- a number is no name
no_name : (n : ℕ) → n < 2 ^ 32 → is_name (decimal n) ≡ false
no_name n low = neither (nat_lt 0 (length (decimal n))) (is_none (number_of (decimal n))) (ap is_none (number-decimal n low))

module _ (case : Option ℕ) (parties : List PartyRow) where
  number_kept : (f : Field) (d : Data) → shape_named (field_name f) ≡ Number → IsEntered f d → text_meant case parties f (entered_text d) ≡ Ok (entered_text d)
  number_kept f null shape is = absurd is
  number_kept f (boolean b) shape is = let never : Number ≡ Flag = sym shape ∙ is in absurd (cc)
  number_kept f (number (unsigned n)) shape is =
      otherwise (takes_name f && is_name (decimal n)) (text_of_number (number_meant case parties f (decimal n))) (Ok (decimal n)) (neither (takes_name f) (is_name (decimal n)) (no_name n is.1))
  number_kept f (number (negative z)) shape is = absurd is
  number_kept f (number (float x)) shape is = absurd is
  number_kept f (string text) shape is = let never : Number ≡ Text = sym shape ∙ is.0 in absurd (cc)
  number_kept f (array items) shape is = absurd is
  number_kept f (object ms) shape is = absurd is

  case_is_number : shape_named (field_name field.Case) ≡ Number
  unfolding is_known
  case_is_number = refl

  party_is_number : shape_named (field_name field.Party) ≡ Number
  unfolding is_known
  party_is_number = refl

  opponent_is_number : shape_named (field_name field.Opponent) ≡ Number
  unfolding is_known
  opponent_is_number = refl

  text_kept : (f : Field) (d : Data) → IsEntered f d → text_meant case parties f (entered_text d) ≡ Ok (entered_text d)
  text_kept field.Case d is = number_kept field.Case d case_is_number is
  text_kept field.Party d is = number_kept field.Party d party_is_number is
  text_kept field.Opponent d is = number_kept field.Opponent d opponent_is_number is
  text_kept _ d is = refl

  pairs_kept : (es : List (Field × Option Data)) → AreEntered es → pairs_meant case parties (entered_fields es) ≡ Ok (entered_pairs es)
  pairs_kept [] are = refl
  pairs_kept ((f, None) ∷ es) are = pairs_kept es are
  pairs_kept ((f, Some d) ∷ es) are = ap₂ (with_field f) (text_kept f d are.0) (pairs_kept es are.1)

-- the line of a command's own pairs
line_is : (c : Command) → IsCommand c → CanBeEntered c → line_of (pairs_of c) ≡ canonical c
unfolding command_data
line_is c lawful are = ap (λ ms. compact_text (object ms)) (object_entered c lawful are)

pub lines_of_commands : (court : CourtSettings) (h : History) (entry : Entry) (c : Command) → IsCommand c → CanBeEntered c → GivesCommand entry c
    → (fields : List (List ℕ × List ℕ)) × (fields_named h (texts_given entry.given.now) ≡ Ok fields) × (line_entered court entry fields ≡ canonical c)
lines_of_commands court h entry c lawful are gives =
    let fields = entered_pairs (action_members c.action) in (
      fields,
      ap (fields_named h) gives.fields ∙ pairs_kept _ _ (action_members c.action) (command_entered c lawful are).1.1,
      ap₂ (λ word key. line_of ((field_name field.Do, word) ∷ (field_name field.Key, key) ∷ fields)) (ap command_word gives.kind) (ap (key_or_made court entry.clock (kind_pair entry ∷ fields)) gives.key)
          ∙ line_is c lawful are,
    )
