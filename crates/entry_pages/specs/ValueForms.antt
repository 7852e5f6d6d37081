-- How a value is written on a command line, by its type.
use Rattle.std.specs.Prelude.{ℕ, List, [], ◌∷◌, ◌++◌, bytes_eq, if◌then◌else◌, codes}
use Rattle.std.specs.List.{flat_map}
use Rattle.docket_command.specs.declared.command_name.CommandName.{CommandName}
use Rattle.docket_command.specs.declared.field.Field.{Field}
use Rattle.docket_command.specs.Fields.{field_name}
use Rattle.docket_command.specs.FieldTypes.{FieldType}
use Rattle.docket_command.specs.FieldTypes as of
use Rattle.docket_command.specs.Schema.{FieldSpec, field_of, type_of, fields_of}
use Rattle.entry_pages.specs.Controls.{choices_of}

-- the type of the field of that name, which is a text where there is none
abbrev pub type_among : Field → List FieldSpec → FieldType
type_among f [] = of.Text
type_among f (s ∷ ss) = if bytes_eq (field_name (field_of s)) (field_name f) then type_of s else type_among f ss

-- the type of a field in a kind of command
abbrev pub type_in : CommandName → Field → FieldType
type_in kind f = type_among f (fields_of kind)

-- what stands for the value behind an option; a flag has none
abbrev pub value_name : FieldType → List ℕ
value_name of.Number = codes " NUMBER"
value_name of.Day = codes " DAY"
value_name of.Moment = codes " MOMENT"
value_name of.TimeOfDay = codes " HH:MM"
value_name of.Flag = []
value_name of.Text = codes " TEXT"
value_name of.Rows = codes " ROWS"
value_name _ = codes " WORD"

-- a word, and those that follow
abbrev pub next_word : List ℕ × List ℕ → List ℕ
next_word choice = codes ", " ++ choice.0

-- one of the words of some choices
abbrev pub words_of : List (List ℕ × List ℕ) → List ℕ
words_of [] = []
words_of (choice ∷ choices) = codes "one of " ++ (choice.0 ++ flat_map next_word choices)

-- the form of a value, by an example or by its words
abbrev pub value_form : FieldType → List ℕ
value_form of.Number = codes "a number, at most 4294967295"
value_form of.Day = codes "a day, as 2026-06-02"
value_form of.Moment = codes "a moment, as 2025-11-01T17:00-05:00, with the court's offset on that day"
value_form of.TimeOfDay = codes "a time of day, as 17:00"
value_form of.Text = codes "a text"
value_form of.Rows = codes "a table of days, by docketctl import"
value_form t = words_of (choices_of t)
