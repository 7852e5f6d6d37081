-- The pairs by which a command is entered in a form: each of its members, as the text that a browser sends for it.
use Rattle.std.specs.Prelude.{ℕ, List, [], ◌∷◌, true, false, Option, Some, None, codes, decimal}
use Rattle.serde_json.specs.Data.{Data, null, boolean, number, string, array, object, unsigned, negative, float}
use Rattle.docket_command.specs.declared.command.Command.{Command}
use Rattle.docket_command.specs.declared.field.Field.{Field}
use Rattle.docket_command.specs.Fields.{field_name}
use Rattle.docket_wire.specs.Writing.{command_members}

-- the text of a value; arrays and objects have none in a form
abbrev pub entered_text : Data → List ℕ
entered_text null = []
entered_text (boolean true) = codes "true"
entered_text (boolean false) = codes "false"
entered_text (number (unsigned n)) = decimal n
entered_text (number (negative z)) = []
entered_text (number (float x)) = []
entered_text (string text) = text
entered_text (array items) = []
entered_text (object ms) = []

abbrev pub entered_pairs : List (Field × Option Data) → List (List ℕ × List ℕ)
entered_pairs [] = []
entered_pairs ((f, None) ∷ es) = entered_pairs es
entered_pairs ((f, Some d) ∷ es) = (field_name f, entered_text d) ∷ entered_pairs es

-- a text that is not empty, a number, or a flag: all but the rows of an import, and texts that no command of a docket has
abbrev pub IsEnterable : Data → Type 0
IsEnterable null = ⊥
IsEnterable (boolean b) = Unit {0}
IsEnterable (number n) = Unit {0}
IsEnterable (string []) = ⊥
IsEnterable (string (byte ∷ text)) = Unit {0}
IsEnterable (array items) = ⊥
IsEnterable (object ms) = ⊥

abbrev pub AreEnterable : List (Field × Option Data) → Type 0
AreEnterable [] = Unit {0}
AreEnterable ((f, None) ∷ es) = AreEnterable es
AreEnterable ((f, Some d) ∷ es) = IsEnterable d × AreEnterable es

-- the pairs of a command
abbrev pub pairs_of : Command → List (List ℕ × List ℕ)
pairs_of c = entered_pairs (command_members c)

-- each of its members can be entered
abbrev pub CanBeEntered : Command → Type 0
CanBeEntered c = AreEnterable (command_members c)
