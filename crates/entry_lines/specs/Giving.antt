-- An entry that gives a command as it is.
use Rattle.std.specs.Prelude.{◌≡◌, ℕ, List, [], ◌∷◌, Option, Some, None, option_copied}
use Rattle.serde_json.specs.Data.{Data}
use Rattle.command_forms.specs.Entering.{entered_text}
use Rattle.command_forms.specs.Given.{texts_given}
use Rattle.docket_command.specs.Names.{name_of}
use Rattle.docket_command.specs.declared.command.Command.{Command}
use Rattle.docket_command.specs.declared.field.Field.{Field}
use Rattle.docket_wire.specs.Writing.{action_members}
use Rattle.entry_lines.specs.declared.entry.Entry.{Entry}

-- the members that are there, each as the text by which it is entered
abbrev pub entered_fields : List (Field × Option Data) → List (Field × List ℕ)
entered_fields [] = []
entered_fields ((f, None) ∷ es) = entered_fields es
entered_fields ((f, Some d) ∷ es) = (f, entered_text d) ∷ entered_fields es

-- the kind, the key and the fields of the command; cases and parties stand there by their numbers
pub record GivesCommand (entry : Entry) (c : Command) : Type 0 where
  pub kind : entry.kind ≡ name_of c.action
  pub key : option_copied entry.key ≡ Some c.key
  pub fields : texts_given entry.given.now ≡ entered_fields (action_members c.action)
