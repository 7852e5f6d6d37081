-- The fault of a text that spells no command: the first of these sentences that is true of it.
use Rattle.std.specs.Prelude.{◌≡◌, ℕ, List, Bool, false, not, Option, Some, None, option_map, is_some, find, IsSome}
use Rattle.std.specs.Option.{option_map_or}
use Rattle.serde_json.specs.Data.{Data}
use Rattle.serde_json.specs.Find.{as_object}
use Rattle.docket_command.specs.declared.field.Field.{Field}
use Rattle.docket_command.specs.declared.command_name.CommandName.{CommandName}
use Rattle.docket_wire.specs.declared.fault.WireFault.{WireFault}
use Rattle.docket_wire.specs.declared.fault.WireFault.TheVariants.{NotJson, NotAnObject, UnknownCommand, MissingField, WrongField, UnknownField}
use Rattle.docket_command.specs.Schema.{FieldSpec, field_of, type_of}
use Rattle.docket_wire.specs.Tables.{all_fields, required_fields, known_fields}
use Rattle.docket_wire.specs.Members.{present}
use Rattle.docket_wire.specs.Reading.{json_of, first_missing, only_known, name_of_object, meaning_of}

-- the field is there, with a value that means nothing for it
unfoldable pub is_wrong : Data → FieldSpec → Bool
is_wrong d s = option_map_or (λ v. not (is_some (meaning_of (type_of s) v))) (present (field_of s) d) false

-- the first such field
abbrev pub first_wrong : CommandName → Data → Option Field
first_wrong kind d = option_map field_of (find (is_wrong d) (all_fields kind))

-- an object whose member `do` names that kind of command
abbrev pub IsOfKind : Data → CommandName → Type 0
IsOfKind d kind = IsSome (as_object d) × (name_of_object d ≡ Some kind)

-- the fault of a text: the first sentence that is true
pub data HasFault (bytes : List ℕ) (fault : WireFault) : Type 0 where
  not_json : fault ≡ NotJson → json_of bytes ≡ None → HasFault bytes fault
  not_an_object : (d : Data) → fault ≡ NotAnObject → json_of bytes ≡ Some d → as_object d ≡ None → HasFault bytes fault
  unknown_command : (d : Data) → fault ≡ UnknownCommand → json_of bytes ≡ Some d → IsSome (as_object d) → name_of_object d ≡ None → HasFault bytes fault
  missing_field : (d : Data) (kind : CommandName) (f : Field) → fault ≡ MissingField f → json_of bytes ≡ Some d → IsOfKind d kind
      → first_missing (required_fields kind) d ≡ Some f → HasFault bytes fault
  wrong_field : (d : Data) (kind : CommandName) (f : Field) → fault ≡ WrongField f → json_of bytes ≡ Some d → IsOfKind d kind
      → first_missing (required_fields kind) d ≡ None → first_wrong kind d ≡ Some f → HasFault bytes fault
  unknown_field : (d : Data) (kind : CommandName) → fault ≡ UnknownField → json_of bytes ≡ Some d → IsOfKind d kind
      → first_missing (required_fields kind) d ≡ None → first_wrong kind d ≡ None → only_known (known_fields kind) d ≡ false → HasFault bytes fault
