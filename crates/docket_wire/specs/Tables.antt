-- The members of each kind of command.
use Rattle.std.specs.Prelude.{List, [], ◌∷◌, ◌++◌}
use Rattle.docket_command.specs.declared.field.Field.{Field}
use Rattle.docket_command.specs.declared.field.Field.TheVariants as field
use Rattle.docket_command.specs.declared.command_name.CommandName.{CommandName}
use Rattle.docket_command.specs.FieldTypes as of
use Rattle.docket_command.specs.Schema.{FieldSpec, must, may, fields_of}

abbrev pub that_must : List FieldSpec → List Field
that_must [] = []
that_must (must f t ∷ ss) = f ∷ that_must ss
that_must (may f t ∷ ss) = that_must ss

abbrev pub that_may : List FieldSpec → List Field
that_may [] = []
that_may (must f t ∷ ss) = that_may ss
that_may (may f t ∷ ss) = f ∷ that_may ss

-- the key of the command, and the fields of its kind
abbrev pub all_fields : CommandName → List FieldSpec
all_fields kind = must field.Key of.Text ∷ fields_of kind

-- those that must be there, in their order
abbrev pub required_fields : CommandName → List Field
required_fields kind = that_must (all_fields kind)

-- what may be there beside: the name of the kind, and the fields that may be absent
abbrev pub other_fields : CommandName → List Field
other_fields kind = field.Do ∷ that_may (all_fields kind)

-- all of them
abbrev pub known_fields : CommandName → List Field
known_fields kind = required_fields kind ++ other_fields kind
