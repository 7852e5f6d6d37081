-- The texts that a person gives for the fields of a command.
use Rattle.std.specs.Prelude.{ℕ, List, map}
use Rattle.docket_command.specs.declared.field.Field.{Field}
use Rattle.command_forms.specs.declared.given.FieldText.{FieldText}

-- each with its field, in their order
abbrev pub texts_given : List FieldText → List (Field × List ℕ)
texts_given given = map (λ it. (it.field, it.text.now)) given
