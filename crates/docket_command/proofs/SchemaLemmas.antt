-- The action that values make has those values, and is made of them.
use Rattle.std.proofs.Common.{◌≡◌, List, [], ◌∷◌, refl}
use Rattle.docket_command.specs.declared.command.Action.{Action}
use Rattle.docket_command.specs.declared.command.Action.TheVariants as action
use Rattle.docket_command.specs.declared.command_name.CommandName.{CommandName}
use Rattle.docket_command.specs.declared.command_name.CommandName.TheVariants as name
use Rattle.docket_command.specs.Names.{name_of}
use Rattle.docket_command.specs.Schema.{FieldSpec, Values, Makes, fields_of, values_of, made_of}

abbrev pub applied : (ss : List FieldSpec) → Makes ss → Values ss → Action
applied [] made x = made
applied (s ∷ ss) make x = applied ss (make x.0) x.1

abbrev pub made : (kind : CommandName) → Values (fields_of kind) → Action
made kind x = applied (fields_of kind) (made_of kind) x

pub is_made : (a : Action) → made (name_of a) (values_of a) ≡ a
is_made (action.DeclareDay c) = refl
is_made _ = refl

-- what holds of a kind and values holds of those of the action that they make
pub of_made : (P : (kind : CommandName) → Values (fields_of kind) → Type 0) (kind : CommandName) (x : Values (fields_of kind)) → P kind x → P (name_of (made kind x)) (values_of (made kind x))
of_made P name.DeclareDay x p = p
of_made P _ x p = p
