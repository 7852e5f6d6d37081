-- A command's value has no float.
use Rattle.std.proofs.Common.{◌≡◌, false, List, [], ◌∷◌, Option, refl}
use Rattle.std.specs.Prelude.{map}
use Rattle.serde_json.specs.Data.{Data, object, Members, no_members, member}
use Rattle.serde_json.specs.View.{items_of}
use Rattle.serde_json.specs.Written.{has_float, items_have_float, members_have_float}
use Rattle.docket_command.specs.declared.field.Field.{Field}
use Rattle.docket_command.specs.declared.command.Command.{Command}
use Rattle.docket_command.specs.declared.new_day.NewDay.{NewDay}
use Rattle.docket_command.specs.Names.{name_of}
use Rattle.docket_command.specs.FieldTypes.{FieldType, ValueOf}
use Rattle.docket_command.specs.FieldTypes as of
use Rattle.docket_command.specs.Schema.{FieldSpec, must, may, ValueIn, Values, values_of}
use Rattle.docket_wire.specs.Tables.{all_fields}
use Rattle.docket_wire.specs.Writing.{put_all, new_day_members, new_day_data, written_as, written_in, members_of, action_members, command_members, command_data}
use Rattle.docket_wire.proofs.MemberLemmas.{AllMembers, EachValue, ValueOnly, values_put_all, IfThere, IfThere-map}

abbrev NoFloat : Data → Type 0
NoFloat d = has_float d ≡ false

members_no_float : (ms : Members) → AllMembers (ValueOnly NoFloat) ms → members_have_float ms ≡ false
members_no_float no_members h = refl
members_no_float (member k d ms) h = rw h.0 (members_no_float ms h.1)

object_no_float : (es : List (Field × Option Data)) → EachValue NoFloat es → has_float (object (put_all es no_members)) ≡ false
object_no_float es h = members_no_float _ (values_put_all NoFloat es no_members h tt)

rows_no_float : (ns : List NewDay) → items_have_float (items_of (map new_day_data ns)) ≡ false
rows_no_float [] = refl
rows_no_float (n ∷ ns) = rw (object_no_float (new_day_members n) (refl, (refl, (refl, tt)))) (rows_no_float ns)

type_no_float : (t : FieldType) (x : ValueOf t) → NoFloat (written_as t x)
type_no_float of.Number x = refl
type_no_float of.Rows x = rows_no_float x
type_no_float _ x = refl

field_no_float : (s : FieldSpec) (x : ValueIn s) → IfThere NoFloat (written_in s x)
field_no_float (must f t) x = type_no_float t x
field_no_float (may f t) x = IfThere-map NoFloat (written_as t) x (type_no_float t)

fields_no_float : (ss : List FieldSpec) (x : Values ss) → EachValue NoFloat (members_of ss x)
fields_no_float [] x = tt
fields_no_float (s ∷ ss) x = (field_no_float s x.0, fields_no_float ss x.1)

pub no_float : (c : Command) → has_float (command_data c) ≡ false
unfolding command_data action_members
no_float c = object_no_float (command_members c) (refl, fields_no_float (all_fields (name_of c.action)) (c.key, values_of c.action))
