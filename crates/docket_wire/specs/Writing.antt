-- The canonical text of a command.
use Rattle.std.specs.Prelude.{ℕ, List, [], ◌∷◌, map, Option, Some, None, option_map}
use Rattle.serde_json.specs.Data.{Data, boolean, string, array, object, Members, no_members, put}
use Rattle.serde_json.specs.View.{items_of}
use Rattle.serde_json.specs.Written.{compact_text}
use Rattle.docket_command.specs.declared.field.Field.{Field}
use Rattle.docket_command.specs.declared.field.Field.TheVariants as field
use Rattle.docket_command.specs.declared.command.Command.{Command}
use Rattle.docket_command.specs.declared.command.Action.{Action}
use Rattle.docket_command.specs.declared.new_day.NewDay.{NewDay}
use Rattle.docket_command.specs.Words.{sovereign_word, day_kind_word, role_word, basis_word, pleading_kind_word, ruling_word, period_unit_word, direction_word, way_word, motion_kind_word, service_method_word}
use Rattle.docket_command.specs.Fields.{field_name}
use Rattle.docket_command.specs.Names.{command_word, name_of}
use Rattle.docket_command.specs.FieldTypes.{FieldType, ValueOf}
use Rattle.docket_command.specs.FieldTypes as of
use Rattle.docket_command.specs.Schema.{FieldSpec, must, may, field_of, ValueIn, Values, fields_of, values_of}
use Rattle.docket_wire.specs.Members.{written_number, written_day, written_moment, written_time, written_word}

-- a member, if it is there
abbrev pub put_some : Field → Option Data → Members → Members
put_some f None ms = ms
put_some f (Some d) ms = put (field_name f) d ms

abbrev pub put_all : List (Field × Option Data) → Members → Members
put_all [] ms = ms
put_all (e ∷ es) ms = put_all es (put_some e.0 e.1 ms)

abbrev pub new_day_members : NewDay → List (Field × Option Data)
new_day_members n = (field.Kind, Some (written_word day_kind_word n.kind)) ∷ (field.Day, Some (written_day n.day)) ∷ (field.Name, Some (string n.name)) ∷ []

abbrev pub new_day_data : NewDay → Data
new_day_data n = object (put_all (new_day_members n) no_members)

abbrev pub rows_data : List NewDay → Data
rows_data ns = array (items_of (map new_day_data ns))

-- ---- the types of fields

abbrev pub written_as : (t : FieldType) → ValueOf t → Data
written_as of.Number = written_number
written_as of.Day = written_day
written_as of.Moment = written_moment
written_as of.TimeOfDay = written_time
written_as of.Flag = boolean
written_as of.Text = string
written_as of.Rows = rows_data
written_as of.Basis = written_word basis_word
written_as of.Direction = written_word direction_word
written_as of.MotionKind = written_word motion_kind_word
written_as of.PeriodUnit = written_word period_unit_word
written_as of.PleadingKind = written_word pleading_kind_word
written_as of.Role = written_word role_word
written_as of.Ruling = written_word ruling_word
written_as of.ServiceMethod = written_word service_method_word
written_as of.Sovereign = written_word sovereign_word
written_as of.Way = written_word way_word

abbrev pub written_in : (s : FieldSpec) → ValueIn s → Option Data
written_in (must f t) x = Some (written_as t x)
written_in (may f t) x = option_map (written_as t) x

-- ---- the fields of an action

abbrev pub members_of : (ss : List FieldSpec) → Values ss → List (Field × Option Data)
members_of [] x = []
members_of (s ∷ ss) x = (field_of s, written_in s x.0) ∷ members_of ss x.1

unfoldable pub action_members : Action → List (Field × Option Data)
action_members a = members_of (fields_of (name_of a)) (values_of a)

-- ---- the whole

abbrev pub command_members : Command → List (Field × Option Data)
command_members c = (field.Do, Some (string (command_word (name_of c.action)))) ∷ (field.Key, Some (string c.key)) ∷ action_members c.action

unfoldable pub command_data : Command → Data
command_data c = object (put_all (command_members c) no_members)

-- compact JSON, with the members in the order of their names' bytes
abbrev pub canonical : Command → List ℕ
canonical c = compact_text (command_data c)
