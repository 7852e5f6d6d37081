-- The command that a JSON value means, and the first fault where it means none.
use Rattle.std.specs.Prelude.{ℕ, List, [], ◌∷◌, Bool, true, ◌&&◌, Option, Some, None, option_map, option_and_then, Result, Ok, Err, find, is_none, if◌then◌else◌, codes}
use Rattle.std.specs.List.{list_any}
use Rattle.std.specs.Option.{option_map_or}
use Rattle.std.specs.Result.{result_ok}
use Rattle.std.specs.Str.{bytes_eq, is_utf8}
use Rattle.serde_json.specs.Data.{Data, Items, no_items, item, Members, no_members, member}
use Rattle.serde_json.specs.Find.{get, as_str, as_bool, as_array, as_object}
use Rattle.serde_json.specs.Read.{read}
use Rattle.docket_command.specs.declared.field.Field.{Field}
use Rattle.docket_command.specs.declared.field.Field.TheVariants as field
use Rattle.docket_wire.specs.declared.fault.WireFault.{WireFault}
use Rattle.docket_wire.specs.declared.fault.WireFault.TheVariants.{NotJson, NotAnObject, UnknownCommand, MissingField, UnknownField}
use Rattle.docket_command.specs.Words.{sovereign_named, day_kind_named, role_named, basis_named, pleading_kind_named, ruling_named, period_unit_named, direction_named, way_named, motion_kind_named, service_method_named}
use Rattle.docket_command.specs.Fields.{field_name}
use Rattle.docket_command.specs.Names.{command_named}
use Rattle.docket_command.specs.FieldTypes.{FieldType, ValueOf}
use Rattle.docket_command.specs.FieldTypes as of
use Rattle.docket_command.specs.Schema.{FieldSpec, must, may, ValueIn, Makes, fields_of, made_of}
use Rattle.docket_wire.specs.Tables.{required_fields, known_fields}
use Rattle.docket_wire.specs.Members.{◌>>=◌, present, or_fault, required, optional, a_number, a_day, a_moment, a_time, a_word}
use Rattle.docket_command.specs.declared.command.Command.{Command}
use Rattle.docket_command.specs.declared.command.Action.{Action}
use Rattle.docket_command.specs.declared.command_name.CommandName.{CommandName}
use Rattle.docket_command.specs.declared.new_day.NewDay.{NewDay}

-- the first of the fields that is not there
abbrev pub first_missing : List Field → Data → Option Field
first_missing fields d = find (λ f. is_none (present f d)) fields

-- a name of one of the fields
unfoldable pub is_known : List Field → List ℕ → Bool
is_known fields k = list_any (λ f. bytes_eq k (field_name f)) fields

abbrev pub all_known : List Field → Members → Bool
all_known fields no_members = true
all_known fields (member k d ms) = is_known fields k && all_known fields ms

-- no other members than these
abbrev pub only_known : List Field → Data → Bool
only_known fields d = option_map_or (all_known fields) (as_object d) true

-- a fault, if it is there
abbrev pub refuse : Option WireFault → Result Bool WireFault
refuse None = Ok true
refuse (Some e) = Err e

abbrev pub no_missing : List Field → Data → Result Bool WireFault
no_missing fields d = refuse (option_map MissingField (first_missing fields d))

abbrev pub no_other : List Field → Data → Result Bool WireFault
no_other fields d = if only_known fields d then Ok true else Err UnknownField

-- ---- the rows of an import

abbrev pub new_day_fields : List Field
new_day_fields = field.Kind ∷ field.Day ∷ field.Name ∷ []

unfoldable pub new_day_at : Data → Result NewDay WireFault
new_day_at d = do
  kind ← required (a_word day_kind_named) field.Kind d
  day ← required a_day field.Day d
  name ← required as_str field.Name d
  known ← no_other new_day_fields d
  Ok (record { kind = kind; day = day; name = name })

unfoldable pub new_days_of : Items → Option (List NewDay)
new_days_of no_items = Some []
new_days_of (item d ds) = option_and_then (λ n. option_map (λ ns. n ∷ ns) (new_days_of ds)) (result_ok (new_day_at d))

abbrev pub rows_of : Data → Option (List NewDay)
rows_of d = option_and_then new_days_of (as_array d)

-- ---- the types of fields

abbrev pub meaning_of : (t : FieldType) → Data → Option (ValueOf t)
meaning_of of.Number = a_number
meaning_of of.Day = a_day
meaning_of of.Moment = a_moment
meaning_of of.TimeOfDay = a_time
meaning_of of.Flag = as_bool
meaning_of of.Text = as_str
meaning_of of.Rows = rows_of
meaning_of of.Basis = a_word basis_named
meaning_of of.Direction = a_word direction_named
meaning_of of.MotionKind = a_word motion_kind_named
meaning_of of.PeriodUnit = a_word period_unit_named
meaning_of of.PleadingKind = a_word pleading_kind_named
meaning_of of.Role = a_word role_named
meaning_of of.Ruling = a_word ruling_named
meaning_of of.ServiceMethod = a_word service_method_named
meaning_of of.Sovereign = a_word sovereign_named
meaning_of of.Way = a_word way_named

-- ---- the fields of an action, one after another

abbrev pub read_field : (s : FieldSpec) → Data → Result (ValueIn s) WireFault
read_field (must f t) d = required (meaning_of t) f d
read_field (may f t) d = optional (meaning_of t) f d

abbrev pub read_fields : (ss : List FieldSpec) → Makes ss → Data → Result Action WireFault
read_fields [] made d = Ok made
read_fields (s ∷ ss) make d = read_field s d >>= (λ x. read_fields ss (make x) d)

unfoldable pub action_at : CommandName → Data → Result Action WireFault
action_at kind d = read_fields (fields_of kind) (made_of kind) d

-- ---- the whole

-- the kind of command that `do` names
abbrev pub name_of_object : Data → Option CommandName
name_of_object d = option_and_then command_named (option_and_then as_str (get (codes "do") d))

unfoldable pub command_of : Data → Result Command WireFault
command_of d = do
  members ← or_fault NotAnObject (as_object d)
  name ← or_fault UnknownCommand (name_of_object d)
  there ← no_missing (required_fields name) d
  key ← required as_str field.Key d
  action ← action_at name d
  known ← no_other (known_fields name) d
  Ok (record { key = key; action = action })

-- the value of a text
abbrev pub json_of : List ℕ → Option Data
json_of bytes = if is_utf8 bytes then read bytes else None

unfoldable pub command_in : List ℕ → Result Command WireFault
command_in bytes = or_fault NotJson (json_of bytes) >>= command_of
