-- When two commands are the same: of the same kind, and the same in each field.
use Rattle.std.specs.Prelude.{ℕ, Bool, true, false, ◌&&◌, List, [], ◌∷◌, ◌==◌, Option, Some, None}
use Rattle.std.specs.Str.{bytes_eq}
use Rattle.std.specs.Cmp.Lexicographic.{pointwise}
use Rattle.docket_command.specs.Words.{sovereign_word, day_kind_word, role_word, basis_word, pleading_kind_word, ruling_word, period_unit_word, direction_word, way_word, motion_kind_word, service_method_word}
use Rattle.docket_command.specs.Names.{command_word, name_of}
use Rattle.docket_command.specs.FieldTypes.{FieldType, ValueOf}
use Rattle.docket_command.specs.FieldTypes as of
use Rattle.docket_command.specs.Schema.{FieldSpec, must, may, ValueIn, Values, fields_of, values_of}
use Rattle.docket_command.specs.declared.command.Command.{Command}
use Rattle.docket_command.specs.declared.command.Action.{Action}
use Rattle.docket_command.specs.declared.new_day.NewDay.{NewDay}

-- ---- values of any type

-- the plain form of a value: a number, a flag, the bytes of a text or a word, or days
pub data Plain : Type 0 where
  absent : Plain
  a_number : ℕ → Plain
  a_flag : Bool → Plain
  a_text : List ℕ → Plain
  some_days : List NewDay → Plain

abbrev pub plain : (t : FieldType) → ValueOf t → Plain
plain of.Number x = a_number x
plain of.Day x = a_number x
plain of.Moment x = a_number x
plain of.TimeOfDay x = a_number x
plain of.Flag x = a_flag x
plain of.Text x = a_text x
plain of.Rows x = some_days x
plain of.Basis x = a_text (basis_word x)
plain of.Direction x = a_text (direction_word x)
plain of.MotionKind x = a_text (motion_kind_word x)
plain of.PeriodUnit x = a_text (period_unit_word x)
plain of.PleadingKind x = a_text (pleading_kind_word x)
plain of.Role x = a_text (role_word x)
plain of.Ruling x = a_text (ruling_word x)
plain of.ServiceMethod x = a_text (service_method_word x)
plain of.Sovereign x = a_text (sovereign_word x)
plain of.Way x = a_text (way_word x)

abbrev pub plain_if : (t : FieldType) → Option (ValueOf t) → Plain
plain_if t None = absent
plain_if t (Some x) = plain t x

abbrev pub plain_in : (s : FieldSpec) → ValueIn s → Plain
plain_in (must f t) x = plain t x
plain_in (may f t) x = plain_if t x

abbrev pub plains : (ss : List FieldSpec) → Values ss → List Plain
plains [] x = []
plains (s ∷ ss) x = plain_in s x.0 ∷ plains ss x.1

-- ---- the same

abbrev pub is_same_word : {A : Type 0} → (A → List ℕ) → A → A → Bool
is_same_word word x y = bytes_eq (word x) (word y)

abbrev pub is_same_flag : Bool → Bool → Bool
is_same_flag true y = y
is_same_flag false true = false
is_same_flag false false = true

abbrev pub is_same_new_day : NewDay → NewDay → Bool
is_same_new_day x y = is_same_word day_kind_word x.kind y.kind && (x.day == y.day && bytes_eq x.name y.name)

abbrev pub are_same_new_days : List NewDay → List NewDay → Bool
are_same_new_days = pointwise is_same_new_day

abbrev pub is_same_plain : Plain → Plain → Bool
is_same_plain absent absent = true
is_same_plain (a_number x) (a_number y) = x == y
is_same_plain (a_flag x) (a_flag y) = is_same_flag x y
is_same_plain (a_text x) (a_text y) = bytes_eq x y
is_same_plain (some_days x) (some_days y) = are_same_new_days x y
is_same_plain _ _ = false

abbrev pub plains_of : Action → List Plain
plains_of a = plains (fields_of (name_of a)) (values_of a)

unfoldable pub is_same_action : Action → Action → Bool
is_same_action a b = is_same_word command_word (name_of a) (name_of b) && pointwise is_same_plain (plains_of a) (plains_of b)

abbrev pub is_same_command : Command → Command → Bool
is_same_command c d = bytes_eq c.key d.key && is_same_action c.action d.action
