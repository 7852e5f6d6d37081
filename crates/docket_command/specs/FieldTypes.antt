-- The types of fields, and the values of each.
use Rattle.std.specs.Prelude.{ℕ, List, Bool}
use Rattle.court_rules.specs.calendar.Direction as direction
use Rattle.court_rules.specs.filing.Way as way
use Rattle.court_rules.specs.declared.act.MotionKind as motion_kind
use Rattle.docket_command.specs.declared.choice.Basis as basis
use Rattle.docket_command.specs.declared.choice.PeriodUnit as period_unit
use Rattle.docket_command.specs.declared.choice.PleadingKind as pleading_kind
use Rattle.docket_command.specs.declared.choice.Role as role
use Rattle.docket_command.specs.declared.choice.Ruling as ruling
use Rattle.docket_command.specs.declared.choice.ServiceMethod as service_method
use Rattle.docket_command.specs.declared.choice.Sovereign as sovereign
use Rattle.docket_command.specs.declared.new_day.NewDay.{NewDay}

pub data FieldType : Type 0 where
  Number : FieldType
  Day : FieldType
  Moment : FieldType
  TimeOfDay : FieldType
  Flag : FieldType
  Text : FieldType
  Rows : FieldType
  Basis : FieldType
  Direction : FieldType
  MotionKind : FieldType
  PeriodUnit : FieldType
  PleadingKind : FieldType
  Role : FieldType
  Ruling : FieldType
  ServiceMethod : FieldType
  Sovereign : FieldType
  Way : FieldType

-- a text is its bytes, a day its number, a moment its seconds, a time of day its minutes
abbrev pub ValueOf : FieldType → Type 0
ValueOf Number = ℕ
ValueOf Day = ℕ
ValueOf Moment = ℕ
ValueOf TimeOfDay = ℕ
ValueOf Flag = Bool
ValueOf Text = List ℕ
ValueOf Rows = List NewDay
ValueOf Basis = basis.Basis
ValueOf Direction = direction.Direction
ValueOf MotionKind = motion_kind.MotionKind
ValueOf PeriodUnit = period_unit.PeriodUnit
ValueOf PleadingKind = pleading_kind.PleadingKind
ValueOf Role = role.Role
ValueOf Ruling = ruling.Ruling
ValueOf ServiceMethod = service_method.ServiceMethod
ValueOf Sovereign = sovereign.Sovereign
ValueOf Way = way.Way
