-- The values that commands of a program have.
use Rattle.std.specs.Prelude.{ℕ, ◌^◌, ◌<◌, List, [], ◌∷◌, IfSome, IsUtf8}
use Rattle.std.specs.List.{AllByRecursion}
use Rattle.civil_time.specs.Civil.{IsDayNumber}
use Rattle.docket_command.specs.Moments.{IsWholeMinute}
use Rattle.docket_command.specs.declared.command.Command.{Command}
use Rattle.docket_command.specs.declared.command.Action.{Action}
use Rattle.docket_command.specs.Names.{name_of}
use Rattle.docket_command.specs.declared.new_day.NewDay.{NewDay}
use Rattle.docket_command.specs.FieldTypes.{FieldType, ValueOf}
use Rattle.docket_command.specs.FieldTypes as of
use Rattle.docket_command.specs.Schema.{FieldSpec, must, may, ValueIn, Values, fields_of, values_of}

abbrev pub IsNumber : ℕ → Type 0
IsNumber n = n < 2 ^ 32

-- a minute of a day
abbrev pub IsMinute : ℕ → Type 0
IsMinute n = n < 1440

abbrev pub IsNewDay : NewDay → Type 0
IsNewDay n = IsDayNumber n.day × IsUtf8 n.name

-- whether a program has the value
abbrev pub IsLawful : (t : FieldType) → ValueOf t → Type 0
IsLawful of.Number x = IsNumber x
IsLawful of.Day x = IsDayNumber x
IsLawful of.Moment x = IsWholeMinute x
IsLawful of.TimeOfDay x = IsMinute x
IsLawful of.Text x = IsUtf8 x
IsLawful of.Rows x = AllByRecursion IsNewDay x
IsLawful _ x = Unit {0}

abbrev pub IsLawfulIn : (s : FieldSpec) → ValueIn s → Type 0
IsLawfulIn (must f t) x = IsLawful t x
IsLawfulIn (may f t) x = IfSome x (IsLawful t)

abbrev pub AreLawful : (ss : List FieldSpec) → Values ss → Type 0
AreLawful [] x = Unit {0}
AreLawful (s ∷ ss) x = IsLawfulIn s x.0 × AreLawful ss x.1

unfoldable pub IsAction : Action → Type 0
IsAction a = AreLawful (fields_of (name_of a)) (values_of a)

-- numbers below 2^32, days, moments and times of day in their limits, texts of UTF-8
abbrev pub IsCommand : Command → Type 0
IsCommand c = IsUtf8 c.key × IsAction c.action
