-- The fields that are entered are those of the one table.
use Rattle.docket_command.specs.FieldTypes.{FieldType}
use Rattle.docket_command.specs.FieldTypes as of
use Rattle.docket_command.specs.Schema.{FieldSpec, must, may}
use Rattle.command_forms.specs.declared.entered.Entered.{Entered}
use Rattle.command_forms.specs.declared.entered.Entered.TheVariants.{Must, May}
use Rattle.command_forms.specs.declared.entered.Input.{Input}
use Rattle.command_forms.specs.declared.entered.Input.TheVariants as input

abbrev pub type_of_input : Input → FieldType
type_of_input input.Number = of.Number
type_of_input input.Day = of.Day
type_of_input input.Moment = of.Moment
type_of_input input.TimeOfDay = of.TimeOfDay
type_of_input input.Flag = of.Flag
type_of_input input.Text = of.Text
type_of_input input.Rows = of.Rows
type_of_input input.Basis = of.Basis
type_of_input input.Direction = of.Direction
type_of_input input.MotionKind = of.MotionKind
type_of_input input.PeriodUnit = of.PeriodUnit
type_of_input input.PleadingKind = of.PleadingKind
type_of_input input.Role = of.Role
type_of_input input.Ruling = of.Ruling
type_of_input input.ServiceMethod = of.ServiceMethod
type_of_input input.Sovereign = of.Sovereign
type_of_input input.Way = of.Way

-- the row of the table that it is
abbrev pub spec_of : Entered → FieldSpec
spec_of (Must f i) = must f (type_of_input i)
spec_of (May f i) = may f (type_of_input i)
