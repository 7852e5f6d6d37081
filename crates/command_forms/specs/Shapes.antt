-- What the text of a member means in a form: a number, true or false, or itself.
use Rattle.std.specs.Prelude.{ℕ, List, [], ◌∷◌, if◌then◌else◌}
use Rattle.docket_command.specs.declared.field.Field.{Field}
use Rattle.docket_command.specs.declared.field.Field.TheVariants as field
use Rattle.docket_command.specs.FieldTypes.{FieldType}
use Rattle.docket_command.specs.FieldTypes as of
use Rattle.docket_wire.specs.Reading.{is_known}
use Rattle.command_forms.specs.declared.shape.Shape.{Shape}
use Rattle.command_forms.specs.declared.shape.Shape.TheVariants.{Number, Flag, Text}

-- by its name alone, since a name stands for one shape in all kinds of commands (`fields_have_one_shape`)
abbrev pub number_fields : List Field
number_fields = field.Row ∷ field.Case ∷ field.Party ∷ field.Allowed ∷ field.Deadline ∷ field.Opponent ∷ field.Count ∷ field.Days ∷ []

abbrev pub flag_fields : List Field
flag_fields = field.Abroad ∷ field.Neglect ∷ field.Three ∷ field.Extendable ∷ []

abbrev pub shape_named : List ℕ → Shape
shape_named name = if is_known number_fields name then Number else if is_known flag_fields name then Flag else Text

-- the shape of a type of fields; the rows of an import are entered in no form
abbrev pub shape_of : FieldType → Shape
shape_of of.Number = Number
shape_of of.Flag = Flag
shape_of of.Day = Text
shape_of of.Moment = Text
shape_of of.TimeOfDay = Text
shape_of of.Text = Text
shape_of of.Rows = Text
shape_of of.Basis = Text
shape_of of.Direction = Text
shape_of of.MotionKind = Text
shape_of of.PeriodUnit = Text
shape_of of.PleadingKind = Text
shape_of of.Role = Text
shape_of of.Ruling = Text
shape_of of.ServiceMethod = Text
shape_of of.Sovereign = Text
shape_of of.Way = Text
