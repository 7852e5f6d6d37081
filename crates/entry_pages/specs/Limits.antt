-- What the value of a field may be, as said behind the field's option on a terminal. Empty where nothing more is to be said.
use Rattle.std.specs.Prelude.{ℕ, List, [], codes}
use Rattle.docket_command.specs.declared.command_name.CommandName.{CommandName}
use Rattle.docket_command.specs.declared.command_name.CommandName.TheVariants as kind
use Rattle.docket_command.specs.declared.field.Field.{Field}
use Rattle.docket_command.specs.declared.field.Field.TheVariants as field
use Rattle.docket_command.specs.FieldTypes.{FieldType}
use Rattle.docket_command.specs.FieldTypes as of

-- of a type
abbrev pub range_of : FieldType → List ℕ
range_of of.Day = codes "takes a day from 2000-01-01 to 2099-12-31"
range_of of.Moment = codes "takes a moment from 2000 to 2099"
range_of _ = []

-- ---- fields that mean something else from kind to kind

abbrev pub name_limit : CommandName → List ℕ
name_limit kind.LocalRule = codes "takes 3 to 16 visible characters of ASCII that begin with LR"
name_limit _ = codes "takes 1 to 100 bytes, and no control characters"

abbrev pub start_limit : CommandName → List ℕ
start_limit kind.OrderPeriod = codes "is given with --unit days or months, and with no other"
start_limit _ = []

abbrev pub at_limit : CommandName → List ℕ
at_limit kind.OrderPeriod = codes "is given with --unit hours, and with no other"
at_limit _ = []

abbrev pub party_limit : CommandName → List ℕ
party_limit kind.OrderPeriod = codes "takes a number, 0 for every party, or a name"
party_limit kind.Dispose = codes "takes a number or a name, and is given with --outcome statement, and with no other"
party_limit _ = codes "takes a number or a name"

abbrev pub basis_limit : CommandName → List ℕ
basis_limit kind.ServePleading = codes "is private where --kind is unanswered"
basis_limit _ = []

abbrev pub direction_limit : CommandName → List ℕ
direction_limit kind.OrderPeriod = codes "is given with --unit days, months or hours, and with no other"
direction_limit _ = []

abbrev pub method_limit : CommandName → List ℕ
method_limit kind.OrderPeriod = codes "is given with --unit days or months and --direction forward alone"
method_limit _ = []

abbrev pub until_limit : CommandName → List ℕ
until_limit kind.OrderPeriod = codes "is given with --unit fixed, and with no other"
until_limit _ = codes "is given where --days is not"

abbrev pub days_limit : CommandName → List ℕ
days_limit kind.Extend = codes "takes 1 to 3650, and is given where --until is not"
days_limit _ = codes "takes 1 to 3650"

-- ---- all fields

abbrev pub limit_of : CommandName → Field → List ℕ
limit_of k field.Name = name_limit k
limit_of k field.Start = start_limit k
limit_of k field.End = codes "is after --start"
limit_of k field.Close = codes "takes a time before the court's closing"
limit_of k field.Row = codes "takes a number that docketctl holidays --db shows"
limit_of k field.Label = codes "takes 1 to 40 visible characters of ASCII, and no blanks"
limit_of k field.Caption = codes "takes 1 to 200 bytes, and no control characters"
limit_of k field.Text = codes "takes 1 to 2000 bytes, and no control characters"
limit_of k field.Case = codes "takes the case's number or its docket number"
limit_of k field.Party = party_limit k
limit_of k field.Opponent = codes "takes a number or a name"
limit_of k field.Deadline = codes "takes a number that docketctl case shows"
limit_of k field.Basis = basis_limit k
limit_of k field.Attorney = codes "is given with --basis officer, and with no other"
limit_of k field.AttorneyMethod = codes "is given with --basis officer, and with no other"
limit_of k field.Allowed = codes "takes 1 to 3650"
limit_of k field.Returned = codes "is not before --sent"
limit_of k field.At = at_limit k
limit_of k field.Count = codes "takes 1 to 3650 days, 120 months or 8760 hours, and is not given with --unit fixed"
limit_of k field.Direction = direction_limit k
limit_of k field.Method = method_limit k
limit_of k field.Until = until_limit k
limit_of k field.Discharged = codes "is given where the jury was discharged without a verdict on an issue"
limit_of k field.Days = days_limit k
limit_of k field.Three = codes "is not given with --direction backward"
limit_of k field.Rule = codes "takes a name that docketctl rules --db shows"
limit_of k _ = []
