-- The fields of each kind of command, in their order, and the command that values of them make.
use Rattle.std.specs.Prelude.{List, [], ◌∷◌, Option}
use Rattle.docket_command.specs.declared.field.Field.{Field}
use Rattle.docket_command.specs.declared.field.Field.TheVariants as field
use Rattle.docket_command.specs.declared.command.Action.{Action}
use Rattle.docket_command.specs.declared.command.Action.TheVariants as action
use Rattle.docket_command.specs.declared.command_name.CommandName.{CommandName}
use Rattle.docket_command.specs.declared.command_name.CommandName.TheVariants as name
use Rattle.docket_command.specs.Names.{name_of}
use Rattle.docket_command.specs.FieldTypes.{FieldType, ValueOf}
use Rattle.docket_command.specs.FieldTypes as of

-- a field, which must be there, or may be absent or null
pub data FieldSpec : Type 0 where
  must : Field → FieldType → FieldSpec
  may : Field → FieldType → FieldSpec

abbrev pub field_of : FieldSpec → Field
field_of (must f t) = f
field_of (may f t) = f

abbrev pub type_of : FieldSpec → FieldType
type_of (must f t) = t
type_of (may f t) = t

-- ---- the table

abbrev pub fields_of : CommandName → List FieldSpec
fields_of name.DeclareDay = must field.Day of.Day ∷ must field.Kind of.Sovereign ∷ must field.Name of.Text ∷ []
fields_of name.CloseDay = must field.Day of.Day ∷ must field.Name of.Text ∷ []
fields_of name.CloseSpan = must field.Start of.Moment ∷ must field.End of.Moment ∷ []
fields_of name.ShortDay = must field.Day of.Day ∷ must field.Close of.TimeOfDay ∷ must field.Name of.Text ∷ []
fields_of name.WithdrawCalendar = must field.Row of.Number ∷ []
fields_of name.ImportCalendar = must field.Rows of.Rows ∷ []
fields_of name.OpenCase = must field.Label of.Text ∷ must field.Caption of.Text ∷ must field.Filed of.Day ∷ []
fields_of name.AddParty = must field.Case of.Number ∷ must field.Name of.Text ∷ must field.Role of.Role ∷ []
fields_of name.FileEntry = must field.Case of.Number ∷ must field.Day of.Day ∷ must field.Text of.Text ∷ []
fields_of name.ServeSummons = must field.Case of.Number ∷ must field.Party of.Number ∷ must field.Basis of.Basis ∷ must field.Served of.Day ∷ may field.Attorney of.Day ∷ []
fields_of name.FileWaiver = must field.Case of.Number ∷ must field.Party of.Number ∷ must field.Sent of.Day ∷ must field.Allowed of.Number ∷ must field.Returned of.Day ∷ must field.Abroad of.Flag ∷ []
fields_of name.ServePleading = must field.Case of.Number ∷ must field.Party of.Number ∷ must field.Kind of.PleadingKind ∷ must field.Basis of.Basis ∷ must field.Served of.Day ∷ must field.Method of.ServiceMethod ∷ may field.Attorney of.Day ∷ may field.AttorneyMethod of.ServiceMethod ∷ []
fields_of name.OrderReply = must field.Case of.Number ∷ must field.Party of.Number ∷ must field.Served of.Day ∷ must field.Method of.ServiceMethod ∷ may field.Due of.Day ∷ []
fields_of name.RuleMotion = must field.Case of.Number ∷ must field.Deadline of.Number ∷ must field.Kind of.MotionKind ∷ must field.Served of.Day ∷ []
fields_of name.Dispose = must field.Case of.Number ∷ must field.Deadline of.Number ∷ must field.Outcome of.Ruling ∷ must field.Notice of.Day ∷ may field.Party of.Number ∷ may field.Due of.Day ∷ []
fields_of name.StatementServed = must field.Case of.Number ∷ must field.Deadline of.Number ∷ must field.Served of.Day ∷ must field.Method of.ServiceMethod ∷ []
fields_of name.NoticeHearing = must field.Case of.Number ∷ must field.Party of.Number ∷ must field.Opponent of.Number ∷ must field.Hearing of.Day ∷ []
fields_of name.OrderPeriod = must field.Case of.Number ∷ must field.Party of.Number ∷ must field.Unit of.PeriodUnit ∷ may field.Start of.Day ∷ may field.At of.Moment ∷ may field.Count of.Number ∷ may field.Direction of.Direction ∷ may field.Method of.ServiceMethod ∷ may field.Until of.Day ∷ []
fields_of name.EnterJudgment = must field.Case of.Number ∷ must field.Entered of.Day ∷ may field.Discharged of.Day ∷ []
fields_of name.Extend = must field.Case of.Number ∷ must field.Deadline of.Number ∷ must field.At of.Moment ∷ must field.Neglect of.Flag ∷ may field.Days of.Number ∷ may field.Until of.Day ∷ []
fields_of name.Satisfy = must field.Case of.Number ∷ must field.Deadline of.Number ∷ must field.At of.Moment ∷ must field.Way of.Way ∷ []
fields_of name.Vacate = must field.Case of.Number ∷ must field.Deadline of.Number ∷ []
fields_of name.LocalRule = must field.Name of.Text ∷ must field.Days of.Number ∷ must field.Direction of.Direction ∷ must field.Three of.Flag ∷ must field.Extendable of.Flag ∷ []
fields_of name.LocalPeriod = must field.Case of.Number ∷ must field.Party of.Number ∷ must field.Rule of.Text ∷ must field.Start of.Day ∷ may field.Method of.ServiceMethod ∷ []

-- ---- values of fields

abbrev pub ValueIn : FieldSpec → Type 0
ValueIn (must f t) = ValueOf t
ValueIn (may f t) = Option (ValueOf t)

-- one value for each field
abbrev pub Values : List FieldSpec → Type 0
Values [] = Unit {0}
Values (s ∷ ss) = ValueIn s × Values ss

-- what takes the values of those fields, one after another, and makes an action of them
abbrev pub Makes : List FieldSpec → Type 0
Makes [] = Action
Makes (s ∷ ss) = ValueIn s → Makes ss

-- the values of an action's fields
abbrev pub values_of : (a : Action) → Values (fields_of (name_of a))
values_of (action.DeclareDay c) = (c.day, (c.kind, (c.name, tt)))
values_of (action.CloseDay c) = (c.day, (c.name, tt))
values_of (action.CloseSpan c) = (c.start, (c.end, tt))
values_of (action.ShortDay c) = (c.day, (c.close, (c.name, tt)))
values_of (action.WithdrawCalendar c) = (c.row, tt)
values_of (action.ImportCalendar c) = (c.rows, tt)
values_of (action.OpenCase c) = (c.label, (c.caption, (c.filed, tt)))
values_of (action.AddParty c) = (c.case, (c.name, (c.role, tt)))
values_of (action.FileEntry c) = (c.case, (c.day, (c.text, tt)))
values_of (action.ServeSummons c) = (c.case, (c.party, (c.basis, (c.served, (c.attorney, tt)))))
values_of (action.FileWaiver c) = (c.case, (c.party, (c.sent, (c.allowed, (c.returned, (c.abroad, tt))))))
values_of (action.ServePleading c) = (c.case, (c.party, (c.kind, (c.basis, (c.served, (c.method, (c.attorney, (c.attorney_method, tt))))))))
values_of (action.OrderReply c) = (c.case, (c.party, (c.served, (c.method, (c.due, tt)))))
values_of (action.RuleMotion c) = (c.case, (c.deadline, (c.kind, (c.served, tt))))
values_of (action.Dispose c) = (c.case, (c.deadline, (c.outcome, (c.notice, (c.party, (c.due, tt))))))
values_of (action.StatementServed c) = (c.case, (c.deadline, (c.served, (c.method, tt))))
values_of (action.NoticeHearing c) = (c.case, (c.party, (c.opponent, (c.hearing, tt))))
values_of (action.OrderPeriod c) = (c.case, (c.party, (c.unit, (c.start, (c.at, (c.count, (c.direction, (c.method, (c.until, tt)))))))))
values_of (action.EnterJudgment c) = (c.case, (c.entered, (c.discharged, tt)))
values_of (action.Extend c) = (c.case, (c.deadline, (c.at, (c.neglect, (c.days, (c.until, tt))))))
values_of (action.Satisfy c) = (c.case, (c.deadline, (c.at, (c.way, tt))))
values_of (action.Vacate c) = (c.case, (c.deadline, tt))
values_of (action.LocalRule c) = (c.name, (c.days, (c.direction, (c.three, (c.extendable, tt)))))
values_of (action.LocalPeriod c) = (c.case, (c.party, (c.rule, (c.start, (c.method, tt)))))

-- the action with those values
abbrev pub made_of : (kind : CommandName) → Makes (fields_of kind)
made_of name.DeclareDay = λ day kind name. action.DeclareDay (record { day = day; kind = kind; name = name })
made_of name.CloseDay = λ day name. action.CloseDay (record { day = day; name = name })
made_of name.CloseSpan = λ start end. action.CloseSpan (record { start = start; end = end })
made_of name.ShortDay = λ day close name. action.ShortDay (record { day = day; close = close; name = name })
made_of name.WithdrawCalendar = λ row. action.WithdrawCalendar (record { row = row })
made_of name.ImportCalendar = λ rows. action.ImportCalendar (record { rows = rows })
made_of name.OpenCase = λ label caption filed. action.OpenCase (record { label = label; caption = caption; filed = filed })
made_of name.AddParty = λ case name role. action.AddParty (record { case = case; name = name; role = role })
made_of name.FileEntry = λ case day text. action.FileEntry (record { case = case; day = day; text = text })
made_of name.ServeSummons = λ case party basis served attorney. action.ServeSummons (record { case = case; party = party; basis = basis; served = served; attorney = attorney })
made_of name.FileWaiver = λ case party sent allowed returned abroad. action.FileWaiver (record { case = case; party = party; sent = sent; allowed = allowed; returned = returned; abroad = abroad })
made_of name.ServePleading = λ case party kind basis served method attorney attorney_method. action.ServePleading (record { case = case; party = party; kind = kind; basis = basis; served = served; method = method; attorney = attorney; attorney_method = attorney_method })
made_of name.OrderReply = λ case party served method due. action.OrderReply (record { case = case; party = party; served = served; method = method; due = due })
made_of name.RuleMotion = λ case deadline kind served. action.RuleMotion (record { case = case; deadline = deadline; kind = kind; served = served })
made_of name.Dispose = λ case deadline outcome notice party due. action.Dispose (record { case = case; deadline = deadline; outcome = outcome; notice = notice; party = party; due = due })
made_of name.StatementServed = λ case deadline served method. action.StatementServed (record { case = case; deadline = deadline; served = served; method = method })
made_of name.NoticeHearing = λ case party opponent hearing. action.NoticeHearing (record { case = case; party = party; opponent = opponent; hearing = hearing })
made_of name.OrderPeriod = λ case party unit start at count direction method until. action.OrderPeriod (record { case = case; party = party; unit = unit; start = start; at = at; count = count; direction = direction; method = method; until = until })
made_of name.EnterJudgment = λ case entered discharged. action.EnterJudgment (record { case = case; entered = entered; discharged = discharged })
made_of name.Extend = λ case deadline at neglect days until. action.Extend (record { case = case; deadline = deadline; at = at; neglect = neglect; days = days; until = until })
made_of name.Satisfy = λ case deadline at way. action.Satisfy (record { case = case; deadline = deadline; at = at; way = way })
made_of name.Vacate = λ case deadline. action.Vacate (record { case = case; deadline = deadline })
made_of name.LocalRule = λ rule_name days direction three extendable. action.LocalRule (record { name = rule_name; days = days; direction = direction; three = three; extendable = extendable })
made_of name.LocalPeriod = λ case party rule start method. action.LocalPeriod (record { case = case; party = party; rule = rule; start = start; method = method })
