-- The limits of a command's values.
use Rattle.std.specs.Prelude.{ℕ, Bool, true, false, not, ◌&&◌, ◌||◌, if◌then◌else◌, List, [], ◌∷◌, length, nat_le, nat_lt, nat_eq, Option, Some, None, is_some, is_none}
use Rattle.std.specs.List.{list_all}
use Rattle.court_days.specs.LocalTime.{local_day}
use Rattle.court_days.specs.Court.{CourtSettings, zone_of}
use Rattle.court_days.specs.declared.calendar.Direction.{Direction}
use Rattle.court_days.specs.declared.calendar.Direction.TheVariants.{Forward}
use Rattle.docket_command.specs.Acts.{is_forward}
use Rattle.docket_command.specs.LocalRules.{is_local_name}
use Rattle.docket_command.specs.declared.choice.Basis.{Basis}
use Rattle.docket_command.specs.declared.choice.Basis.TheVariants.{Private, Officer}
use Rattle.docket_command.specs.declared.choice.PleadingKind.{PleadingKind}
use Rattle.docket_command.specs.declared.choice.PleadingKind.TheVariants.{Unanswered}
use Rattle.docket_command.specs.declared.choice.Ruling.{Ruling}
use Rattle.docket_command.specs.declared.choice.Ruling.TheVariants.{Statement}
use Rattle.docket_command.specs.declared.choice.PeriodUnit.{PeriodUnit}
use Rattle.docket_command.specs.declared.choice.PeriodUnit.TheVariants as unit
use Rattle.docket_command.specs.declared.choice.ServiceMethod.{ServiceMethod}
use Rattle.docket_command.specs.declared.time_action.OrderPeriod as order_period
use Rattle.docket_command.specs.declared.command.Action.{Action}
use Rattle.docket_command.specs.declared.command.Action.TheVariants.{DeclareDay, CloseDay, CloseSpan, ShortDay, WithdrawCalendar, ImportCalendar, OpenCase, AddParty, FileEntry, ServeSummons, FileWaiver, ServePleading, OrderReply, RuleMotion, Dispose, StatementServed, NoticeHearing, OrderPeriod, EnterJudgment, Extend, Satisfy, Vacate, LocalRule, LocalPeriod}
use Rattle.docket_command.specs.declared.field.Field.{Field}
use Rattle.docket_command.specs.declared.field.Field.TheVariants as field
use Rattle.docket_command.specs.declared.new_day.NewDay.{NewDay}
use Rattle.court_days.specs.Limits.{first_entered_day, last_entered_day}

-- a day from 2000-01-01 to 2099-12-31
abbrev pub is_entered : ℕ → Bool
is_entered day = nat_le first_entered_day day && nat_le day last_entered_day

-- an instant whose local day in the court is such a day
abbrev pub is_entered_at : CourtSettings → ℕ → Bool
is_entered_at court instant = is_entered (local_day (zone_of court) instant)

-- no control byte
abbrev pub is_plain : ℕ → Bool
is_plain byte = nat_le 0x20 byte && not (nat_eq byte 0x7F)

-- a byte of ASCII that shows
abbrev pub is_visible : ℕ → Bool
is_visible byte = nat_le 0x21 byte && nat_le byte 0x7E

-- 1 to `limit` bytes
abbrev pub is_short : ℕ → List ℕ → Bool
is_short limit text = nat_le 1 (length text) && nat_le (length text) limit

abbrev pub is_text : ℕ → List ℕ → Bool
is_text limit text = is_short limit text && list_all is_plain text

abbrev pub is_word : ℕ → List ℕ → Bool
is_word limit text = is_short limit text && list_all is_visible text

-- the first field that is bad
abbrev pub first_bad : List (Bool × Field) → Option Field
first_bad [] = None
first_bad (check ∷ checks) = if check.0 then Some check.1 else first_bad checks

abbrev pub bad_day : ℕ → Field → Bool × Field
bad_day day f = (not (is_entered day), f)

abbrev pub bad_moment : CourtSettings → ℕ → Field → Bool × Field
bad_moment court instant f = (not (is_entered_at court instant), f)

abbrev pub bad_text : ℕ → List ℕ → Field → Bool × Field
bad_text limit text f = (not (is_text limit text), f)

-- the service on the United States attorney is stated for an officer, and for no other
abbrev pub bad_attorney : Basis → Option ℕ → Bool
bad_attorney Officer None = true
bad_attorney Officer (Some day) = not (is_entered day)
bad_attorney _ None = false
bad_attorney _ (Some day) = true

abbrev pub is_new_day : NewDay → Bool
is_new_day new = is_entered new.day && is_text 100 new.name

-- a day that may be left out
abbrev pub bad_choice : Option ℕ → Field → Bool × Field
bad_choice None f = (false, f)
bad_choice (Some day) f = bad_day day f

abbrev pub bad_count : ℕ → ℕ → Field → Bool × Field
bad_count limit count f = (not (nat_le 1 count && nat_le count limit), f)

-- how the United States attorney was served is stated for an officer, and for no other
abbrev pub bad_attorney_method : Basis → Option ServiceMethod → Bool
bad_attorney_method Officer method = is_none method
bad_attorney_method _ method = is_some method

-- a pleading that allows no response has no answer by the United States
abbrev pub bad_basis : PleadingKind → Basis → Bool
bad_basis Unanswered Private = false
bad_basis Unanswered _ = true
bad_basis _ _ = false

-- a party is named where the court orders it to make a more definite statement, and with no other ruling
abbrev pub bad_party : Ruling → Option ℕ → Bool
bad_party Statement party = is_none party
bad_party _ party = is_some party

-- it is as the unit requires: there and good, or left out
abbrev pub bad_if : {A : Type 0} → Bool → (A → Bool) → Option A → Bool
bad_if true is_good None = true
bad_if true is_good (Some value) = not (is_good value)
bad_if false is_good value = is_some value

-- a period in days or months
abbrev pub in_days : PeriodUnit → Bool
in_days unit.Days = true
in_days unit.Months = true
in_days _ = false

abbrev pub in_hours : PeriodUnit → Bool
in_hours unit.Hours = true
in_hours _ = false

abbrev pub is_fixed : PeriodUnit → Bool
is_fixed unit.Fixed = true
is_fixed _ = false

-- at most 3650 days, 120 months, 8760 hours
abbrev pub most : PeriodUnit → ℕ
most unit.Days = 3650
most unit.Months = 120
most unit.Hours = 8760
most unit.Fixed = 0

-- service adds days to periods of days and months that are counted forward, and to no others
abbrev pub bad_method : PeriodUnit → Option Direction → Option ServiceMethod → Bool
bad_method unit direction None = false
bad_method unit (Some Forward) (Some method) = not (in_days unit)
bad_method unit _ (Some method) = true

-- days and months need a start, a count and a direction; hours a moment, a count and a direction; a fixed day only itself
abbrev pub bad_order : CourtSettings → order_period.OrderPeriod → List (Bool × Field)
bad_order court a =
    (bad_if (in_days a.unit) is_entered a.start, field.Start)
    ∷ (bad_if (in_hours a.unit) (is_entered_at court) a.at, field.At)
    ∷ (bad_if (not (is_fixed a.unit)) (λ count. nat_le 1 count && nat_le count (most a.unit)) a.count, field.Count)
    ∷ (bad_if (not (is_fixed a.unit)) (λ _. true) a.direction, field.Direction)
    ∷ (bad_method a.unit a.direction a.method, field.Method)
    ∷ (bad_if (is_fixed a.unit) is_entered a.until, field.Until)
    ∷ []

-- either days or a day, which may be entered
abbrev pub bad_until : Option ℕ → Option ℕ → Bool
bad_until None None = true
bad_until None (Some until) = not (is_entered until)
bad_until (Some days) until = is_some until

abbrev pub bad_days : Option ℕ → Bool
bad_days None = false
bad_days (Some days) = not (nat_le 1 days && nat_le days 3650)

-- a short day closes before the court does
abbrev pub bad_close : CourtSettings → ℕ → Bool × Field
bad_close court close = (nat_le court.close_minute close, field.Close)

-- the fields of each kind of command, in order, each with whether its value is bad
abbrev pub bad_values : CourtSettings → Action → List (Bool × Field)
bad_values court (DeclareDay a) = bad_day a.day field.Day ∷ bad_text 100 a.name field.Name ∷ []
bad_values court (CloseDay a) = bad_day a.day field.Day ∷ bad_text 100 a.name field.Name ∷ []
bad_values court (CloseSpan a) =
    bad_moment court a.start field.Start
    ∷ (not (is_entered_at court a.end) || nat_le a.end a.start, field.End)
    ∷ []
bad_values court (ShortDay a) = bad_day a.day field.Day ∷ bad_close court a.close ∷ bad_text 100 a.name field.Name ∷ []
bad_values court (ImportCalendar a) = (not (nat_le (length a.rows) 1000 && list_all is_new_day a.rows), field.Rows) ∷ []
bad_values court (OpenCase a) =
    (not (is_word 40 a.label), field.Label) ∷ bad_text 200 a.caption field.Caption ∷ bad_day a.filed field.Filed ∷ []
bad_values court (AddParty a) = bad_text 100 a.name field.Name ∷ []
bad_values court (FileEntry a) = bad_day a.day field.Day ∷ bad_text 2000 a.text field.Text ∷ []
bad_values court (ServeSummons a) = bad_day a.served field.Served ∷ (bad_attorney a.basis a.attorney, field.Attorney) ∷ []
bad_values court (FileWaiver a) =
    bad_day a.sent field.Sent
    ∷ bad_count 3650 a.allowed field.Allowed
    ∷ (not (is_entered a.returned) || nat_lt a.returned a.sent, field.Returned)
    ∷ []
bad_values court (ServePleading a) =
    (bad_basis a.kind a.basis, field.Basis)
    ∷ bad_day a.served field.Served
    ∷ (bad_attorney a.basis a.attorney, field.Attorney)
    ∷ (bad_attorney_method a.basis a.attorney_method, field.AttorneyMethod)
    ∷ []
bad_values court (OrderReply a) = bad_day a.served field.Served ∷ bad_choice a.due field.Due ∷ []
bad_values court (RuleMotion a) = bad_day a.served field.Served ∷ []
bad_values court (Dispose a) =
    bad_day a.notice field.Notice ∷ (bad_party a.outcome a.party, field.Party) ∷ bad_choice a.due field.Due ∷ []
bad_values court (StatementServed a) = bad_day a.served field.Served ∷ []
bad_values court (NoticeHearing a) = bad_day a.hearing field.Hearing ∷ []
bad_values court (OrderPeriod a) = bad_order court a
bad_values court (EnterJudgment a) = bad_day a.entered field.Entered ∷ bad_choice a.discharged field.Discharged ∷ []
bad_values court (Extend a) =
    bad_moment court a.at field.At
    ∷ (bad_days a.days, field.Days)
    ∷ (bad_until a.days a.until, field.Until)
    ∷ []
bad_values court (Satisfy a) = bad_moment court a.at field.At ∷ []
bad_values court (LocalRule a) =
    (not (is_local_name a.name), field.Name)
    ∷ bad_count 3650 a.days field.Days
    ∷ (a.three && not (is_forward a.direction), field.Three)
    ∷ []
-- no text is a bad value for the name of a local rule: it names one or none
bad_values court (LocalPeriod a) = bad_day a.start field.Start ∷ []
-- numbers are no bad values: they name what is there or not
bad_values court (WithdrawCalendar a) = []
bad_values court (Vacate a) = []
