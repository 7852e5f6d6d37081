-- The numbers that stand in a column for what a row chooses among.
use Rattle.std.specs.Prelude.{ℕ, ℤ, pos, Bool, if◌then◌else◌}
use Rattle.court_days.specs.declared.calendar.DayKind.{DayKind}
use Rattle.court_days.specs.declared.calendar.DayKind.TheVariants.{Federal, State, Closed}
use Rattle.court_days.specs.declared.calendar.Direction.{Direction}
use Rattle.court_days.specs.declared.calendar.Direction.TheVariants.{Forward, Backward}
use Rattle.court_days.specs.declared.filing.Way.{Way}
use Rattle.court_days.specs.declared.filing.Way.TheVariants.{Electronic, Office}
use Rattle.court_rules.specs.declared.act.Act.{Act}
use Rattle.court_rules.specs.declared.act.Act.TheVariants as act
use Rattle.court_rules.specs.declared.act.MotionKind.{MotionKind}
use Rattle.court_rules.specs.declared.act.MotionKind.TheVariants.{B, E, F}
use Rattle.court_rules.specs.declared.act.Start.TheVariants as start
use Rattle.court_rules.specs.declared.table.Period.{Period}
use Rattle.court_rules.specs.declared.table.Period.TheVariants.{Days, Months}
use Rattle.docket_command.specs.declared.choice.Role.{Role}
use Rattle.docket_command.specs.declared.choice.Role.TheVariants.{Plaintiff, Defendant, Other}
use Rattle.docket_history.specs.declared.item.CalendarItem.{CalendarItem}
use Rattle.docket_history.specs.declared.item.CalendarItem.TheVariants as item
use Rattle.docket_columns.specs.declared.act.ActCode.{ActCode}
use Rattle.docket_columns.specs.declared.calendar.ItemCode.{ItemCode}

abbrev pub flag_number : Bool → ℕ
flag_number b = if b then 1 else 0

abbrev pub role_number : Role → ℕ
role_number Plaintiff = 1
role_number Defendant = 2
role_number Other = 3

abbrev pub direction_number : Direction → ℕ
direction_number Forward = 1
direction_number Backward = 2

abbrev pub way_number : Way → ℕ
way_number Electronic = 1
way_number Office = 2

-- by a rule 12(b) defense, under rule 12(e), under rule 12(f)
abbrev pub motion_number : MotionKind → ℕ
motion_number B = 1
motion_number E = 2
motion_number F = 3

abbrev pub day_kind_number : DayKind → ℕ
day_kind_number Federal = 1
day_kind_number State = 2
day_kind_number Closed = 3

-- what a row of the calendar enters: its kind, the day or the start, and the end
abbrev pub item_code : CalendarItem → ItemCode
item_code (item.Day kind day) = record { kind = day_kind_number kind; a = pos day; b = pos 0 }
item_code (item.Span start end) = record { kind = 4; a = pos start; b = pos end }
-- a short day stands in a table of its own: no row of the calendar's has this kind
item_code (item.Short day close) = record { kind = 0; a = pos day; b = pos close }

-- days 1, months 2; hours are 3
abbrev pub unit_number : Period → ℕ
unit_number (Days count) = 1
unit_number (Months count) = 2

abbrev pub unit_count : Period → ℕ
unit_count (Days count) = count
unit_count (Months count) = count

abbrev pub coded : ℕ → ℤ → ℕ → ℕ → ℕ → ℕ → ActCode
coded kind p1 p2 p3 p4 p5 = record { kind = kind; p1 = p1; p2 = p2; p3 = p3; p4 = p4; p5 = p5 }

-- an act: its kind, and what it holds
abbrev pub act_code : Act → ActCode
act_code (act.Start (start.Days s)) = coded 1 (pos s.trigger) (unit_number s.period) (unit_count s.period) (direction_number s.direction) (flag_number s.three_days)
act_code (act.Start (start.Hours s)) = coded 1 s.at 3 s.hours (direction_number s.direction) 0
act_code (act.Fixed day) = coded 2 (pos day) 0 0 0 0
act_code (act.ExtendBy days) = coded 3 (pos days) 0 0 0 0
act_code (act.ExtendTo day) = coded 4 (pos day) 0 0 0 0
act_code (act.Motion served kind) = coded 5 (pos served) (motion_number kind) 0 0 0
act_code (act.Resume day three) = coded 6 (pos day) (flag_number three) 0 0 0
act_code (act.AwaitStatement notice) = coded 7 (pos notice) 0 0 0 0
act_code (act.Done at way) = coded 8 at (way_number way) 0 0 0
act_code act.Vacated = coded 9 (pos 0) 0 0 0 0
