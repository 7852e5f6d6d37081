-- What the cells of a row determine of its record.
use Rattle.std.proofs.Common.{◌≡◌, ◌∙◌, ◌==◌, ℕ, ℤ, pos, negsuc, if◌then◌else◌, Bool, true, false, List, map, refl, sym, ap}
use Rattle.sqlite.specs.Order.{Row, column}
use Rattle.sqlite.specs.declared.types.Value.{Value}
use Rattle.sqlite.specs.declared.types.Value.TheVariants.{Int}
use Rattle.sqlite_trees.specs.Objects.{number_in}
use Rattle.sqlite_trees.proofs.ListLemmas.{map-map}
use Rattle.court_days.specs.declared.calendar.DayKind.{DayKind}
use Rattle.court_days.specs.declared.calendar.DayKind.TheVariants.{Federal, State, Closed}
use Rattle.court_days.specs.declared.calendar.Direction.{Direction}
use Rattle.court_days.specs.declared.calendar.Direction.TheVariants.{Forward, Backward}
use Rattle.court_days.specs.declared.filing.Way.{Way}
use Rattle.court_days.specs.declared.filing.Way.TheVariants.{Electronic, Office}
use Rattle.court_rules.specs.declared.act.Act.{Act}
use Rattle.court_rules.specs.declared.act.Act.TheVariants as act
use Rattle.court_rules.specs.declared.act.MotionKind.{MotionKind}
use Rattle.court_rules.specs.declared.act.MotionKind.TheVariants.{B, E, F}
use Rattle.court_rules.specs.declared.act.Start.TheVariants as start
use Rattle.court_rules.specs.declared.table.Period.{Period}
use Rattle.court_rules.specs.declared.table.Period.TheVariants.{Days, Months}
use Rattle.docket_history.specs.Histories.{items_of}
use Rattle.docket_history.specs.declared.item.CalendarItem.{CalendarItem}
use Rattle.docket_history.specs.declared.item.CalendarItem.TheVariants as item
use Rattle.docket_history.specs.declared.row.ActRow.{ActRow}
use Rattle.docket_history.specs.declared.row.CalendarRow.{CalendarRow}
use Rattle.docket_history.specs.declared.row.DeadlineRow.{DeadlineRow}
use Rattle.docket_history.specs.declared.row.PartyRow.{PartyRow}
use Rattle.docket_columns.specs.Cells.{calendar_cells, party_cells, deadline_cells, act_cells}
use Rattle.docket_columns.specs.Codes.{item_code, act_code, unit_number, unit_count, direction_number, flag_number}
use Rattle.docket_sound.specs.Deadlines.{deadline_key}
use Rattle.docket_sound.specs.Parties.{party_key}
use Rattle.docket_sound.specs.declared.numbering.Key.{Key}

-- rows with the same cells agree in all that the cells determine
told_alike : {R X : Type 0} (cells : R → Row) (told : R → X) (back : Row → X) → ((r : R) → back (cells r) ≡ told r) → (rs ss : List R) → map cells rs ≡ map cells ss → map told rs ≡ map told ss
told_alike {R} cells told back tells rs ss same = all rs ∙ ap (map back) same ∙ sym (all ss)
  where
    all : (xs : List R) → map told xs ≡ map back (map cells xs)
    all xs = ap (λ f. map f xs) (λ i r. sym (tells r) i) ∙ sym (map-map back cells xs)

abbrev count_of : ℤ → ℕ
count_of (pos n) = n
count_of (negsuc n) = 0

abbrev whole_in : Value → ℤ
whole_in (Int z) = z
whole_in _ = pos 0

-- the case and the number in it
abbrev key_in : Row → Key
key_in row = record { case = number_in (column row 0); number = number_in (column row 1) }

pub party_keys : (rs ss : List PartyRow) → map party_cells rs ≡ map party_cells ss → map party_key rs ≡ map party_key ss
party_keys = told_alike party_cells party_key key_in (λ r. refl)

pub deadline_keys : (rs ss : List DeadlineRow) → map deadline_cells rs ≡ map deadline_cells ss → map deadline_key rs ≡ map deadline_key ss
deadline_keys = told_alike deadline_cells deadline_key key_in (λ r. refl)

-- the item of a calendar row
abbrev kind_of : ℕ → DayKind
kind_of n = if n == 1 then Federal else if n == 2 then State else Closed

abbrev item_of : ℕ → ℤ → ℤ → CalendarItem
item_of kind a b = if kind == 4 then item.Span (count_of a) (count_of b) else if kind == 0 then item.Short (count_of a) (count_of b) else item.Day (kind_of kind) (count_of a)

item_is : (i : CalendarItem) → item_of (item_code i).kind (item_code i).a (item_code i).b ≡ i
item_is (item.Day Federal day) = refl
item_is (item.Day State day) = refl
item_is (item.Day Closed day) = refl
item_is (item.Span start end) = refl
item_is (item.Short day close) = refl

abbrev item_in : Row → CalendarItem
item_in row = item_of (number_in (column row 1)) (whole_in (column row 2)) (whole_in (column row 3))

pub calendar_items : (rs ss : List CalendarRow) → map calendar_cells rs ≡ map calendar_cells ss → items_of rs ≡ items_of ss
calendar_items = told_alike calendar_cells (λ r. r.item) item_in (λ r. item_is r.item)

pub calendar_numbers : (rs ss : List CalendarRow) → map calendar_cells rs ≡ map calendar_cells ss → map (λ (r : CalendarRow). r.number) rs ≡ map (λ (r : CalendarRow). r.number) ss
calendar_numbers = told_alike calendar_cells (λ r. r.number) (λ row. number_in (column row 0)) (λ r. refl)

-- an act
abbrev direction_of : ℕ → Direction
direction_of n = if n == 1 then Forward else Backward

abbrev way_of : ℕ → Way
way_of n = if n == 1 then Electronic else Office

abbrev motion_of : ℕ → MotionKind
motion_of n = if n == 1 then B else if n == 2 then E else F

abbrev period_of : ℕ → ℕ → Period
period_of unit count = if unit == 1 then Days count else Months count

abbrev start_of : ℤ → ℕ → ℕ → ℕ → ℕ → Act
start_of p1 p2 p3 p4 p5 =
    if p2 == 3 then act.Start (start.Hours (record { at = p1; hours = p3; direction = direction_of p4 }))
    else act.Start (start.Days (record { trigger = count_of p1; period = period_of p2 p3; direction = direction_of p4; three_days = p5 == 1 }))

abbrev act_of : ℕ → ℤ → ℕ → ℕ → ℕ → ℕ → Act
act_of kind p1 p2 p3 p4 p5 =
    if kind == 1 then start_of p1 p2 p3 p4 p5
    else if kind == 2 then act.Fixed (count_of p1)
    else if kind == 3 then act.ExtendBy (count_of p1)
    else if kind == 4 then act.ExtendTo (count_of p1)
    else if kind == 5 then act.Motion (count_of p1) (motion_of p2)
    else if kind == 6 then act.Resume (count_of p1) (p2 == 1)
    else if kind == 7 then act.AwaitStatement (count_of p1)
    else if kind == 8 then act.Done p1 (way_of p2)
    else act.Vacated

direction_is : (d : Direction) → direction_of (direction_number d) ≡ d
direction_is Forward = refl
direction_is Backward = refl

flag_is : (b : Bool) → (flag_number b == 1) ≡ b
flag_is true = refl
flag_is false = refl

days_are : (trigger : ℕ) (p : Period) (d : Direction) (b : Bool)
    → act_of 1 (pos trigger) (unit_number p) (unit_count p) (direction_number d) (flag_number b) ≡ act.Start (start.Days (record { trigger = trigger; period = p; direction = d; three_days = b }))
days_are trigger (Days count) d b = λ i. act.Start (start.Days (record { trigger = trigger; period = Days count; direction = direction_is d i; three_days = flag_is b i }))
days_are trigger (Months count) d b = λ i. act.Start (start.Days (record { trigger = trigger; period = Months count; direction = direction_is d i; three_days = flag_is b i }))

act_is : (a : Act) → act_of (act_code a).kind (act_code a).p1 (act_code a).p2 (act_code a).p3 (act_code a).p4 (act_code a).p5 ≡ a
act_is (act.Start (start.Days s)) = days_are s.trigger s.period s.direction s.three_days
act_is (act.Start (start.Hours s)) = λ i. act.Start (start.Hours (record { at = s.at; hours = s.hours; direction = direction_is s.direction i }))
act_is (act.Fixed day) = refl
act_is (act.ExtendBy days) = refl
act_is (act.ExtendTo day) = refl
act_is (act.Motion served B) = refl
act_is (act.Motion served E) = refl
act_is (act.Motion served F) = refl
act_is (act.Resume day three) = λ i. act.Resume day (flag_is three i)
act_is (act.AwaitStatement notice) = refl
act_is (act.Done at Electronic) = refl
act_is (act.Done at Office) = refl
act_is act.Vacated = refl

abbrev act_in : Row → Act
act_in row = act_of (number_in (column row 3)) (whole_in (column row 4)) (number_in (column row 5)) (number_in (column row 6)) (number_in (column row 7)) (number_in (column row 8))

abbrev act_row_in : Row → ActRow
act_row_in row = record { case = number_in (column row 0); deadline = number_in (column row 1); number = number_in (column row 2); act = act_in row }

act_row_is : (r : ActRow) → act_row_in (act_cells r) ≡ r
act_row_is r = λ i. record { case = r.case; deadline = r.deadline; number = r.number; act = act_is r.act i }

itself : {X : Type 0} (xs : List X) → map (λ x. x) xs ≡ xs
itself xs = Rattle.std.proofs.Common.map-id xs

pub act_rows_alike : (rs ss : List ActRow) → map act_cells rs ≡ map act_cells ss → rs ≡ ss
act_rows_alike rs ss same = sym (itself rs) ∙ told_alike act_cells (λ r. r) act_row_in act_row_is rs ss same ∙ itself ss
