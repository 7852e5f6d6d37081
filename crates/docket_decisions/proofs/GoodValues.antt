-- What follows where no value of a command is bad.
use Rattle.std.proofs.Common.{◌≡◌, ℕ, ◌+◌, ◌≤◌, Bool, true, false, not, cond, ◌&&◌, Option, Some, None, List, [], ◌∷◌, ◌++◌, if◌then◌else◌, length, map, ℤ, pos, negsuc, ◌+ℤ◌, ◌-ℤ◌, ◌*ℤ◌, ◌≤ℤ◌, unsigned_abs, refl, arith, nat_le, rules}
use Rattle.std.specs.List.{All, AllByRecursion, list_all}
use Rattle.std.specs.Prelude.{nat_lt}
use Rattle.std.proofs.lemmas.Int.{ints}
use Rattle.std.proofs.lemmas.List.Elements.{All-nil, All-cons, All-head, All-tail}
use Rattle.std.proofs.lemmas.Bool.Decides.{nat_tests}
use Rattle.std.proofs.lemmas.Bool.{and_parts, not-false, or_parts}
use Rattle.civil_time.specs.LocalTime.{local_day, local_time, offset_in_force, is_summer, standard_time}
use Rattle.civil_time.specs.Zone.{ZoneRules, IsZone}
use Rattle.court_days.specs.Civil.{IsEnteredDay}
use Rattle.court_days.specs.Court.{CourtSettings, zone_of}
use Rattle.court_days.proofs.CourtLemmas.{zone_of-is_zone}
use Rattle.docket_command.specs.declared.command.Action.{Action}
use Rattle.docket_command.specs.declared.command.Action.TheVariants as action
use Rattle.docket_command.specs.declared.field.Field.{Field}
use Rattle.docket_command.specs.declared.new_day.NewDay.{NewDay}
use Rattle.docket_history.specs.Actions.{rows_asked, imported}
use Rattle.docket_history.specs.CalendarItems.{IsEnteredItem, stands_among, fresh}
use Rattle.docket_history.specs.Histories.{numbered, items_of}
use Rattle.docket_values.specs.Values.{first_bad, bad_values, is_entered, is_entered_at, is_text, is_new_day}
use Rattle.docket_history.specs.declared.item.CalendarItem.{CalendarItem}
use Rattle.docket_history.specs.declared.item.CalendarItem.TheVariants.{Day, Span, Short}
use Rattle.docket_history.specs.declared.item.NewRow.{NewRow}
use Rattle.docket_decisions.specs.CalendarRows.{is_sound_item, is_well_named}

-- no field is bad
abbrev pub AreGood : List (Bool × Field) → Type 0
AreGood [] = Unit {0}
AreGood (check ∷ checks) = (check.0 ≡ false) × AreGood checks

-- where a first check passes, so do the others
pub passes : (b : Bool) (f : Field) (rest : Option Field) → (if b then Some f else rest) ≡ None → (b ≡ false) × (rest ≡ None)
passes true f rest e = absurd (cc)
passes false f rest e = (refl, e)

pub all_good : (checks : List (Bool × Field)) → first_bad checks ≡ None → AreGood checks
all_good [] e = tt
all_good (check ∷ checks) e = let both = passes check.0 check.1 (first_bad checks) e in (both.0, all_good checks both.1)

pub entered_day : (day : ℕ) → is_entered day ≡ true → IsEnteredDay day
entered_day day e =
    let both = and_parts (nat_le 10_957 day) (nat_le day 47_481) e in
    (grind (arith, nat_tests, both.0), grind (arith, nat_tests, both.1))

-- a clock is at most 13 hours from Greenwich
near_abs : (z : ℤ) (t : ℕ) → (pos t -ℤ pos 46_800) ≤ℤ z → z ≤ℤ (pos t +ℤ pos 46_800) → (t ≤ unsigned_abs z + 46_800) × (unsigned_abs z ≤ t + 46_800)
near_abs (pos n) t low high = (omega (arith, ints), omega (arith, ints))
near_abs (negsuc n) t low high = (omega (arith, ints), omega (arith, ints))

summer_hour : (b : Bool) → cond b 1 0 ≤ 1
summer_hour true = omega arith
summer_hour false = omega arith

local_near : (zone : ZoneRules) (t : ℕ) → IsZone zone → (t ≤ local_time zone t + 46_800) × (local_time zone t ≤ t + 46_800)
unfolding local_time offset_in_force
local_near zone t is =
    let hour = summer_hour (is_summer zone.summer (standard_time zone t)) in
    near_abs (pos t +ℤ pos 3600 *ℤ (pos (cond (is_summer zone.summer (standard_time zone t)) 1 0) -ℤ zone.hours_west)) t
    (omega (arith, ints, hour, is.hours)) (omega (arith, ints, hour, is.hours))

-- an instant whose local day may be entered lies near the days that may be entered
pub entered_instant : (court : CourtSettings) (t : ℕ) → is_entered_at court t ≡ true → (946_598_400 ≤ t) × (t ≤ 4_102_531_200)
entered_instant court t e =
    let day = entered_day (local_day (zone_of court) t) e in
    let near = local_near (zone_of court) t (zone_of-is_zone court) in
    (omega (arith, day.0, day.1, near.0, near.1), omega (arith, day.0, day.1, near.0, near.1))

-- an item within its limits may be entered
pub may_be_entered : (court : CourtSettings) (item : CalendarItem) → is_sound_item court item ≡ true → IsEnteredItem item
may_be_entered court (Day kind day) sound = entered_day day sound
may_be_entered court (Span start end) sound =
    let parts = and_parts _ (nat_lt start end) sound in
    let ends = and_parts (is_entered_at court start) (is_entered_at court end) parts.0 in
    ((entered_instant court start ends.0).0, grind (arith, nat_tests, parts.1), (entered_instant court end ends.1).1)
may_be_entered court (Short day close) sound = entered_day day (and_parts (is_entered day) (nat_lt close court.close_minute) sound).0

-- a row that the court may enter
abbrev pub IsGoodRow : CourtSettings → NewRow → Type 0
IsGoodRow court row = (is_sound_item court row.item && is_well_named row.item row.name) ≡ true

days_good : (court : CourtSettings) (days : List NewDay) → list_all is_new_day days ≡ true → AllByRecursion (IsGoodRow court) (map imported days)
days_good court [] all = tt
days_good court (day ∷ days) all = let both = and_parts (is_new_day day) (list_all is_new_day days) all in (both.0, days_good court days both.1)

-- each row that is asked for is one
pub rows_good : (court : CourtSettings) (a : Action) → first_bad (bad_values court a) ≡ None → AllByRecursion (IsGoodRow court) (rows_asked a)
rows_good court (action.CloseSpan a) good =
    let fields = all_good (bad_values court (action.CloseSpan a)) good in
    let ends = or_parts (not (is_entered_at court a.end)) (nat_le a.end a.start) fields.1.0 in
    let later = ends.1 in
    let before : nat_lt a.start a.end ≡ true = grind (arith, nat_tests, later) in
    (rw (not-false (is_entered_at court a.start) fields.0, not-false (is_entered_at court a.end) ends.0, before) refl, tt)
rows_good court (action.ShortDay a) good =
    let fields = all_good (bad_values court (action.ShortDay a)) good in
    let later = fields.1.0 in
    let sooner : nat_lt a.close court.close_minute ≡ true = grind (arith, nat_tests, later) in
    (rw (not-false (is_entered a.day) fields.0, sooner, not-false (is_text 100 a.name) fields.1.1.0) refl, tt)
rows_good court (action.ImportCalendar a) good =
    let rows = not-false (nat_le (length a.rows) 1000 && list_all is_new_day a.rows) (all_good (bad_values court (action.ImportCalendar a)) good).0 in
    days_good court a.rows (and_parts (nat_le (length a.rows) 1000) (list_all is_new_day a.rows) rows).1
rows_good court a good = search rules

abbrev AreEntered : List NewRow → Type 0
AreEntered rows = All (λ (row : NewRow). IsEnteredItem row.item) rows

all_entered : (court : CourtSettings) (rows : List NewRow) → AllByRecursion (IsGoodRow court) rows → AreEntered rows
all_entered court [] good = All-nil (λ (r : NewRow). IsEnteredItem r.item)
all_entered court (row ∷ rows) good =
    All-cons (λ (r : NewRow). IsEnteredItem r.item) row rows
    (may_be_entered court row.item (and_parts (is_sound_item court row.item) (is_well_named row.item row.name) good.0).0) (all_entered court rows good.1)

pub asked_entered : (court : CourtSettings) (a : Action) → first_bad (bad_values court a) ≡ None → AreEntered (rows_asked a)
asked_entered court a good = all_entered court (rows_asked a) (rows_good court a good)

-- those that are not there yet
fresh_if : (b : Bool) (new : NewRow) (rows others : List NewRow) → IsEnteredItem new.item → AreEntered rows → AreEntered others → AreEntered (if b then rows else new ∷ others)
fresh_if true new rows others here less more = less
fresh_if false new rows others here less more = All-cons (λ (r : NewRow). IsEnteredItem r.item) new others here more

pub fresh_entered : (standing : List CalendarItem) (asked : List NewRow) → AreEntered asked → AreEntered (fresh standing asked)
fresh_entered standing [] all = all
fresh_entered standing (new ∷ others) all =
    let P : NewRow → Type 0 = λ r. IsEnteredItem r.item in
    fresh_if (stands_among standing new.item) new _ _ (All-head P new others all)
    (fresh_entered standing others (All-tail P new others all))
    (fresh_entered (standing ++ new.item ∷ []) others (All-tail P new others all))

-- and as numbered rows
pub numbered_entered : (number : ℕ) (rows : List NewRow) → AreEntered rows → All IsEnteredItem (items_of (numbered number rows))
numbered_entered number [] all = All-nil IsEnteredItem
numbered_entered number (row ∷ rows) all =
    let P : NewRow → Type 0 = λ r. IsEnteredItem r.item in
    All-cons IsEnteredItem row.item (items_of (numbered (number + 1) rows)) (All-head P row rows all)
    (numbered_entered (number + 1) rows (All-tail P row rows all))
