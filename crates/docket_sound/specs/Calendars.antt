-- When the rows of a calendar are sound.
use Rattle.std.specs.Prelude.{◌≡◌, ℕ, ◌<◌, ◌≤◌, nat_lt, Bool, true, false, ◌&&◌, List, [], ◌∷◌, ◌++◌, map, length, Result, Ok, Err, IsTrue}
use Rattle.std.specs.List.{AllByRecursion}
use Rattle.std.specs.FinMap as fin_map
use Rattle.std.specs.FinSet.{contains}
use Rattle.court_days.specs.Calendar.{Entered, days_of, rows_of}
use Rattle.court_days.specs.Court.{CourtSettings}
use Rattle.court_days.specs.declared.calendar.CalendarFault.{CalendarFault}
use Rattle.court_days.specs.declared.calendar.CalendarFault.TheVariants.{OutOfRange, Full, NoMemory}
use Rattle.docket_history.specs.CalendarItems.{stands_among, with_item, calendar_of, IsEnteredItem}
use Rattle.docket_history.specs.Histories.{items_of}
pub use Rattle.docket_decisions.specs.CalendarRows.{is_sound_item, is_well_named}
use Rattle.docket_history.specs.declared.item.CalendarItem.{CalendarItem}
use Rattle.docket_history.specs.declared.item.CalendarItem.TheVariants.{Day, Span, Short}
use Rattle.docket_history.specs.declared.row.CalendarRow.{CalendarRow}
use Rattle.docket_sound.specs.Numbers.{Rises}
use Rattle.docket_sound.specs.declared.calendar.CalendarCheck.{CalendarCheck}
use Rattle.court_days.specs.Limits.{most_rows}

abbrev pub is_sound_row : CourtSettings → CalendarRow → Bool
is_sound_row court row = is_sound_item court row.item && is_well_named row.item row.name

-- no item is there twice: none is among those before it
abbrev pub EachIsNew : List CalendarItem → List CalendarItem → Type 0
EachIsNew before [] = Unit {0}
EachIsNew before (item ∷ more) = (stands_among before item ≡ false) × EachIsNew (before ++ item ∷ []) more

-- the number is one of those that were given to rows
abbrev pub IsGiven : ℕ → ℕ → Type 0
IsGiven next_row number = (1 ≤ number) × (number < next_row)

-- the rows have rising numbers below the number of the next row, no two enter the same, and there are at most 4,000
pub record AreSoundCalendarRows (court : CourtSettings) (next_row : ℕ) (rows : List CalendarRow) : Type 0 where
  pub rising : Rises (map (λ row. row.number) rows)
  pub given : AllByRecursion (λ row. IsGiven next_row row.number) rows
  pub apart : EachIsNew [] (items_of rows)
  pub few : length rows ≤ most_rows
  pub within : AllByRecursion (λ row. IsTrue (is_sound_row court row)) rows

-- the item stands
abbrev pub stands : Entered → CalendarItem → Bool
stands entered (Day kind day) = contains (days_of entered kind) day
stands entered (Span start end) = contains entered.spans (record { start = start; end = end })
stands entered (Short day close) = fin_map.contains_key entered.short day

-- the result of entering an item
abbrev pub Enters : Entered → CalendarItem → Entered → Result Bool CalendarFault → Type 0
Enters old item new (Ok true) = (stands old item ≡ false) × (new ≡ with_item old item) × (rows_of new ≤ most_rows)
Enters old item new (Ok false) = stands old item ≡ true
Enters old item new (Err OutOfRange) = IsEnteredItem item → ⊥
Enters old item new (Err Full) = rows_of old ≡ most_rows
Enters old item new (Err NoMemory) = Unit {0}

-- the row may come next after that number, but for what it enters
abbrev pub may_come : CourtSettings → ℕ → ℕ → CalendarRow → Bool
may_come court next_row last row = nat_lt last row.number && nat_lt row.number next_row && is_sound_row court row

-- the last of the numbers, or n
abbrev pub last_of : ℕ → List ℕ → ℕ
last_of n [] = n
last_of n (m ∷ more) = last_of m more

-- these rows were entered one after another: the last number, and the calendar
pub record HasEntered (court : CourtSettings) (next_row last : ℕ) (entered : Entered) (rows : List CalendarRow) : Type 0 where
  pub highest : last ≡ last_of 0 (map (λ row. row.number) rows)
  pub calendar : entered ≡ calendar_of (items_of rows)
  pub standing : (item : CalendarItem) → stands entered item ≡ stands_among (items_of rows) item
  pub counted : rows_of entered ≡ length rows
  pub sound : AreSoundCalendarRows court next_row rows

-- these rows were taken
pub record HasTakenCalendarRows (check : CalendarCheck) (rows : List CalendarRow) : Type 0 where
  pub numbers : check.numbers.items ≡ map (λ row. row.number) rows
  pub entered : HasEntered check.court check.next_row check.last check.calendar rows
