-- When the rows of short days are sound.
use Rattle.std.specs.Prelude.{◌≡◌, ℕ, ◌+◌, ◌≤◌, ◌==◌, nat_lt, Bool, false, not, ◌&&◌, List, [], map, length, IsTrue}
use Rattle.std.specs.List.{AllByRecursion, list_any}
use Rattle.court_days.specs.Calendar.{rows_of}
use Rattle.docket_history.specs.CalendarItems.{calendar_of, stands_among}
use Rattle.docket_history.specs.Histories.{items_of}
use Rattle.docket_history.specs.ShortDays.{calendar_row}
use Rattle.docket_values.specs.Values.{is_entered, is_text}
use Rattle.docket_history.specs.declared.item.CalendarItem.{CalendarItem}
use Rattle.docket_history.specs.declared.row.ShortDayRow.{ShortDayRow}
use Rattle.docket_sound.specs.Calendars.{EachIsNew, IsGiven, last_of, stands}
use Rattle.docket_sound.specs.Numbers.{Rises}
use Rattle.docket_sound.specs.declared.short_day.ShortDayCheck.{ShortDayCheck}
use Rattle.court_days.specs.Limits.{most_rows}

abbrev pub numbers_of : List ShortDayRow → List ℕ
numbers_of rows = map (λ row. row.number) rows

-- what the rows enter
abbrev pub short_items : List ShortDayRow → List CalendarItem
short_items rows = items_of (map calendar_row rows)

abbrev pub is_among : List ℕ → ℕ → Bool
is_among numbers number = list_any (λ other. other == number) numbers

-- a day that the court may enter, a time before the one at which the office closes on other days, and a name of 1 to 100 bytes
abbrev pub is_sound_short_day : ℕ → ShortDayRow → Bool
is_sound_short_day close row = (is_entered row.day && nat_lt row.close close) && is_text 100 row.name

-- the rows have rising numbers below the number of the next row, none is that of a row in the table of the calendar, no day is short
-- twice, and both tables together hold at most 4,000 rows
pub record AreSoundShortDays (close next_row : ℕ) (calendar : List ℕ) (rows : List ShortDayRow) : Type 0 where
  pub rising : Rises (numbers_of rows)
  pub given : AllByRecursion (λ row. IsGiven next_row row.number) rows
  pub others : AllByRecursion (λ row. is_among calendar row.number ≡ false) rows
  pub apart : EachIsNew [] (short_items rows)
  pub few : length calendar + length rows ≤ most_rows
  pub within : AllByRecursion (λ row. IsTrue (is_sound_short_day close row)) rows

-- what the check uses: when the office closes on other days, the number of the next row, and those of the rows in the table of the
-- calendar
pub record GoesBy (check : ShortDayCheck) (close next_row : ℕ) (calendar : List ℕ) : Type 0 where
  pub closes : check.close ≡ close
  pub next : check.next_row ≡ next_row
  pub numbers : check.calendar.items ≡ calendar

-- the number is free, and there is room for the row
abbrev pub has_place : ShortDayCheck → ShortDayRow → Bool
has_place check row = not (is_among check.calendar.items row.number) && nat_lt (length check.calendar.items + rows_of check.days) most_rows

-- the row may come next, but for the day
abbrev pub may_be_next : ShortDayCheck → ShortDayRow → Bool
may_be_next check row = nat_lt check.last row.number && nat_lt row.number check.next_row && is_sound_short_day check.close row

-- these rows were taken, beside a calendar whose rows have rising numbers
pub record HasTakenShortDays (check : ShortDayCheck) (rows : List ShortDayRow) : Type 0 where
  pub risen : Rises check.calendar.items
  pub last : check.last ≡ last_of 0 (numbers_of rows)
  pub days : check.days ≡ calendar_of (short_items rows)
  pub standing : (item : CalendarItem) → stands check.days item ≡ stands_among (short_items rows) item
  pub counted : rows_of check.days ≡ length rows
  pub sound : AreSoundShortDays check.close check.next_row check.calendar.items rows
