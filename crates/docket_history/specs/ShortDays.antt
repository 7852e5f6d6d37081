-- The rows of the calendar in two lists, since short days have a table of their own: those that enter days and spans, and those
-- that enter short days.
use Rattle.std.specs.Prelude.{ℕ, List, not, filter, Option, Some, None}
use Rattle.std.specs.List.{filter_map}
use Rattle.docket_history.specs.CalendarItems.{is_short_day}
use Rattle.docket_history.specs.declared.item.CalendarItem.{CalendarItem}
use Rattle.docket_history.specs.declared.item.CalendarItem.TheVariants.{Short}
use Rattle.docket_history.specs.declared.row.CalendarRow.{CalendarRow}
use Rattle.docket_history.specs.declared.row.ShortDayRow.{ShortDayRow}

abbrev pub day_and_span_rows : List CalendarRow → List CalendarRow
day_and_span_rows rows = filter (λ row. not (is_short_day row.item)) rows

-- the row of a short day of that number and name, where the item is one
abbrev pub short_day_row : ℕ → List ℕ → CalendarItem → Option ShortDayRow
short_day_row number name (Short day close) = Some (record { number = number; day = day; close = close; name = name })
short_day_row number name _ = None

abbrev pub short_day_rows : List CalendarRow → List ShortDayRow
short_day_rows rows = filter_map (λ row. short_day_row row.number row.name row.item) rows

-- as a row of the calendar
abbrev pub calendar_row : ShortDayRow → CalendarRow
calendar_row row = record { number = row.number; item = Short row.day row.close; name = row.name }
