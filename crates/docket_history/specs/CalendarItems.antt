-- What the rows of the calendar enter.
use Rattle.std.specs.Prelude.{◌≡◌, ◌≤◌, ◌==◌, Bool, true, false, not, ◌&&◌, if◌then◌else◌, List, [], ◌∷◌, ◌++◌, filter, length}
use Rattle.std.specs.List.{All, list_any}
use Rattle.court_days.specs.Civil.{IsEnteredDay, IsEnteredSpan}
use Rattle.court_days.specs.Calendar.{Entered, no_days, with_day, with_span, with_short}
use Rattle.court_days.specs.declared.calendar.DayKind.{DayKind}
use Rattle.court_days.specs.declared.calendar.DayKind.TheVariants.{Federal, State, Closed}
use Rattle.docket_history.specs.declared.item.CalendarItem.{CalendarItem}
use Rattle.docket_history.specs.declared.item.CalendarItem.TheVariants.{Day, Span, Short}
use Rattle.docket_history.specs.declared.item.NewRow.{NewRow}
use Rattle.court_days.specs.Limits.{most_rows}

abbrev pub is_same_kind : DayKind → DayKind → Bool
is_same_kind Federal Federal = true
is_same_kind State State = true
is_same_kind Closed Closed = true
is_same_kind _ _ = false

-- two rows are equal where they enter the same day under the same kind, the same span, or the same short day, whatever the
-- time
abbrev pub is_same_item : CalendarItem → CalendarItem → Bool
is_same_item (Day kind day) (Day other_kind other_day) = is_same_kind kind other_kind && day == other_day
is_same_item (Span start end) (Span other_start other_end) = start == other_start && end == other_end
is_same_item (Short day close) (Short other_day other_close) = day == other_day
is_same_item _ _ = false

abbrev pub stands_among : List CalendarItem → CalendarItem → Bool
stands_among standing item = list_any (λ other. is_same_item other item) standing

-- the requested rows that are not there yet, of equal rows the first
abbrev pub fresh : List CalendarItem → List NewRow → List NewRow
fresh standing [] = []
fresh standing (new ∷ others) =
    if stands_among standing new.item then fresh standing others
    else new ∷ fresh (standing ++ new.item ∷ []) others

-- what is entered with one more item
abbrev pub with_item : Entered → CalendarItem → Entered
with_item entered (Day kind day) = with_day entered kind day
with_item entered (Span start end) = with_span entered start end
with_item entered (Short day close) = with_short entered day close

-- the items entered one after another
abbrev pub entered_with : Entered → List CalendarItem → Entered
entered_with entered [] = entered
entered_with entered (item ∷ items) = entered_with (with_item entered item) items

-- the calendar of items
abbrev pub calendar_of : List CalendarItem → Entered
calendar_of items = entered_with no_days items

-- on the day the clerk's office is scheduled to close earlier (Fed. R. Civ. P. 6(a)(4)(B))
abbrev pub is_short_day : CalendarItem → Bool
is_short_day (Short day close) = true
is_short_day _ = false

-- the days and the spans: all that an end depends on
abbrev pub without_short_days : List CalendarItem → List CalendarItem
without_short_days items = filter (λ item. not (is_short_day item)) items

-- a court may enter the item
abbrev pub IsEnteredItem : CalendarItem → Type 0
IsEnteredItem (Day kind day) = IsEnteredDay day
IsEnteredItem (Span start end) = IsEnteredSpan start end
IsEnteredItem (Short day close) = IsEnteredDay day

-- items that a court may enter, at most 4,000, and their calendar
pub record IsStanding (items : List CalendarItem) (calendar : Entered) : Type 0 where
  pub entered : All IsEnteredItem items
  pub rows : length items ≤ most_rows
  pub calendar_is : calendar ≡ calendar_of items
