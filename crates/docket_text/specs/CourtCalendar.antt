-- The text of the court's calendar: the statutory holidays, and the rows that the court entered.
use Rattle.std.specs.Prelude.{ℕ, ◌+◌, ◌-◌, nat_le, Bool, ◌&&◌, List, [], ◌∷◌, ◌++◌, filter, codes, decimal, pos}
use Rattle.std.specs.List.{flat_map, range_with_len}
use Rattle.civil_time.specs.DayText.{day_text}
use Rattle.civil_time.specs.LocalTime.{local_day}
use Rattle.civil_time.specs.MomentText.{clock_text, moment_text}
use Rattle.court_days.specs.Court.{CourtSettings, zone_of}
use Rattle.court_days.specs.Holiday.{is_statutory}
use Rattle.docket_command.specs.Words.{day_kind_word}
use Rattle.docket_history.specs.declared.item.CalendarItem.{CalendarItem}
use Rattle.docket_history.specs.declared.item.CalendarItem.TheVariants.{Day, Span, Short}
use Rattle.docket_history.specs.declared.row.CalendarRow.{CalendarRow}
use Rattle.docket_text.specs.HolidayTexts.{holiday_line}
use Rattle.docket_text.specs.Lines.{line, spaced}
use Rattle.docket_text.specs.Times.{shown}

-- the days from one to another, both included
abbrev pub days_between : ℕ → ℕ → List ℕ
days_between from to = range_with_len from (to + 1 - from)

-- a line for each statutory holiday of those days
abbrev pub statutory_lines : ℕ → ℕ → List ℕ
statutory_lines from to = flat_map holiday_line (filter is_statutory (days_between from to))

-- the first of the days on which a row has a part: that of a span is the local day of its start
abbrev pub first_day : CourtSettings → CalendarItem → ℕ
first_day court (Day kind day) = day
first_day court (Span start end) = local_day (zone_of court) (shown (pos start))
first_day court (Short day close) = day

-- the last of them: a span is up to but not with its end, so that of a span is the local day of the second before
abbrev pub last_day : CourtSettings → CalendarItem → ℕ
last_day court (Day kind day) = day
last_day court (Span start end) = local_day (zone_of court) (shown (pos (end - 1)))
last_day court (Short day close) = day

-- the row has a part on one of the days from one to another
abbrev pub touches : CourtSettings → ℕ → ℕ → CalendarRow → Bool
touches court from to row = nat_le (first_day court row.item) to && nat_le from (last_day court row.item)

-- what a row enters: a day under its kind, the local times of a span, or a short day with its closing
abbrev pub item_text : CourtSettings → CalendarItem → List ℕ
item_text court (Day kind day) = spaced (day_kind_word kind ∷ day_text day ∷ [])
item_text court (Span start end) =
    spaced (codes "span" ∷ moment_text (zone_of court) (shown (pos start)) ∷ moment_text (zone_of court) (shown (pos end)) ∷ [])
item_text court (Short day close) = spaced (codes "short" ∷ day_text day ∷ clock_text close ∷ [])

-- a name, if there is one: an empty text is none
abbrev pub named : List ℕ → List (List ℕ)
named [] = []
named name = name ∷ []

-- the line of a row: its number, by which it is withdrawn, what it enters, and its name
abbrev pub calendar_row_line : CourtSettings → CalendarRow → List ℕ
calendar_row_line court row = line (codes "row" ∷ decimal row.number ∷ item_text court row.item ∷ named row.name)

-- a line for each statutory holiday of the days, and behind them one for each of the rows that has a part on them
abbrev pub court_calendar_text : CourtSettings → List CalendarRow → ℕ → ℕ → List ℕ
court_calendar_text court rows from to =
    statutory_lines from to ++ flat_map (calendar_row_line court) (filter (touches court from to) rows)
