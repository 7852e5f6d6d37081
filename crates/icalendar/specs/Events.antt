-- Events, and the calendar around them (RFC 5545, sections 3.4 and 3.6.1).
use Rattle.std.specs.Prelude.{ℕ, ℤ, List, [], ◌∷◌, codes}
use Rattle.std.specs.List.{flat_map}
use Rattle.court_days.specs.declared.filing.End.{End}
use Rattle.court_days.specs.declared.filing.End.TheVariants.{LastDay, Moment}
use Rattle.icalendar.specs.ContentLines.{content_line, named}
use Rattle.icalendar.specs.Texts.{text_value}
use Rattle.icalendar.specs.Times.{date_value, told, utc_value}

-- a property of the type TEXT, as a content line
abbrev pub text_property : List ℕ → List ℕ → List ℕ
text_property name text = content_line (named name (text_value text))

-- when an event is: on a last day, or at an instant (section 3.8.2.4)
abbrev pub start_line : End → List ℕ
start_line (LastDay day) = named (codes "DTSTART;VALUE=DATE") (date_value day)
start_line (Moment at) = named (codes "DTSTART") (utc_value (told at))

-- the lines of an event, which blocks no time in a schedule (section 3.8.2.7)
abbrev pub event_lines : List ℕ → ℤ → End → List ℕ → List ℕ → List (List ℕ)
event_lines uid stamp end summary description =
    codes "BEGIN:VEVENT"
    ∷ named (codes "UID") (text_value uid)
    ∷ named (codes "DTSTAMP") (utc_value (told stamp))
    ∷ start_line end
    ∷ named (codes "SUMMARY") (text_value summary)
    ∷ named (codes "DESCRIPTION") (text_value description)
    ∷ codes "TRANSP:TRANSPARENT"
    ∷ codes "END:VEVENT"
    ∷ []

abbrev pub event_text : List ℕ → ℤ → End → List ℕ → List ℕ → List ℕ
event_text uid stamp end summary description = flat_map content_line (event_lines uid stamp end summary description)

-- the lines before the events of a calendar: it is published (section 3.7.2) under a name, and a program that subscribes reads it again
-- each hour (RFC 7986, section 5.7). Older programs read the lines that begin with X-
abbrev pub head_lines : List (List ℕ)
head_lines =
    codes "BEGIN:VCALENDAR"
    ∷ codes "VERSION:2.0"
    ∷ codes "PRODID:-//Wogzenay//docketctl//EN"
    ∷ codes "CALSCALE:GREGORIAN"
    ∷ codes "X-WR-CALNAME:Court deadlines"
    ∷ codes "REFRESH-INTERVAL;VALUE=DURATION:PT1H"
    ∷ codes "X-PUBLISHED-TTL:PT1H"
    ∷ []

abbrev pub calendar_head : List ℕ
calendar_head = flat_map content_line head_lines

-- the lines behind them
abbrev pub foot_lines : List (List ℕ)
foot_lines = codes "END:VCALENDAR" ∷ []

abbrev pub calendar_foot : List ℕ
calendar_foot = flat_map content_line foot_lines
