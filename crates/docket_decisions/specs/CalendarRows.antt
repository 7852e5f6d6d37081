-- Which rows a court may enter in its calendar.
use Rattle.std.specs.Prelude.{ℕ, Bool, ◌&&◌, nat_lt, nat_eq, List, length}
use Rattle.court_days.specs.Court.{CourtSettings}
use Rattle.docket_history.specs.declared.item.CalendarItem.{CalendarItem}
use Rattle.docket_history.specs.declared.item.CalendarItem.TheVariants.{Day, Span, Short}
use Rattle.docket_values.specs.Values.{is_entered, is_entered_at, is_text}

-- a day that the court may enter; a span begins before it ends, each on such a local day; a short day is such a day, and its time is
-- before that at which the office closes on other days
abbrev pub is_sound_item : CourtSettings → CalendarItem → Bool
is_sound_item court (Day kind day) = is_entered day
is_sound_item court (Span start end) = is_entered_at court start && is_entered_at court end && nat_lt start end
is_sound_item court (Short day close) = is_entered day && nat_lt close court.close_minute

-- the name of a day, short or not, has 1 to 100 bytes, that of a span none
abbrev pub is_well_named : CalendarItem → List ℕ → Bool
is_well_named (Day kind day) name = is_text 100 name
is_well_named (Span start end) name = nat_eq (length name) 0
is_well_named (Short day close) name = is_text 100 name
