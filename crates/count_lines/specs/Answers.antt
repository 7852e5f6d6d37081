-- The lines of `count`: the answer to each, by what the lines before it entered.
use Rattle.std.specs.Prelude.{ℕ, ◌==◌, Bool, true, false, ◌&&◌, nat_le, nat_lt, List, [], ◌∷◌, ◌++◌, Option, None, Some, codes, if◌then◌else◌}
use Rattle.std.specs.FinMap.{contains_key}
use Rattle.std.specs.FinSet.{contains}
use Rattle.civil_time.specs.DayText.{day_text}
use Rattle.civil_time.specs.LocalTime.{local_day, seconds}
use Rattle.civil_time.specs.MomentText.{clock_text, moment_text}
use Rattle.court_days.specs.Calendar.{Entered, no_days, days_of, with_day, with_span, with_short, rows_of}
use Rattle.court_days.specs.Court.{CourtSettings, zone_of}
use Rattle.court_days.specs.Ends.{end_of_days, end_of_months}
use Rattle.court_days.specs.HourEnds.{end_of_hours}
use Rattle.court_days.specs.Timely.{closing}
use Rattle.court_days.specs.declared.calendar.Direction.{Direction}
use Rattle.court_rules.specs.Ends.{end_by_rule}
use Rattle.court_days.specs.declared.calendar.DayKind.{DayKind}
use Rattle.line_io.specs.Report.{LineAnswer}
use Rattle.count_lines.specs.Requests.{request_of}
use Rattle.count_lines.specs.declared.request.Request.{Request}
use Rattle.count_lines.specs.declared.request.Request.TheVariants.{Enter, Span, Short, Zone, CountDays, CountMonths, CountHours, ByRule, Closing}
use Rattle.count_lines.specs.declared.answer.Answer.{Answer}
use Rattle.count_lines.specs.declared.answer.Answer.TheVariants.{Empty, Done, Full, Bad, LastDay, Moment, Clock}
use Rattle.count_lines.specs.declared.count.Counter.{Counter}
use Rattle.court_days.specs.Limits.{first_entered_day, first_entered_instant, last_entered_day, last_entered_instant, most_rows}

-- what the lines so far left: the court in which they are read, and its calendar
pub record CourtState : Type 0 where
  pub court : CourtSettings
  pub calendar : Entered

abbrev pub state_of : Counter → CourtState
state_of counter = record { court = counter.court; calendar = counter.calendar }

-- at first the court keeps the time of Greenwich and closes at 17:00, and nothing is entered
abbrev pub first_state : CourtState
first_state = record { court = record { zone_text = codes "UTC0"; close_minute = 1020 }; calendar = no_days }

-- an answer, and what the next line finds
abbrev pub Outcome : Type 0
Outcome = Answer × CourtState

abbrev pub with_calendar : CourtState → Entered → CourtState
with_calendar state calendar = record state { calendar = calendar }

-- What stands already is answered `ok`, also where 4,000 rows stand; what is new is entered, if there is room for it.
abbrev pub entered_as : CourtState → Bool → Entered → Outcome
entered_as state stands after =
    if stands then (Done, state)
    else (if rows_of state.calendar == most_rows then (Full, state) else (Done, with_calendar state after))

abbrev pub entering : CourtState → DayKind → ℕ → Outcome
entering state kind day =
    entered_as state (contains (days_of state.calendar kind) day) (with_day state.calendar kind day)

-- a span begins before it ends, and lies from 1999-12-31T00:00Z to 2100-01-02T00:00Z
abbrev pub is_entered_span : ℕ → ℕ → Bool
is_entered_span start end = nat_le first_entered_instant start && nat_lt start end && nat_le end last_entered_instant

abbrev pub spanning : CourtState → ℕ → ℕ → Outcome
spanning state start end =
    if is_entered_span start end
    then entered_as state (contains state.calendar.spans (record { start = start; end = end })) (with_span state.calendar start end)
    else (Bad, state)

-- a short day closes before the court does; it stays short where the court's closing time changes later
abbrev pub shortening : CourtState → ℕ → ℕ → Outcome
shortening state day minute =
    if nat_lt minute state.court.close_minute
    then entered_as state (contains_key state.calendar.short day) (with_short state.calendar day minute)
    else (Bad, state)

-- a time that the court ordered has no period of its own: `rule order ..` is bad
abbrev pub last_day : Option ℕ → Answer
last_day (Some day) = LastDay day
last_day None = Bad

-- a period of hours, where the local day of its moment is one that a court may enter; its end in the court's local time
abbrev pub after_hours : CourtState → Direction → ℕ → ℕ → Answer
after_hours state direction at count =
    let zone = zone_of state.court in
    if nat_le first_entered_day (local_day zone at) && nat_le (local_day zone at) last_entered_day
    then Moment (moment_text zone (end_of_hours state.calendar zone direction at count)) else Bad

abbrev pub outcome_of : CourtState → Option Request → Outcome
outcome_of state None = (Bad, state)
outcome_of state (Some (Enter kind day)) = entering state kind day
outcome_of state (Some (Span start end)) = spanning state (seconds start) (seconds end)
outcome_of state (Some (Short day minute)) = shortening state day minute
outcome_of state (Some (Zone court)) = (Done, record state { court = court })
outcome_of state (Some (CountDays direction day count)) = (LastDay (end_of_days state.calendar direction day count), state)
outcome_of state (Some (CountMonths direction day count)) = (LastDay (end_of_months state.calendar direction day count), state)
outcome_of state (Some (CountHours direction at count)) = (after_hours state direction (seconds at) count, state)
outcome_of state (Some (ByRule rule day method)) = (last_day (end_by_rule state.calendar rule day method), state)
outcome_of state (Some (Closing day)) = (Clock (clock_text (closing state.court state.calendar day)), state)

-- the outcome of a line
abbrev pub outcome : CourtState → List ℕ → Outcome
outcome state [] = (Empty, state)
outcome state (byte ∷ line) = outcome_of state (request_of (byte ∷ line))

abbrev pub answer_text : Answer → List ℕ
answer_text Empty = []
answer_text Done = codes "ok"
answer_text Full = codes "full"
answer_text Bad = codes "bad"
answer_text (LastDay day) = day_text day
answer_text (Moment text) = text
answer_text (Clock text) = text

abbrev pub counts_as_bad : Answer → Bool
counts_as_bad Full = true
counts_as_bad Bad = true
counts_as_bad _ = false

-- an outcome as the engine of lines reports it: each answer is a line
abbrev pub reported : Outcome → LineAnswer CourtState
reported (answer, after) =
    record { text = answer_text answer ++ 10 ∷ []; bad = counts_as_bad answer; after = after }

abbrev pub line_answer : CourtState → List ℕ → LineAnswer CourtState
line_answer state line = reported (outcome state line)

-- a line of over 256 bytes
abbrev pub long_line_answer : CourtState → LineAnswer CourtState
long_line_answer state = reported (Bad, state)
