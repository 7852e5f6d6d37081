-- The lines of `explain`: the answer to each, by what the lines before it entered. They are the lines of `count`. One that asks for
-- the end of a period is answered by the steps by which that end is found, and any other as `count` answers it.
use Rattle.std.specs.Prelude.{ℕ, ℤ, Bool, false, List, [], ◌∷◌, Option, None, Some, option_map, option_and_then}
use Rattle.civil_time.specs.LocalTime.{local_day, seconds}
use Rattle.civil_time.specs.Zone.{ZoneRules}
use Rattle.count_lines.specs.Answers.{CourtState, line_answer}
use Rattle.count_lines.specs.Requests.{value_if, request_of}
use Rattle.count_lines.specs.declared.request.Request.{Request}
use Rattle.count_lines.specs.declared.request.Request.TheVariants.{CountDays, CountMonths, CountHours, ByRule}
use Rattle.court_days.specs.Court.{zone_of}
use Rattle.court_days.specs.declared.calendar.Direction.{Direction}
use Rattle.court_reasons.specs.Steps.{steps_of}
use Rattle.court_rules.specs.Acts.{is_entered_day}
use Rattle.court_rules.specs.Rules.{period_of, direction_of, adds_three}
use Rattle.court_rules.specs.declared.act.Act.TheVariants as act
use Rattle.court_rules.specs.declared.act.Start.{Start}
use Rattle.court_rules.specs.declared.act.Start.TheVariants as start
use Rattle.court_rules.specs.declared.deadline_rule.DeadlineRule.{DeadlineRule}
use Rattle.court_rules.specs.declared.deadline_rule.DeadlineRule.TheVariants.{Listed}
use Rattle.court_rules.specs.declared.table.Period.{Period}
use Rattle.court_rules.specs.declared.table.Period.TheVariants as period
use Rattle.line_io.specs.Report.{LineAnswer}
use Rattle.reason_lines.specs.Lines.{reasons_text}

-- a period of days or months from the day of an event (Fed. R. Civ. P. 6(a)(1)), and whether service adds three days (6(d))
abbrev pub days_from : Direction → ℕ → Period → Bool → Start
days_from direction day period three =
    start.Days (record { trigger = day; period = period; direction = direction; three_days = three })

-- a period of hours (6(a)(2)), where the local day of its moment is one that a court may enter
abbrev pub hours_from : ZoneRules → Direction → ℤ → ℕ → Option Start
hours_from zone direction at count =
    value_if (is_entered_day (local_day zone (seconds at))) (start.Hours (record { at = at; hours = count; direction = direction }))

-- the time that a rule sets; a time that the court ordered has no period of its own
abbrev pub time_from : Option Period → Option Direction → ℕ → Bool → Option Start
time_from (Some period) (Some direction) day three = Some (days_from direction day period three)
time_from _ _ day three = None

-- the period whose end a request asks for
abbrev pub start_of : ZoneRules → Request → Option Start
start_of zone (CountDays direction day count) = Some (days_from direction day (period.Days count) false)
start_of zone (CountMonths direction day count) = Some (days_from direction day (period.Months count) false)
start_of zone (CountHours direction at count) = hours_from zone direction at count
start_of zone (ByRule rule day method) = time_from (period_of rule) (direction_of rule) day (adds_three rule method)
start_of zone _ = None

-- the rule that sets it, where one does
abbrev pub rule_of : Request → Option DeadlineRule
rule_of (ByRule rule day method) = Some (Listed rule)
rule_of _ = None

-- the text of the steps by which the end of a period is found
abbrev pub reasons_for : CourtState → Option DeadlineRule → Start → List ℕ
reasons_for state rule begun =
    reasons_text state.court state.calendar rule (steps_of (zone_of state.court) state.calendar (act.Start begun ∷ []))

-- that of the end that a request asks for
abbrev pub reasons_asked : CourtState → Request → Option (List ℕ)
reasons_asked state request = option_map (reasons_for state (rule_of request)) (start_of (zone_of state.court) request)

-- that of the end that a line asks for
abbrev pub reasons_at : CourtState → List ℕ → Option (List ℕ)
reasons_at state line = option_and_then (reasons_asked state) (request_of line)

-- the reasons, or where there are none, the answer of `count`
abbrev pub reasons_or : Option (List ℕ) → List ℕ → List ℕ
reasons_or (Some reasons) answer = reasons
reasons_or None answer = answer

-- the outcome of a line: whether it is bad, and what the next line finds, as in `count`
abbrev pub explained : CourtState → List ℕ → LineAnswer CourtState
explained state line = record (line_answer state line) { text = reasons_or (reasons_at state line) (line_answer state line).text }
