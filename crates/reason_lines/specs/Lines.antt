-- The lines that explain why a deadline stands as it does.
use Rattle.std.specs.Prelude.{ℕ, List, ◌∷◌, ◌++◌, codes, Option}
use Rattle.std.specs.List.{flat_map}
use Rattle.civil_time.specs.Civil.{weekday}
use Rattle.civil_time.specs.DayText.{day_text}
use Rattle.civil_time.specs.LocalTime.{local_day}
use Rattle.civil_time.specs.MomentText.{clock_text, moment_text}
use Rattle.court_days.specs.Calendar.{Entered}
use Rattle.court_days.specs.Court.{CourtSettings, zone_of}
use Rattle.court_days.specs.Timely.{closing}
use Rattle.court_days.specs.declared.filing.End.{End}
use Rattle.court_days.specs.declared.filing.End.TheVariants.{LastDay, Moment}
use Rattle.court_reasons.specs.declared.cause.Causes.{Causes}
use Rattle.court_reasons.specs.declared.step.Step.{Step}
use Rattle.court_reasons.specs.declared.step.Step.TheVariants as step
use Rattle.court_rules.specs.declared.act.DayPeriod.{DayPeriod}
use Rattle.court_rules.specs.declared.act.HourPeriod.{HourPeriod}
use Rattle.court_rules.specs.declared.act.Standing.{Standing}
use Rattle.court_rules.specs.declared.act.Standing.TheVariants as standing
use Rattle.court_rules.specs.declared.deadline_rule.DeadlineRule.{DeadlineRule}
use Rattle.docket_text.specs.HolidayNames.{weekday_word}
use Rattle.docket_text.specs.Times.{shown}
use Rattle.reason_lines.specs.CauseWords.{causes_text}
use Rattle.reason_lines.specs.Words.{event_word, cited_rule, direction_word, counted_word, period_text, motion_rule, way_words}

-- a day, its weekday and two spaces
abbrev pub day_mark : ℕ → List ℕ
day_mark day = day_text day ++ (32 ∷ (weekday_word (weekday day) ++ codes "  "))

-- an instant in the court's time, its weekday and two spaces
abbrev pub moment_mark : CourtSettings → ℕ → List ℕ
moment_mark court at =
    moment_text (zone_of court) at ++ (32 ∷ (weekday_word (weekday (local_day (zone_of court) at)) ++ codes "  "))

-- a period of days or months begins
abbrev pub period_line : Option DeadlineRule → DayPeriod → List ℕ
period_line rule days =
    day_mark days.trigger
    ++ (event_word rule
    ++ (codes "; " ++ (period_text days.period
    ++ (32 ∷ (direction_word days.direction ++ (codes ", " ++ (cited_rule rule ++ codes "\n")))))))

-- a period of hours begins
abbrev pub hours_line : CourtSettings → HourPeriod → List ℕ
hours_line court hours =
    moment_mark court (shown hours.at)
    ++ (codes "event; " ++ (counted_word hours.hours (codes "hour") (codes "hours")
    ++ (32 ∷ (direction_word hours.direction ++ codes ", 6(a)(2)\n"))))

-- words on a day
abbrev pub day_line : ℕ → List ℕ → List ℕ
day_line day words = day_mark day ++ (words ++ codes "\n")

-- words at a moment
abbrev pub moment_line : CourtSettings → ℕ → List ℕ → List ℕ
moment_line court at words = moment_mark court at ++ (words ++ codes "\n")

-- a day or a moment, with the words for each
abbrev pub end_line : CourtSettings → End → List ℕ → List ℕ → List ℕ
end_line court (LastDay day) of_day of_moment = day_line day of_day
end_line court (Moment at) of_day of_moment = moment_line court (shown at) of_moment

-- a day passed over, with every cause
abbrev pub passed_line : ℕ → Causes → List ℕ
passed_line day causes = day_mark day ++ (codes "passed over: " ++ (causes_text causes ++ codes "\n"))

-- an extension by days (Fed. R. Civ. P. 6(b)(1))
abbrev pub extended_line : ℕ → ℕ → List ℕ
extended_line day days =
    day_mark day ++ (codes "extended by " ++ (counted_word days (codes "day") (codes "days") ++ codes ", 6(b)(1)\n"))

-- a motion that suspends the time (Fed. R. Civ. P. 12(a)(4))
abbrev pub motion_line : ℕ → List ℕ → List ℕ
motion_line day rule = day_mark day ++ (codes "motion under " ++ (rule ++ codes " served; the time is suspended, 12(a)(4)\n"))

-- what was due was done
abbrev pub done_line : CourtSettings → ℕ → List ℕ → List ℕ
done_line court at words = moment_mark court at ++ (codes "done " ++ (words ++ codes "\n"))

-- a last day runs to midnight for electronic filing, and for other filing to the minute at which the clerk's office is
-- scheduled to close on that day (Fed. R. Civ. P. 6(a)(4))
abbrev pub due_words : CourtSettings → Entered → ℕ → List ℕ
due_words court calendar day =
    codes "due: to 24:00 electronically, to " ++ (clock_text (closing court calendar day) ++ codes " at the clerk's office, 6(a)(4)")

abbrev pub due_day : CourtSettings → Entered → ℕ → List ℕ
due_day court calendar day = day_mark day ++ (due_words court calendar day ++ codes "\n")

abbrev pub due_line : CourtSettings → Entered → End → List ℕ
due_line court calendar (LastDay day) = due_day court calendar day
due_line court calendar (Moment at) = moment_line court (shown at) (codes "due")

-- where the deadline stands at last
abbrev pub standing_line : CourtSettings → Entered → Standing → List ℕ
standing_line court calendar (standing.Running end) = due_line court calendar end
standing_line court calendar standing.Suspended = codes "suspended\n"
standing_line court calendar standing.Awaiting = codes "awaiting the statement\n"
standing_line court calendar standing.Done = codes "done\n"
standing_line court calendar standing.Vacated = codes "vacated\n"

-- the line of a step
abbrev pub step_line : CourtSettings → Entered → Option DeadlineRule → Step → List ℕ
step_line court calendar rule (step.Period days) = period_line rule days
step_line court calendar rule (step.Hours hours) = hours_line court hours
step_line court calendar rule (step.Fixed day) = day_line day (codes "day set by the court; it stays, whatever day it is")
step_line court calendar rule (step.Extended day days) = extended_line day days
step_line court calendar rule (step.ExtendedTo day) = day_line day (codes "extended to this day; it stays, whatever day it is, 6(b)(1)")
step_line court calendar rule (step.Motion day kind) = motion_line day (motion_rule kind)
step_line court calendar rule (step.Resumed day three) = day_line day (codes "the time runs again; 14 days after, 12(a)(4)")
step_line court calendar rule (step.Awaited day) = day_line day (codes "more definite statement ordered; the time awaits it, 12(a)(4)(B)")
step_line court calendar rule (step.Done at way) = done_line court (shown at) (way_words way)
step_line court calendar rule step.Vacated = codes "vacated by the court\n"
step_line court calendar rule (step.Counted end) = end_line court end (codes "counted to this day, 6(a)(1)(A), (B)") (codes "counted to this time, 6(a)(2)(A), (B)")
step_line court calendar rule (step.Passed day causes) = passed_line day causes
step_line court calendar rule (step.Moved end) =
    end_line court end (codes "clerk's office closed; the time moves forward, 6(a)(3)(A)")
    (codes "clerk's office closed in the hour before; the time moves forward, 6(a)(3)(B)")
step_line court calendar rule (step.ThreeAdded day) = day_line day (codes "three days added for service, 6(d)")
step_line court calendar rule (step.Ends end) = end_line court end (codes "the period ends, 6(a)(1)(C)") (codes "the period ends, 6(a)(2)(C)")
step_line court calendar rule (step.Stands standing) = standing_line court calendar standing

-- the text is exactly the steps, a line for each
abbrev pub reasons_text : CourtSettings → Entered → Option DeadlineRule → List Step → List ℕ
reasons_text court calendar rule steps = flat_map (step_line court calendar rule) steps
