-- How `count` answers an end.
use Rattle.std.specs.Prelude.{Bool, true, false}
use Rattle.civil_time.specs.LocalTime.{seconds}
use Rattle.civil_time.specs.MomentText.{moment_text}
use Rattle.civil_time.specs.Zone.{ZoneRules}
use Rattle.count_lines.specs.declared.answer.Answer.{Answer}
use Rattle.count_lines.specs.declared.answer.Answer.TheVariants as answer
use Rattle.court_days.specs.declared.filing.End.{End}
use Rattle.court_days.specs.declared.filing.End.TheVariants.{LastDay, Moment}

-- a last day, or the court's local time at a moment
abbrev pub end_answer : ZoneRules → End → Answer
end_answer zone (LastDay day) = answer.LastDay day
end_answer zone (Moment at) = answer.Moment (moment_text zone (seconds at))

-- an answer that is an end
abbrev pub is_end : Answer → Bool
is_end (answer.LastDay day) = true
is_end (answer.Moment text) = true
is_end _ = false
