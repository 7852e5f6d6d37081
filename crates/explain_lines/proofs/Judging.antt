-- What `explain` makes of lines, against what `count` makes of them.
use Rattle.std.proofs.Common.{◌≡◌, ℕ, Bool, true, false, List, [], ◌∷◌, ℤ, length, nat_le, nat_lt, ◌==◌, Option, Some, None, IfSome, option_map, refl, ap, ◌∙◌, subst, if◌then◌else◌}
use Rattle.civil_time.specs.LocalTime.{local_day, seconds}
use Rattle.civil_time.specs.MomentText.{moment_text}
use Rattle.count_lines.specs.Answers.{CourtState, Outcome as Answered, line_answer, long_line_answer, last_day, outcome_of, entered_as, is_entered_span, with_calendar}
use Rattle.count_lines.specs.Requests.{value_if}
use Rattle.count_lines.specs.declared.answer.Answer.TheVariants as answer
use Rattle.count_lines.specs.declared.request.Request.{Request}
use Rattle.count_lines.specs.declared.request.Request.TheVariants as request
use Rattle.court_days.specs.Calendar.{Entered, rows_of}
use Rattle.court_days.specs.Court.{CourtSettings, zone_of}
use Rattle.court_days.specs.HourEnds.{end_of_hours}
use Rattle.court_days.specs.declared.calendar.Direction.{Direction}
use Rattle.court_reasons.specs.Steps.{steps_of}
use Rattle.court_rules.specs.Acts.{is_entered_day}
use Rattle.court_rules.specs.Ends.{end_by_line}
use Rattle.court_rules.specs.Rules.{period_of, direction_of, adds_three}
use Rattle.court_rules.specs.Standings.{end_of_start}
use Rattle.court_rules.specs.declared.act.Act.TheVariants as act
use Rattle.court_rules.specs.declared.act.Start.{Start}
use Rattle.court_rules.specs.declared.act.Start.TheVariants as start
use Rattle.court_rules.specs.declared.table.Period.{Period}
use Rattle.explain_lines.specs.Ends.{end_answer, is_end}
use Rattle.explain_lines.specs.Explained.{explained, reasons_asked, reasons_for, rule_of, start_of, time_from}
use Rattle.line_io.specs.Report.{within, bad_of}
use Rattle.reason_lines.specs.Lines.{reasons_text}

-- a line is bad, and leaves what it leaves, as in `count`
same_bad : (state : CourtState) (line : List ℕ) → (within 256 explained long_line_answer state line).bad ≡ (within 256 line_answer long_line_answer state line).bad
same_bad state line = go (nat_le (length line) 256) where
  go : (fits : Bool) → (if fits then explained state line else long_line_answer state).bad ≡ (if fits then line_answer state line else long_line_answer state).bad
  go true = refl
  go false = refl

same_after : (state : CourtState) (line : List ℕ) → (within 256 explained long_line_answer state line).after ≡ (within 256 line_answer long_line_answer state line).after
same_after state line = go (nat_le (length line) 256) where
  go : (fits : Bool) → (if fits then explained state line else long_line_answer state).after ≡ (if fits then line_answer state line else long_line_answer state).after
  go true = refl
  go false = refl

pub same_bad_of : (state : CourtState) (lines : List (List ℕ)) → bad_of (within 256 explained long_line_answer) state lines ≡ bad_of (within 256 line_answer long_line_answer) state lines
same_bad_of state [] = refl
same_bad_of state (line ∷ lines) =
    rw (same_bad state line, same_after state line, same_bad_of (within 256 line_answer long_line_answer state line).after lines) refl

-- where a request has a period, `count` answers its end, and nothing is entered
abbrev pub EndsIn : CourtState → Answered → Start → Type 0
EndsIn state outcome begun =
    outcome ≡ (end_answer (zone_of state.court) (end_of_start (zone_of state.court) state.calendar begun), state)

hours_in : (state : CourtState) (direction : Direction) (at : ℤ) (count : ℕ) (on : Bool)
    → IfSome (value_if on (start.Hours (record { at = at; hours = count; direction = direction })))
    (EndsIn state ((if on then answer.Moment (moment_text (zone_of state.court) (end_of_hours state.calendar (zone_of state.court) direction (seconds at) count)) else answer.Bad), state))
hours_in state direction at count true = refl
hours_in state direction at count false = tt

time_in : (state : CourtState) (period : Option Period) (direction : Option Direction) (day : ℕ) (three : Bool)
    → IfSome (time_from period direction day three) (EndsIn state (last_day (end_by_line state.calendar period direction three day), state))
time_in state (Some period) (Some direction) day three = refl
time_in state (Some period) None day three = tt
time_in state None direction day three = tt

pub ends_in : (state : CourtState) (request : Request) → IfSome (start_of (zone_of state.court) request) (EndsIn state (outcome_of state (Some request)))
ends_in state (request.CountDays direction day count) = refl
ends_in state (request.CountMonths direction day count) = refl
ends_in state (request.CountHours direction at count) =
    hours_in state direction at count (is_entered_day (local_day (zone_of state.court) (seconds at)))
ends_in state (request.ByRule rule day method) = time_in state (period_of rule) (direction_of rule) day (adds_three rule method)
ends_in state (request.Enter kind day) = tt
ends_in state (request.Span begin end) = tt
ends_in state (request.Short day minute) = tt
ends_in state (request.Zone court) = tt
ends_in state (request.Closing day) = tt

-- where it has none, the answer of `count` is no end
abbrev when : Bool → Answered → Answered → Answered
when fits one other = if fits then one else other

when_no_end : (fits : Bool) (one other : Answered) → is_end one.0 ≡ false → is_end other.0 ≡ false → is_end (when fits one other).0 ≡ false
when_no_end true one other first second = first
when_no_end false one other first second = second

entered_no_end : (state : CourtState) (stands : Bool) (after : Entered) → is_end (entered_as state stands after).0 ≡ false
entered_no_end state stands after =
    when_no_end stands (answer.Done, state) (when (rows_of state.calendar == 4000) (answer.Full, state) (answer.Done, with_calendar state after)) refl
    (when_no_end (rows_of state.calendar == 4000) (answer.Full, state) (answer.Done, with_calendar state after) refl refl)

hours_no_end : (state : CourtState) (begun : Start) (text : List ℕ) (on : Bool) → value_if on begun ≡ None
    → is_end (if on then answer.Moment text else answer.Bad) ≡ false
hours_no_end state begun text true is = absurd (cc)
hours_no_end state begun text false is = refl

time_no_end : (state : CourtState) (period : Option Period) (direction : Option Direction) (day : ℕ) (three : Bool)
    → time_from period direction day three ≡ None → is_end (last_day (end_by_line state.calendar period direction three day)) ≡ false
time_no_end state (Some period) (Some direction) day three is = absurd (cc)
time_no_end state (Some period) None day three is = refl
time_no_end state None direction day three is = refl

pub no_end : (state : CourtState) (asked : Request) → start_of (zone_of state.court) asked ≡ None → is_end (outcome_of state (Some asked)).0 ≡ false
no_end state (request.CountDays direction day count) is = absurd (cc)
no_end state (request.CountMonths direction day count) is = absurd (cc)
no_end state (request.CountHours direction at count) is =
    hours_no_end state _ _ (is_entered_day (local_day (zone_of state.court) (seconds at))) is
no_end state (request.ByRule rule day method) is = time_no_end state (period_of rule) (direction_of rule) day (adds_three rule method) is
no_end state (request.Enter kind day) is = entered_no_end state _ _
no_end state (request.Span begin end) is =
    when_no_end (is_entered_span (seconds begin) (seconds end)) _ (answer.Bad, state) (entered_no_end state _ _) refl
no_end state (request.Short day minute) is =
    when_no_end (nat_lt minute state.court.close_minute) _ (answer.Bad, state) (entered_no_end state _ _) refl
no_end state (request.Zone court) is = refl
no_end state (request.Closing day) is = refl

-- the text of the steps, as the code makes it
pub reasons_told : (state : CourtState) (court : CourtSettings) (calendar : Entered) (asked : Request) (begun : Start) (text : List ℕ)
    → court ≡ state.court → calendar ≡ state.calendar → Some begun ≡ start_of (zone_of court) asked
    → text ≡ reasons_text court calendar (rule_of asked) (steps_of (zone_of court) calendar (act.Start begun ∷ []))
    → Some text ≡ reasons_asked state asked
reasons_told state court calendar asked begun text court_is calendar_is start_is text_is =
    let now : CourtState = record { court = court; calendar = calendar } in
    subst (λ s. Some text ≡ reasons_asked s asked) (λ i. record { court = court_is i; calendar = calendar_is i })
    (ap Some text_is ∙ ap (option_map (reasons_for now (rule_of asked))) start_is)
