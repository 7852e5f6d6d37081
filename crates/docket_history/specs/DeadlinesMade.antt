-- The deadlines and acts that commands make, each by the rule that governs it.
use Rattle.std.specs.Prelude.{ℕ, Bool, true, false, if◌then◌else◌, List, [], ◌∷◌, Option, Some, None, unwrap_or, max, pos, nat_lt}
use Rattle.std.specs.Option.{option_map}
use Rattle.court_days.specs.declared.calendar.Direction.{Direction}
use Rattle.court_rules.specs.LocalRules.{local_adds_three}
use Rattle.court_rules.specs.Rules.{period_of, direction_of, adds_three}
use Rattle.court_rules.specs.declared.act.Act.{Act}
use Rattle.court_rules.specs.declared.act.Act.TheVariants as act
use Rattle.court_rules.specs.declared.act.Start.TheVariants.{Days, Hours}
use Rattle.court_rules.specs.declared.deadline_rule.DeadlineRule.TheVariants.{Listed, Local}
use Rattle.court_rules.specs.declared.local_rule.LocalRule.{LocalRule}
use Rattle.court_rules.specs.declared.method.Method.{Method}
use Rattle.court_rules.specs.declared.method.Method.TheVariants as method
use Rattle.court_rules.specs.declared.rule.Rule.{Rule}
use Rattle.court_rules.specs.declared.rule.Rule.TheVariants.{AnswerToSummons, AnswerAfterWaiver, AnswerAfterWaiverAbroad, AnswerToCounterclaim, AnswerByUnitedStates, AnswerByOfficer, MoreDefiniteStatement, MotionToStrike, MotionAndNotice, OpposingAffidavit, RenewedMotionForJudgment, LosingPartyNewTrial, AmendedFindings, NewTrial, NewTrialByCourt, AmendedJudgment, ReliefFromJudgment, Ordered}
use Rattle.court_rules.specs.declared.table.Period.{Period}
use Rattle.court_rules.specs.declared.table.Period.TheVariants as period
use Rattle.docket_command.specs.Conversions.{method_of}
use Rattle.docket_command.specs.declared.choice.Basis.{Basis}
use Rattle.docket_command.specs.declared.choice.Basis.TheVariants.{Private, UnitedStates, Officer}
use Rattle.docket_command.specs.declared.choice.PleadingKind.{PleadingKind}
use Rattle.docket_command.specs.declared.choice.PleadingKind.TheVariants.{Unanswered}
use Rattle.docket_command.specs.declared.choice.Ruling.{Ruling}
use Rattle.docket_command.specs.declared.choice.Ruling.TheVariants.{Statement}
use Rattle.docket_command.specs.declared.choice.PeriodUnit.{PeriodUnit}
use Rattle.docket_command.specs.declared.choice.PeriodUnit.TheVariants as unit
use Rattle.docket_command.specs.declared.choice.ServiceMethod.{ServiceMethod}
use Rattle.docket_command.specs.declared.local_action.LocalPeriod.{LocalPeriod}
use Rattle.docket_command.specs.declared.service_action.FileWaiver.{FileWaiver}
use Rattle.docket_command.specs.declared.service_action.ServePleading.{ServePleading}
use Rattle.docket_command.specs.declared.service_action.ServeSummons.{ServeSummons}
use Rattle.docket_command.specs.declared.time_action.NoticeHearing.{NoticeHearing}
use Rattle.docket_command.specs.declared.time_action.OrderPeriod.{OrderPeriod}
use Rattle.docket_history.specs.declared.row.NewDeadline.{NewDeadline}

-- the first act of a deadline whose time runs from a day by its rule, for a party that was served by the method
abbrev pub begun_by : Option Period → Option Direction → Bool → ℕ → Act
begun_by (Some period) (Some direction) three day =
    act.Start (Days (record { trigger = day; period = period; direction = direction; three_days = three }))
begun_by _ _ three day = act.Fixed day

abbrev pub begun : Rule → Method → ℕ → Act
begun rule served_by day = begun_by (period_of rule) (direction_of rule) (adds_three rule served_by) day

-- a deadline of the party, by the rule, from the day
abbrev pub timed : ℕ → Rule → Bool → Method → ℕ → NewDeadline
timed party rule initial served_by day =
    record { party = party; rule = Listed rule; initial = initial; first = begun rule served_by day }

-- the same, where the court sets no other day
abbrev pub timed_or_set : ℕ → Rule → Method → ℕ → Option ℕ → NewDeadline
timed_or_set party rule served_by day None = timed party rule false served_by day
timed_or_set party rule served_by day (Some due) =
    record { party = party; rule = Listed rule; initial = false; first = act.Fixed due }

-- the time of a defendant who was served: a private party (Fed. R. Civ. P. 12(a)(1)(A)(i)), the United States (12(a)(2)), or
-- its officer sued individually (12(a)(3))
abbrev pub answer_rule : Basis → Rule
answer_rule Private = AnswerToSummons
answer_rule UnitedStates = AnswerByUnitedStates
answer_rule Officer = AnswerByOfficer

-- the later of two days, where there is a second
abbrev pub later_of : ℕ → Option ℕ → ℕ
later_of day None = day
later_of day (Some other) = max day other

-- the day from which it runs: for an officer the later of the services on the officer and on the United States attorney
abbrev pub answer_from : Basis → ℕ → Option ℕ → ℕ
answer_from Officer served attorney = later_of served attorney
answer_from _ served attorney = served

-- the time of a defendant who waived service (12(a)(1)(A)(ii))
abbrev pub waiver_rule : Bool → Rule
waiver_rule false = AnswerAfterWaiver
waiver_rule true = AnswerAfterWaiverAbroad

-- the time to answer a counterclaim or crossclaim (12(a)(1)(B)), also of the United States and of its officer; or to strike
-- a pleading that allows no response (12(f)(2))
abbrev pub pleading_rule : PleadingKind → Basis → Rule
pleading_rule Unanswered basis = MotionToStrike
pleading_rule _ Private = AnswerToCounterclaim
pleading_rule _ UnitedStates = AnswerByUnitedStates
pleading_rule _ Officer = AnswerByOfficer

-- the method of the later service; where both were on one day, the officer's
abbrev pub later_method : ℕ → ServiceMethod → Option ℕ → Option ServiceMethod → ServiceMethod
later_method served served_by (Some attorney) (Some attorney_by) = if nat_lt served attorney then attorney_by else served_by
later_method served served_by _ _ = served_by

abbrev pub pleading_method : Basis → ℕ → ServiceMethod → Option ℕ → Option ServiceMethod → ServiceMethod
pleading_method Officer served served_by attorney attorney_by = later_method served served_by attorney attorney_by
pleading_method _ served served_by attorney attorney_by = served_by

-- whether service by the method adds three days to a time that the court ordered
abbrev pub ordered_three : Option ServiceMethod → Bool
ordered_three None = false
ordered_three (Some served_by) = adds_three Ordered (method_of served_by)

abbrev pub day_ordered : Option ℕ → Option Period → Option Direction → Option ServiceMethod → Option Act
day_ordered (Some start) (Some period) (Some direction) served_by =
    Some (act.Start (Days (record { trigger = start; period = period; direction = direction; three_days = ordered_three served_by })))
day_ordered _ _ _ _ = None

abbrev pub hours_ordered : Option ℕ → Option ℕ → Option Direction → Option Act
hours_ordered (Some at) (Some count) (Some direction) =
    Some (act.Start (Hours (record { at = pos at; hours = count; direction = direction })))
hours_ordered _ _ _ = None

-- the first act of a time that the court orders: a period of days, months or hours, or a day that it sets
abbrev pub ordered : PeriodUnit → OrderPeriod → Option Act
ordered unit.Days a = day_ordered a.start (option_map period.Days a.count) a.direction a.method
ordered unit.Months a = day_ordered a.start (option_map period.Months a.count) a.direction a.method
ordered unit.Hours a = hours_ordered a.at a.count a.direction
ordered unit.Fixed a = option_map act.Fixed a.until

-- a deadline of the party, of a time that the court ordered
abbrev pub court_ordered : ℕ → Act → NewDeadline
court_ordered party first = record { party = party; rule = Listed Ordered; initial = false; first = first }

-- a time after judgment, for every party
abbrev pub after_judgment : ℕ → Rule → NewDeadline
after_judgment day rule = timed 0 rule false method.Nothing day

-- the times after judgment: that of Fed. R. Civ. P. 50(b) runs from the jury's discharge where the clerk enters one
abbrev pub judgment_times : ℕ → Option ℕ → List NewDeadline
judgment_times entered discharged =
    after_judgment (unwrap_or discharged entered) RenewedMotionForJudgment
    ∷ after_judgment entered LosingPartyNewTrial
    ∷ after_judgment entered AmendedFindings
    ∷ after_judgment entered NewTrial
    ∷ after_judgment entered NewTrialByCourt
    ∷ after_judgment entered AmendedJudgment
    ∷ after_judgment entered ReliefFromJudgment
    ∷ []

-- a more definite statement that the court orders is due after notice of the order, or on the day set (12(e))
abbrev pub statement_ordered : Ruling → Option ℕ → ℕ → Option ℕ → List NewDeadline
statement_ordered Statement (Some party) notice due = timed_or_set party MoreDefiniteStatement method.Nothing notice due ∷ []
statement_ordered _ _ notice due = []

-- whether service by the method, if there was any, adds three days to the time of a local rule
abbrev pub local_three : LocalRule → Option ServiceMethod → Bool
local_three rule None = false
local_three rule (Some served_by) = local_adds_three rule (method_of served_by)

-- the first act of a time that runs from a day by a local rule
abbrev pub begun_locally : LocalRule → Option ServiceMethod → ℕ → Act
begun_locally rule served_by day =
    act.Start (Days (record { trigger = day; period = period.Days rule.days; direction = rule.direction; three_days = local_three rule served_by }))

-- the deadline of a time by the local rule that is named
abbrev pub local_time : LocalPeriod → LocalRule → NewDeadline
local_time a rule =
    record { party = a.party; rule = Local a.rule; initial = false; first = begun_locally rule a.method a.start }

-- the time of a party that is served with a summons
abbrev pub summons_time : ServeSummons → NewDeadline
summons_time a = timed a.party (answer_rule a.basis) true method.Rule4 (answer_from a.basis a.served a.attorney)

-- that of a party that waived service, from the day on which the request was sent
abbrev pub waiver_time : FileWaiver → NewDeadline
waiver_time a = timed a.party (waiver_rule a.abroad) true method.Rule4 a.sent

-- that of a party on which a pleading is served
abbrev pub pleading_time : ServePleading → NewDeadline
pleading_time a =
    timed a.party (pleading_rule a.kind a.basis) false
    (method_of (pleading_method a.basis a.served a.method a.attorney a.attorney_method))
    (answer_from a.basis a.served a.attorney)

-- those before a hearing: of who moves and of who opposes the motion (6(c))
abbrev pub hearing_times : NoticeHearing → List NewDeadline
hearing_times a =
    timed a.party MotionAndNotice false method.Nothing a.hearing
    ∷ timed a.opponent OpposingAffidavit false method.Nothing a.hearing
    ∷ []

-- the time runs again after notice that the motion was denied or postponed, or to the day that the court sets (12(a)(4)(A));
-- or it awaits the more definite statement that the court orders
abbrev pub ruled : Ruling → ℕ → Option ℕ → Act
ruled Statement notice due = act.AwaitStatement notice
ruled _ notice None = act.Resume notice false
ruled _ notice (Some due) = act.Fixed due

-- an extension by days, or to a day (6(b))
abbrev pub extension : Option ℕ → Option ℕ → List Act
extension (Some days) None = act.ExtendBy days ∷ []
extension None (Some until) = act.ExtendTo until ∷ []
extension _ _ = []
