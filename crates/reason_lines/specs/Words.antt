-- The words of a line: events, periods and rules.
use Rattle.std.specs.Prelude.{ℕ, ◌==◌, if◌then◌else◌, List, ◌∷◌, ◌++◌, codes, decimal, Option, Some, None}
use Rattle.court_days.specs.declared.calendar.Direction.{Direction}
use Rattle.court_days.specs.declared.calendar.Direction.TheVariants.{Forward, Backward}
use Rattle.court_days.specs.declared.filing.Way.{Way}
use Rattle.court_days.specs.declared.filing.Way.TheVariants.{Electronic, Office}
use Rattle.court_rules.specs.Rules.{name_of}
use Rattle.court_rules.specs.declared.act.MotionKind.{MotionKind}
use Rattle.court_rules.specs.declared.act.MotionKind.TheVariants.{B, E, F}
use Rattle.court_rules.specs.declared.deadline_rule.DeadlineRule.{DeadlineRule}
use Rattle.court_rules.specs.declared.deadline_rule.DeadlineRule.TheVariants.{Listed, Local}
use Rattle.court_rules.specs.declared.rule.Rule.{Rule}
use Rattle.court_rules.specs.declared.rule.Rule.TheVariants.{AnswerToSummons, AnswerAfterWaiver, AnswerAfterWaiverAbroad, AnswerToCounterclaim, ReplyToAnswer, AnswerByUnitedStates, AnswerByOfficer, AnswerAfterRuling, AnswerAfterStatement, MoreDefiniteStatement, MotionToStrike, MotionAndNotice, OpposingAffidavit, RenewedMotionForJudgment, LosingPartyNewTrial, AmendedFindings, NewTrial, NewTrialByCourt, AmendedJudgment, ReliefFromJudgment, Ordered}
use Rattle.court_rules.specs.declared.table.Period.{Period}
use Rattle.court_rules.specs.declared.table.Period.TheVariants.{Days, Months}

-- the event from which the time of a rule of the table is measured
abbrev pub listed_event : Rule → List ℕ
listed_event AnswerToSummons = codes "summons and complaint served"
listed_event AnswerAfterWaiver = codes "request for a waiver sent"
listed_event AnswerAfterWaiverAbroad = codes "request for a waiver sent"
listed_event AnswerToCounterclaim = codes "pleading served"
listed_event ReplyToAnswer = codes "order to reply served"
listed_event AnswerByUnitedStates = codes "United States attorney served"
listed_event AnswerByOfficer = codes "the later service"
listed_event AnswerAfterRuling = codes "notice of the ruling"
listed_event AnswerAfterStatement = codes "statement served"
listed_event MoreDefiniteStatement = codes "notice of the order"
listed_event MotionToStrike = codes "pleading served"
listed_event MotionAndNotice = codes "hearing"
listed_event OpposingAffidavit = codes "hearing"
listed_event RenewedMotionForJudgment = codes "judgment entered, or jury discharged"
listed_event LosingPartyNewTrial = codes "judgment entered"
listed_event AmendedFindings = codes "judgment entered"
listed_event NewTrial = codes "judgment entered"
listed_event NewTrialByCourt = codes "judgment entered"
listed_event AmendedJudgment = codes "judgment entered"
listed_event ReliefFromJudgment = codes "judgment entered"
listed_event Ordered = codes "event"

-- the event of a rule; a local one does not name it
abbrev pub rule_event : DeadlineRule → List ℕ
rule_event (Listed rule) = listed_event rule
rule_event (Local name) = codes "event"

abbrev pub event_word : Option DeadlineRule → List ℕ
event_word (Some rule) = rule_event rule
event_word None = codes "event"

-- the rule of the table; of a time as ordered, how it is counted
abbrev pub listed_citation : Rule → List ℕ
listed_citation Ordered = codes "6(a)(1)"
listed_citation rule = name_of rule

-- the rule that sets a period of days or months: a local one by its name
abbrev pub citation : DeadlineRule → List ℕ
citation (Listed rule) = listed_citation rule
citation (Local name) = name

-- the rule that sets a time, or else how it is counted
abbrev pub cited_rule : Option DeadlineRule → List ℕ
cited_rule (Some rule) = citation rule
cited_rule None = codes "6(a)(1)"

-- after the event or before it
abbrev pub direction_word : Direction → List ℕ
direction_word Forward = codes "after"
direction_word Backward = codes "before"

-- so many units
abbrev pub counted_word : ℕ → List ℕ → List ℕ → List ℕ
counted_word count one many = decimal count ++ 32 ∷ (if count == 1 then one else many)

abbrev pub period_text : Period → List ℕ
period_text (Days count) = counted_word count (codes "day") (codes "days")
period_text (Months count) = counted_word count (codes "month") (codes "months")

abbrev pub motion_rule : MotionKind → List ℕ
motion_rule B = codes "12(b)"
motion_rule E = codes "12(e)"
motion_rule F = codes "12(f)"

abbrev pub way_words : Way → List ℕ
way_words Electronic = codes "electronically"
way_words Office = codes "at the clerk's office"
