-- The table of the rules that set a time.
use Rattle.std.specs.Prelude.{ℕ, ◌≤◌, List, [], ◌∷◌, codes, Bool, true, false, ◌&&◌, Option, Some, None, find}
use Rattle.std.specs.Str.{bytes_eq}
use Rattle.court_days.specs.declared.calendar.Direction.{Direction}
use Rattle.court_days.specs.declared.calendar.Direction.TheVariants.{Forward, Backward}
use Rattle.court_rules.specs.declared.method.Method.{Method}
use Rattle.court_rules.specs.declared.rule.Rule.{Rule}
use Rattle.court_rules.specs.declared.rule.Rule.TheVariants.{AnswerToSummons, AnswerAfterWaiver, AnswerAfterWaiverAbroad, AnswerToCounterclaim, ReplyToAnswer, AnswerByUnitedStates, AnswerByOfficer, AnswerAfterRuling, AnswerAfterStatement, MoreDefiniteStatement, MotionToStrike, MotionAndNotice, OpposingAffidavit, RenewedMotionForJudgment, LosingPartyNewTrial, AmendedFindings, NewTrial, NewTrialByCourt, AmendedJudgment, ReliefFromJudgment, Ordered}
use Rattle.court_rules.specs.declared.table.Period.{Period}
use Rattle.court_rules.specs.declared.table.Period.TheVariants.{Days, Months}
use Rattle.court_rules.specs.Methods.{gives_additional_time}

-- the line of a rule in the table
pub record Line : Type 0 where
  pub name : List ℕ
  pub period : Option Period
  pub direction : Option Direction
  pub three_days : Bool
  pub responsive : Bool
  pub extendable : Bool

abbrev line : List ℕ → Option Period → Option Direction → Bool → Bool → Bool → Line
line n p d t r e = record { name = n; period = p; direction = d; three_days = t; responsive = r; extendable = e }

-- the words of the columns
abbrev days : ℕ → Option Period
days count = Some (Days count)

abbrev months : ℕ → Option Period
months count = Some (Months count)

abbrev forward : Option Direction
forward = Some Forward

abbrev backward : Option Direction
backward = Some Backward

abbrev as_entered : {A : Type 0} → Option A
as_entered = None

abbrev three_days : Bool
three_days = true

abbrev no_three_days : Bool
no_three_days = false

abbrev responsive : Bool
responsive = true

abbrev not_responsive : Bool
not_responsive = false

abbrev extendable : Bool
extendable = true

abbrev not_extendable : Bool
not_extendable = false

-- The table: each rule with its name, period and direction, whether service can add three days to it, whether it is the
-- time of a responsive pleading, and whether it may be extended. The clerk states how a party was served. Fed. R. Civ. P.
-- 6(d) adds three days where a party acts within a time after being served. Fed. R. Civ. P. 6(b)(2) forbids to extend the
-- times of 50(b), 50(d), 52(b), 59(b), 59(d), 59(e) and 60(b).
unfoldable pub line_of : Rule → Line
-- Fed. R. Civ. P. 12(a)(1)(A)(i): an answer, after service of summons and complaint
line_of AnswerToSummons = line (codes "12(a)(1)(A)(i)") (days 21) forward no_three_days responsive extendable
-- Fed. R. Civ. P. 12(a)(1)(A)(ii): an answer, after the request for a waiver was sent
line_of AnswerAfterWaiver = line (codes "12(a)(1)(A)(ii)") (days 60) forward no_three_days responsive extendable
-- Fed. R. Civ. P. 12(a)(1)(A)(ii): the same, where the request was sent outside any judicial district
line_of AnswerAfterWaiverAbroad = line (codes "12(a)(1)(A)(ii)*") (days 90) forward no_three_days responsive extendable
-- Fed. R. Civ. P. 12(a)(1)(B): an answer to a counterclaim or crossclaim, after service of it
line_of AnswerToCounterclaim = line (codes "12(a)(1)(B)") (days 21) forward three_days responsive extendable
-- Fed. R. Civ. P. 12(a)(1)(C): a reply to an answer, after service of the order to reply
line_of ReplyToAnswer = line (codes "12(a)(1)(C)") (days 21) forward three_days responsive extendable
-- Fed. R. Civ. P. 12(a)(2): an answer of the United States, after service on the United States attorney
line_of AnswerByUnitedStates = line (codes "12(a)(2)") (days 60) forward three_days responsive extendable
-- Fed. R. Civ. P. 12(a)(3): an answer of an officer sued individually, after the later service
line_of AnswerByOfficer = line (codes "12(a)(3)") (days 60) forward three_days responsive extendable
-- Fed. R. Civ. P. 12(a)(4)(A): a responsive pleading, after notice that the motion was denied or postponed until trial
line_of AnswerAfterRuling = line (codes "12(a)(4)(A)") (days 14) forward no_three_days responsive extendable
-- Fed. R. Civ. P. 12(a)(4)(B): a responsive pleading, after service of the more definite statement
line_of AnswerAfterStatement = line (codes "12(a)(4)(B)") (days 14) forward three_days responsive extendable
-- Fed. R. Civ. P. 12(e): a more definite statement, after notice of the order
line_of MoreDefiniteStatement = line (codes "12(e)") (days 14) forward no_three_days not_responsive extendable
-- Fed. R. Civ. P. 12(f)(2): a motion to strike a pleading that allows no response, after service of it
line_of MotionToStrike = line (codes "12(f)(2)") (days 21) forward three_days not_responsive extendable
-- Fed. R. Civ. P. 6(c)(1): a motion and its notice, before the hearing
line_of MotionAndNotice = line (codes "6(c)(1)") (days 14) backward no_three_days not_responsive extendable
-- Fed. R. Civ. P. 6(c)(2): an opposing affidavit, before the hearing
line_of OpposingAffidavit = line (codes "6(c)(2)") (days 7) backward no_three_days not_responsive extendable
-- Fed. R. Civ. P. 50(b): a renewed motion for judgment as a matter of law, after the judgment or the jury's discharge
line_of RenewedMotionForJudgment = line (codes "50(b)") (days 28) forward no_three_days not_responsive not_extendable
-- Fed. R. Civ. P. 50(d): a losing party's motion for a new trial, after the judgment
line_of LosingPartyNewTrial = line (codes "50(d)") (days 28) forward no_three_days not_responsive not_extendable
-- Fed. R. Civ. P. 52(b): a motion for amended findings, after the judgment
line_of AmendedFindings = line (codes "52(b)") (days 28) forward no_three_days not_responsive not_extendable
-- Fed. R. Civ. P. 59(b): a motion for a new trial, after the judgment
line_of NewTrial = line (codes "59(b)") (days 28) forward no_three_days not_responsive not_extendable
-- Fed. R. Civ. P. 59(d): a new trial on the court's own order, after the judgment
line_of NewTrialByCourt = line (codes "59(d)") (days 28) forward no_three_days not_responsive not_extendable
-- Fed. R. Civ. P. 59(e): a motion to alter or amend a judgment, after the judgment
line_of AmendedJudgment = line (codes "59(e)") (days 28) forward no_three_days not_responsive not_extendable
-- Fed. R. Civ. P. 60(b): a motion for relief from a judgment, after the judgment; the year is Fed. R. Civ. P. 60(c)(1)'s
line_of ReliefFromJudgment = line (codes "60(b)") (months 12) forward no_three_days not_responsive not_extendable
-- a time that the court ordered
line_of Ordered = line (codes "order") as_entered as_entered three_days not_responsive extendable

-- the rules, in the order of the table
unfoldable pub rules : List Rule
rules =
    AnswerToSummons ∷ AnswerAfterWaiver ∷ AnswerAfterWaiverAbroad ∷ AnswerToCounterclaim
    ∷ ReplyToAnswer ∷ AnswerByUnitedStates ∷ AnswerByOfficer ∷ AnswerAfterRuling
    ∷ AnswerAfterStatement ∷ MoreDefiniteStatement ∷ MotionToStrike ∷ MotionAndNotice
    ∷ OpposingAffidavit ∷ RenewedMotionForJudgment ∷ LosingPartyNewTrial ∷ AmendedFindings
    ∷ NewTrial ∷ NewTrialByCourt ∷ AmendedJudgment ∷ ReliefFromJudgment ∷ Ordered ∷ []

-- a rule with its line
abbrev pub entry_of : Rule → Rule × Line
entry_of rule = (rule, line_of rule)

-- the columns of a rule's line
abbrev pub name_of : Rule → List ℕ
name_of rule = (line_of rule).name

abbrev pub period_of : Rule → Option Period
period_of rule = (line_of rule).period

abbrev pub direction_of : Rule → Option Direction
direction_of rule = (line_of rule).direction

abbrev pub is_responsive : Rule → Bool
is_responsive rule = (line_of rule).responsive

abbrev pub is_extendable : Rule → Bool
is_extendable rule = (line_of rule).extendable

-- Fed. R. Civ. P. 6(d): a party that was served so has three more days
abbrev pub adds_three : Rule → Method → Bool
adds_three rule method = (line_of rule).three_days && gives_additional_time method

-- from a day to 3650 days, or from a month to 120 months
abbrev pub IsPeriod : Period → Type 0
IsPeriod (Days count) = (1 ≤ count) × (count ≤ 3650)
IsPeriod (Months count) = (1 ≤ count) × (count ≤ 120)

-- the rule of that name
unfoldable pub rule_named : List ℕ → Option Rule
rule_named text = find (λ rule. bytes_eq (name_of rule) text) rules
