-- What commands make holds what its type holds, where they do.
use Rattle.std.proofs.Common.{◌≡◌, ℕ, ◌≤◌, Bool, true, false, ◌&&◌, Option, Some, None, List, [], ◌∷◌, map, length, max, pos, IfSome, IsUtf8, refl, subst, arith, rules}
use Rattle.std.specs.Prelude.{nat_le, unwrap_or, option_to_list}
use Rattle.std.specs.List.{AllByRecursion}
use Rattle.std.specs.Option.{option_map}
use Rattle.std.proofs.lemmas.Bool.Decides.{nat_tests}
use Rattle.std.proofs.lemmas.Bool.{and_parts}
use Rattle.court_days.specs.declared.calendar.Direction.{Direction}
use Rattle.court_rules.specs.LocalRules.{IsDeadlineRule, is_local_name, is_local_rule}
use Rattle.court_rules.specs.Rules.{period_of, direction_of, adds_three, IsPeriod}
use Rattle.court_rules.specs.declared.act.Act.{Act}
use Rattle.court_rules.specs.declared.act.Act.TheVariants as act
use Rattle.court_rules.specs.declared.local_rule.LocalRule.{LocalRule}
use Rattle.court_rules.specs.declared.method.Method.{Method}
use Rattle.court_rules.specs.declared.method.Method.TheVariants as method
use Rattle.court_rules.specs.declared.rule.Rule.{Rule}
use Rattle.court_rules.specs.declared.rule.Rule.TheVariants as rule
use Rattle.court_rules.specs.declared.table.Period.{Period}
use Rattle.court_rules.specs.declared.table.Period.TheVariants as period
use Rattle.court_rules.proofs.Limits.{period_of-limits}
use Rattle.docket_command.specs.declared.choice.Basis.{Basis}
use Rattle.docket_command.specs.declared.choice.Basis.TheVariants.{Private, UnitedStates, Officer}
use Rattle.docket_command.specs.declared.choice.PeriodUnit.{PeriodUnit}
use Rattle.docket_command.specs.declared.choice.PeriodUnit.TheVariants as unit
use Rattle.docket_command.specs.declared.choice.Ruling.{Ruling}
use Rattle.docket_command.specs.declared.choice.Ruling.TheVariants.{Denied, Postponed, Statement}
use Rattle.docket_command.specs.declared.choice.ServiceMethod.{ServiceMethod}
use Rattle.docket_command.specs.declared.command.Action.{Action}
use Rattle.docket_command.specs.declared.command.Action.TheVariants as action
use Rattle.docket_command.specs.declared.local_action.LocalPeriod as local_period
use Rattle.docket_command.specs.declared.new_day.NewDay.{NewDay}
use Rattle.docket_command.specs.declared.time_action.OrderPeriod as order_period
use Rattle.docket_command.specs.Moments.{IsWholeMinute}
use Rattle.docket_command.proofs.MomentLemmas.{moment_fits}
use Rattle.docket_history.specs.Actions.{FoundRule, rows_asked, imported, deadlines_made, acts_made}
use Rattle.docket_history.specs.DeadlinesMade.{begun_by, begun, timed, timed_or_set, answer_rule, answer_from, waiver_rule, pleading_rule, judgment_times, statement_ordered, day_ordered, hours_ordered, ordered, court_ordered, local_time, ruled, extension}
use Rattle.docket_history.specs.Histories.{case_number, deadline_number}
use Rattle.docket_history.specs.declared.item.CalendarItem.{CalendarItem}
use Rattle.docket_history.specs.declared.item.CalendarItem.TheVariants.{Short}
use Rattle.docket_wire.specs.Valid.{IsAction, IsNewDay, IsMinute}
use Rattle.docket_columns.specs.Codes.{unit_count}
use Rattle.docket_columns.specs.Fits.{IsCount, IsItem, IsNameOf, IsAct}

-- the types of what is made
abbrev MadeBy : {A B : Type 0} → (A → List B) → Type 0
MadeBy {A} {B} make = B

abbrev pub NewRow : Type 0
NewRow = MadeBy rows_asked

abbrev pub NewDeadline : Type 0
NewDeadline = MadeBy (deadlines_made None)

abbrev pub IsDay : ℕ → Type 0
IsDay day = IsAct (act.Fixed day)

-- what an action names
pub case_counts : (a : Action) → IsAction a → IsCount (case_number a)
unfolding IsAction
case_counts (action.OpenCase a) is = omega arith
case_counts a is = search rules

pub deadline_counts : (a : Action) → IsAction a → IsCount (deadline_number a)
unfolding IsAction
deadline_counts (action.RuleMotion a) is = is.1.0
deadline_counts (action.Dispose a) is = is.1.0
deadline_counts (action.StatementServed a) is = is.1.0
deadline_counts (action.Extend a) is = is.1.0
deadline_counts (action.Satisfy a) is = is.1.0
deadline_counts (action.Vacate a) is = is.1.0
deadline_counts _ is = omega arith

-- what the types hold of an item, whichever table has it
abbrev pub IsHeldItem : CalendarItem → Type 0
IsHeldItem (Short day close) = IsDay day × IsMinute close
IsHeldItem other = IsItem other

-- the calendar rows that it asks for
pub record IsAsked (row : NewRow) : Type 0 where
  pub item : IsHeldItem row.item
  pub named : IsNameOf row.item row.name
  pub name : IsUtf8 row.name

no_bytes : IsUtf8 []
unfolding lib.Utf8.encode
no_bytes = ([], (refl, refl))

days_asked : (days : List NewDay) → AllByRecursion IsNewDay days → AllByRecursion IsAsked (map imported days)
days_asked [] all = tt
days_asked (new ∷ others) all = (record { item = all.0.0; named = tt; name = all.0.1 }, days_asked others all.1)

pub rows_fine : (a : Action) → IsAction a → AllByRecursion IsAsked (rows_asked a)
unfolding IsAction
rows_fine (action.CloseSpan a) is = (record { item = (is.0, is.1.0); named = refl; name = no_bytes }, tt)
rows_fine (action.ShortDay a) is = (record { item = (is.0, is.1.0); named = tt; name = is.1.1.0 }, tt)
rows_fine (action.ImportCalendar a) is = days_asked a.rows is.0
rows_fine a is = search rules

-- the deadlines that it makes
pub record IsMaking (d : NewDeadline) : Type 0 where
  pub party : IsCount d.party
  pub rule : IsDeadlineRule d.rule
  pub first : IsAct d.first

few_units : (p : Period) → IsPeriod p → IsCount (unit_count p)
few_units (period.Days count) is = omega (arith, is.1)
few_units (period.Months count) is = omega (arith, is.1)

begun_by_fine : (p : Option Period) (d : Option Direction) (three : Bool) (day : ℕ) → IfSome p IsPeriod → IsDay day → IsAct (begun_by p d three day)
begun_by_fine (Some p) (Some d) three day limits is = (is, few_units p limits)
begun_by_fine (Some p) None three day limits is = is
begun_by_fine None d three day limits is = is

begun_fine : (r : Rule) (served_by : Method) (day : ℕ) → IsDay day → IsAct (begun r served_by day)
begun_fine r served_by day is = begun_by_fine (period_of r) (direction_of r) (adds_three r served_by) day (period_of-limits r) is

timed_fine : (party : ℕ) (r : Rule) (initial : Bool) (served_by : Method) (day : ℕ) → IsCount party → IsDay day → IsMaking (timed party r initial served_by day)
timed_fine party r initial served_by day few is = record { party = few; rule = tt; first = begun_fine r served_by day is }

or_set_fine : (party : ℕ) (r : Rule) (served_by : Method) (day : ℕ) (due : Option ℕ) → IsCount party → IsDay day → IfSome due IsDay → IsMaking (timed_or_set party r served_by day due)
or_set_fine party r served_by day None few is fine = timed_fine party r false served_by day few is
or_set_fine party r served_by day (Some due) few is fine = record { party = few; rule = tt; first = fine }

max_day : (x y : ℕ) → IsDay x → IsDay y → IsDay (max x y)
max_day x y one two = (grind (arith, nat_tests, one.0, two.0), grind (arith, nat_tests, one.1, two.1))

from_fine : (basis : Basis) (served : ℕ) (attorney : Option ℕ) → IsDay served → IfSome attorney IsDay → IsDay (answer_from basis served attorney)
from_fine Private served attorney is fine = is
from_fine UnitedStates served attorney is fine = is
from_fine Officer served None is fine = is
from_fine Officer served (Some day) is fine = max_day served day is fine

statement_fine : (outcome : Ruling) (party : Option ℕ) (notice : ℕ) (due : Option ℕ) → IfSome party IsCount → IsDay notice → IfSome due IsDay → AllByRecursion IsMaking (statement_ordered outcome party notice due)
statement_fine Denied party notice due few is fine = tt
statement_fine Postponed party notice due few is fine = tt
statement_fine Statement None notice due few is fine = tt
statement_fine Statement (Some party) notice due few is fine = (or_set_fine party rule.MoreDefiniteStatement method.Nothing notice due few is fine, tt)

either_day : (entered : ℕ) (discharged : Option ℕ) → IsDay entered → IfSome discharged IsDay → IsDay (unwrap_or discharged entered)
either_day entered None is fine = is
either_day entered (Some day) is fine = fine

judgment_fine : (entered : ℕ) (discharged : Option ℕ) → IsDay entered → IfSome discharged IsDay → AllByRecursion IsMaking (judgment_times entered discharged)
judgment_fine entered discharged is fine =
    let every : IsCount 0 = omega arith in
    let by : (r : Rule) → IsMaking (timed 0 r false method.Nothing entered) = λ r. timed_fine 0 r false method.Nothing entered every is in (
      timed_fine 0 rule.RenewedMotionForJudgment false method.Nothing (unwrap_or discharged entered) every (either_day entered discharged is fine),
      (by rule.LosingPartyNewTrial, (by rule.AmendedFindings, (by rule.NewTrial, (by rule.NewTrialByCourt, (by rule.AmendedJudgment, (by rule.ReliefFromJudgment, tt)))))),
    )

one_ordered : (party : ℕ) (first : Option Act) → IsCount party → IfSome first IsAct → AllByRecursion IsMaking (option_to_list (option_map (court_ordered party) first))
one_ordered party None few fine = tt
one_ordered party (Some first) few fine = (record { party = few; rule = tt; first = fine }, tt)

days_fine : (from : Option ℕ) (p : Option Period) (d : Option Direction) (served_by : Option ServiceMethod) → IfSome from IsDay → IfSome p (λ q. IsCount (unit_count q)) → IfSome (day_ordered from p d served_by) IsAct
days_fine (Some from) (Some p) (Some d) served_by is few = (is, few)
days_fine (Some from) (Some p) None served_by is few = tt
days_fine (Some from) None d served_by is few = tt
days_fine None p d served_by is few = tt

hours_fine : (at count : Option ℕ) (d : Option Direction) → IfSome at IsWholeMinute → IfSome count IsCount → IfSome (hours_ordered at count d) IsAct
hours_fine (Some at) (Some count) (Some d) is few = (moment_fits (pos at) is.0, few)
hours_fine (Some at) (Some count) None is few = tt
hours_fine (Some at) None d is few = tt
hours_fine None count d is few = tt

fixed_fine : (until : Option ℕ) → IfSome until IsDay → IfSome (option_map act.Fixed until) IsAct
fixed_fine None is = tt
fixed_fine (Some day) is = is

in_days_fine : (count : Option ℕ) → IfSome count IsCount → IfSome (option_map period.Days count) (λ q. IsCount (unit_count q))
in_days_fine None few = tt
in_days_fine (Some n) few = few

in_months_fine : (count : Option ℕ) → IfSome count IsCount → IfSome (option_map period.Months count) (λ q. IsCount (unit_count q))
in_months_fine None few = tt
in_months_fine (Some n) few = few

ordered_fine : (u : PeriodUnit) (a : order_period.OrderPeriod) → IsAction (action.OrderPeriod a) → IfSome (ordered u a) IsAct
unfolding IsAction
ordered_fine unit.Days a is = days_fine a.start (option_map period.Days a.count) a.direction a.method is.1.1.1.0 (in_days_fine a.count is.1.1.1.1.1.0)
ordered_fine unit.Months a is = days_fine a.start (option_map period.Months a.count) a.direction a.method is.1.1.1.0 (in_months_fine a.count is.1.1.1.1.1.0)
ordered_fine unit.Hours a is = hours_fine a.at a.count a.direction is.1.1.1.1.0 is.1.1.1.1.1.0
ordered_fine unit.Fixed a is = fixed_fine a.until is.1.1.1.1.1.1.1.1.0

-- the local rule that was found is lawful, and has the name that is asked for
abbrev pub IsNamed : List ℕ → LocalRule → Type 0
IsNamed name r = (is_local_rule r ≡ true) × (r.name ≡ name)

abbrev pub IsFoundFor : FoundRule → Action → Type 0
IsFoundFor found (action.LocalPeriod a) = IfSome found (IsNamed a.rule)
IsFoundFor found _ = Unit {0}

-- its name and its days
lawful_name : (r : LocalRule) → is_local_rule r ≡ true → is_local_name r.name ≡ true
unfolding is_local_rule
lawful_name r lawful = (and_parts (is_local_name r.name) _ lawful).0

lawful_days : (r : LocalRule) → is_local_rule r ≡ true → IsCount r.days
unfolding is_local_rule
lawful_days r lawful =
    let days = (and_parts (nat_le 1 r.days && nat_le r.days 3650) _ (and_parts (is_local_name r.name) _ lawful).1).0 in
    let most : nat_le r.days 3650 ≡ true = (and_parts (nat_le 1 r.days) _ days).1 in
    grind (arith, nat_tests, most)

locally_fine : (found : FoundRule) (a : local_period.LocalPeriod) → IfSome found (IsNamed a.rule) → IsCount a.party → IsDay a.start → AllByRecursion IsMaking (option_to_list (option_map (local_time a) found))
locally_fine None a right few is = tt
locally_fine (Some r) a right few is =
    (record { party = few; rule = subst (λ name. is_local_name name ≡ true) right.1 (lawful_name r right.0); first = (is, lawful_days r right.0) }, tt)

pub deadlines_fine : (found : FoundRule) (a : Action) → IsFoundFor found a → IsAction a → AllByRecursion IsMaking (deadlines_made found a)
unfolding IsAction
deadlines_fine found (action.ServeSummons a) right is = (timed_fine a.party (answer_rule a.basis) true method.Rule4 _ is.1.0 (from_fine a.basis a.served a.attorney is.1.1.1.0 is.1.1.1.1.0), tt)
deadlines_fine found (action.FileWaiver a) right is = (timed_fine a.party (waiver_rule a.abroad) true method.Rule4 a.sent is.1.0 is.1.1.0, tt)
deadlines_fine found (action.ServePleading a) right is = (timed_fine a.party (pleading_rule a.kind a.basis) false _ _ is.1.0 (from_fine a.basis a.served a.attorney is.1.1.1.1.0 is.1.1.1.1.1.1.0), tt)
deadlines_fine found (action.OrderReply a) right is = (or_set_fine a.party rule.ReplyToAnswer _ a.served a.due is.1.0 is.1.1.0 is.1.1.1.1.0, tt)
deadlines_fine found (action.Dispose a) right is = statement_fine a.outcome a.party a.notice a.due is.1.1.1.1.0 is.1.1.1.0 is.1.1.1.1.1.0
deadlines_fine found (action.NoticeHearing a) right is =
    (timed_fine a.party rule.MotionAndNotice false method.Nothing a.hearing is.1.0 is.1.1.1.0, (timed_fine a.opponent rule.OpposingAffidavit false method.Nothing a.hearing is.1.1.0 is.1.1.1.0, tt))
deadlines_fine found (action.OrderPeriod a) right is = one_ordered a.party (ordered a.unit a) is.1.0 (ordered_fine a.unit a is)
deadlines_fine found (action.EnterJudgment a) right is = judgment_fine a.entered a.discharged is.1.0 is.1.1.0
deadlines_fine found (action.LocalPeriod a) right is = locally_fine found a right is.1.0 is.1.1.1.0
deadlines_fine found _ right is = tt

few_statements : (outcome : Ruling) (party : Option ℕ) (notice : ℕ) (due : Option ℕ) → length (statement_ordered outcome party notice due) ≤ 7
few_statements Denied party notice due = omega arith
few_statements Postponed party notice due = omega arith
few_statements Statement None notice due = omega arith
few_statements Statement (Some party) notice due = omega arith

few_ordered : (party : ℕ) (first : Option Act) → length (option_to_list (option_map (court_ordered party) first)) ≤ 7
few_ordered party None = omega arith
few_ordered party (Some first) = omega arith

few_locally : (a : local_period.LocalPeriod) (found : FoundRule) → length (option_to_list (option_map (local_time a) found)) ≤ 7
few_locally a None = omega arith
few_locally a (Some r) = omega arith

pub deadlines_few : (found : FoundRule) (a : Action) → length (deadlines_made found a) ≤ 7
deadlines_few found (action.Dispose a) = few_statements a.outcome a.party a.notice a.due
deadlines_few found (action.OrderPeriod a) = few_ordered a.party (ordered a.unit a)
deadlines_few found (action.LocalPeriod a) = few_locally a found
deadlines_few found _ = omega arith

-- the acts that it adds
ruled_fine : (outcome : Ruling) (notice : ℕ) (due : Option ℕ) → IsDay notice → IfSome due IsDay → IsAct (ruled outcome notice due)
ruled_fine Statement notice due is fine = is
ruled_fine Denied notice None is fine = is
ruled_fine Denied notice (Some due) is fine = fine
ruled_fine Postponed notice None is fine = is
ruled_fine Postponed notice (Some due) is fine = fine

extension_fine : (days until : Option ℕ) → IfSome days IsCount → IfSome until IsDay → AllByRecursion IsAct (extension days until)
extension_fine (Some n) None few is = (few, tt)
extension_fine None (Some day) few is = (is, tt)
extension_fine (Some n) (Some day) few is = tt
extension_fine None None few is = tt

extension_few : (days until : Option ℕ) → length (extension days until) ≤ 1
extension_few (Some n) None = omega arith
extension_few None (Some day) = omega arith
extension_few (Some n) (Some day) = omega arith
extension_few None None = omega arith

pub acts_fine : (a : Action) → IsAction a → AllByRecursion IsAct (acts_made a)
unfolding IsAction
acts_fine (action.RuleMotion a) is = (is.1.1.1.0, tt)
acts_fine (action.Dispose a) is = (ruled_fine a.outcome a.notice a.due is.1.1.1.0 is.1.1.1.1.1.0, tt)
acts_fine (action.StatementServed a) is = (is.1.1.0, tt)
acts_fine (action.Extend a) is = extension_fine a.days a.until is.1.1.1.1.0 is.1.1.1.1.1.0
acts_fine (action.Satisfy a) is = (moment_fits (pos a.at) is.1.1.0.0, tt)
acts_fine (action.Vacate a) is = (tt, tt)
acts_fine _ is = tt

pub acts_few : (a : Action) → length (acts_made a) ≤ 1
acts_few (action.Extend a) = extension_few a.days a.until
acts_few _ = omega arith
