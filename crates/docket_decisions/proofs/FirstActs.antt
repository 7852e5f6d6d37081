-- The first acts of the deadlines that a command makes, where no value of it is bad.
use Rattle.std.proofs.Common.{◌≡◌, ℕ, Bool, true, false, not, ◌&&◌, Option, Some, None, List, [], ◌∷◌, max, pos, refl, sym, ap, ◌∙◌, ◌||◌, subst, arith, nat_le}
use Rattle.std.specs.Prelude.{unwrap_or, option_to_list, IfSome}
use Rattle.std.specs.Option.{option_map}
use Rattle.std.proofs.lemmas.Bool.Decides.{nat_tests}
use Rattle.std.proofs.lemmas.Bool.{and_from, and_parts, not-false, or_right}
use Rattle.civil_time.specs.Zone.{ZoneRules}
use Rattle.court_days.specs.Court.{CourtSettings, zone_of}
use Rattle.court_days.specs.declared.calendar.Direction.{Direction}
use Rattle.court_days.specs.declared.calendar.Direction.TheVariants.{Forward, Backward}
use Rattle.court_rules.specs.Acts.{is_within, is_period, is_forward}
use Rattle.court_rules.specs.LocalRules.{is_local_name, is_local_rule}
use Rattle.court_rules.specs.Methods.{gives_additional_time}
use Rattle.court_rules.specs.Rules.{line_of}
use Rattle.court_rules.specs.Standings.{begins_on_entered_day, may_begin}
use Rattle.court_rules.specs.declared.act.Act.{Act}
use Rattle.court_rules.specs.declared.act.Act.TheVariants as act
use Rattle.court_rules.specs.declared.method.Method.{Method}
use Rattle.court_rules.specs.declared.method.Method.TheVariants as method
use Rattle.court_rules.specs.declared.act.Start.TheVariants as start
use Rattle.court_rules.specs.declared.table.Period.{Period}
use Rattle.court_rules.specs.declared.table.Period.TheVariants as period
use Rattle.court_rules.specs.declared.local_rule.LocalRule.{LocalRule}
use Rattle.court_rules.specs.declared.rule.Rule.{Rule}
use Rattle.court_rules.specs.declared.rule.Rule.TheVariants as rule
use Rattle.docket_command.specs.Conversions.{method_of}
use Rattle.docket_command.specs.declared.choice.Basis.{Basis}
use Rattle.docket_command.specs.declared.choice.Basis.TheVariants.{Private, UnitedStates, Officer}
use Rattle.docket_command.specs.declared.choice.PeriodUnit.{PeriodUnit}
use Rattle.docket_command.specs.declared.choice.PeriodUnit.TheVariants as unit
use Rattle.docket_command.specs.declared.choice.Ruling.{Ruling}
use Rattle.docket_command.specs.declared.choice.Ruling.TheVariants.{Denied, Postponed, Statement}
use Rattle.docket_command.specs.declared.choice.ServiceMethod.{ServiceMethod}
use Rattle.docket_command.specs.declared.command.Action.{Action}
use Rattle.docket_command.specs.declared.command.Action.TheVariants as action
use Rattle.docket_command.specs.declared.time_action.OrderPeriod as order_period
use Rattle.docket_command.specs.declared.field.Field.{Field}
use Rattle.docket_command.specs.declared.field.Field.TheVariants as field
use Rattle.docket_history.specs.Actions.{FoundRule, deadlines_made}
use Rattle.docket_history.specs.DeadlinesMade.{answer_rule, answer_from, waiver_rule, pleading_rule, begun, timed_or_set, judgment_times, statement_ordered, ordered_three, day_ordered, hours_ordered, ordered, court_ordered, local_three, begun_locally}
use Rattle.docket_values.specs.Values.{first_bad, bad_values, is_entered, is_entered_at, bad_attorney, bad_choice, bad_if, bad_method, bad_order, in_days, in_hours, is_fixed, most}
use Rattle.docket_history.specs.declared.row.NewDeadline.{NewDeadline}
use Rattle.docket_decisions.proofs.GoodValues.{AreGood, all_good, entered_instant}

-- an act that may be the first of a deadline
pub record IsFirst (zone : ZoneRules) (first : Act) : Type 0 where
  pub within : is_within first ≡ true
  pub begins : begins_on_entered_day zone first ≡ true
  pub may : may_begin first ≡ true

abbrev pub AreFirst : ZoneRules → List NewDeadline → Type 0
AreFirst zone [] = Unit {0}
AreFirst zone (d ∷ made) = IsFirst zone d.first × AreFirst zone made

fixed_first : (zone : ZoneRules) (day : ℕ) → is_entered day ≡ true → IsFirst zone (act.Fixed day)
fixed_first zone day e = record { within = e; begins = refl; may = refl }

-- a time by a rule, from a day that may be entered
begun_first : (zone : ZoneRules) (r : Rule) (served_by : Method) (day : ℕ) → is_entered day ≡ true → IsFirst zone (begun r served_by day)
unfolding line_of
begun_first zone rule.Ordered served_by day e = fixed_first zone day e
begun_first zone _ served_by day e = record { within = grind (arith, nat_tests, e); begins = refl; may = refl }

max_entered : (x y : ℕ) → is_entered x ≡ true → is_entered y ≡ true → is_entered (max x y) ≡ true
max_entered x y p q = grind (arith, nat_tests, p, q)

from_entered : (basis : Basis) (served : ℕ) (attorney : Option ℕ) → is_entered served ≡ true → bad_attorney basis attorney ≡ false → is_entered (answer_from basis served attorney) ≡ true
from_entered Private served attorney e good = e
from_entered UnitedStates served attorney e good = e
from_entered Officer served None e good = e
from_entered Officer served (Some day) e good = max_entered served day e (not-false (is_entered day) good)

-- the same, where the court sets no other day
or_set_first : (zone : ZoneRules) (party : ℕ) (r : Rule) (served_by : Method) (day : ℕ) (due : Option ℕ) (f : Field) → is_entered day ≡ true → (bad_choice due f).0 ≡ false → IsFirst zone (timed_or_set party r served_by day due).first
or_set_first zone party r served_by day None f e good = begun_first zone r served_by day e
or_set_first zone party r served_by day (Some due) f e good = fixed_first zone due (not-false (is_entered due) good)

statement_first : (zone : ZoneRules) (outcome : Ruling) (party : Option ℕ) (notice : ℕ) (due : Option ℕ) (f : Field) → is_entered notice ≡ true → (bad_choice due f).0 ≡ false → AreFirst zone (statement_ordered outcome party notice due)
statement_first zone Denied party notice due f e good = tt
statement_first zone Postponed party notice due f e good = tt
statement_first zone Statement None notice due f e good = tt
statement_first zone Statement (Some party) notice due f e good = (or_set_first zone party rule.MoreDefiniteStatement method.Nothing notice due f e good, tt)

-- the jury's discharge, if there is one, or the judgment
either_entered : (entered : ℕ) (discharged : Option ℕ) (f : Field) → is_entered entered ≡ true → (bad_choice discharged f).0 ≡ false → is_entered (unwrap_or discharged entered) ≡ true
either_entered entered None f e good = e
either_entered entered (Some day) f e good = not-false (is_entered day) good

judgment_first : (zone : ZoneRules) (entered : ℕ) (discharged : Option ℕ) (f : Field) → is_entered entered ≡ true → (bad_choice discharged f).0 ≡ false → AreFirst zone (judgment_times entered discharged)
judgment_first zone entered discharged f e good =
    let by : (r : Rule) → IsFirst zone (begun r method.Nothing entered) = λ r. begun_first zone r method.Nothing entered e in (
      begun_first zone rule.RenewedMotionForJudgment method.Nothing (unwrap_or discharged entered) (either_entered entered discharged f e good),
      (by rule.LosingPartyNewTrial, (by rule.AmendedFindings, (by rule.NewTrial, (by rule.NewTrialByCourt, (by rule.AmendedJudgment, (by rule.ReliefFromJudgment, tt)))))),
    )

-- a period that the court orders, of days or months
day_first : (zone : ZoneRules) (from : ℕ) (p : Period) (d : Direction) (served_by : Option ServiceMethod) → is_entered from ≡ true → is_period p ≡ true → bad_method unit.Days (Some d) served_by ≡ false → IsFirst zone (act.Start (start.Days (record { trigger = from; period = p; direction = d; three_days = ordered_three served_by })))
day_first zone from p Forward served_by e counts good = record { within = grind (arith, nat_tests, e, counts); begins = refl; may = refl }
day_first zone from p Backward None e counts good = record { within = grind (arith, nat_tests, e, counts); begins = refl; may = refl }
day_first zone from p Backward (Some m) e counts good = absurd (cc)

days_method : (d : Option Direction) (served_by : Option ServiceMethod) → bad_method unit.Months d served_by ≡ false → bad_method unit.Days d served_by ≡ false
days_method d None e = refl
days_method (Some Forward) (Some m) e = refl
days_method (Some Backward) (Some m) e = e
days_method None (Some m) e = e

hours_first : (court : CourtSettings) (at count : ℕ) (d : Direction) → is_entered_at court at ≡ true → (nat_le 1 count && nat_le count 8760) ≡ true → IsFirst (zone_of court) (act.Start (start.Hours (record { at = pos at; hours = count; direction = d })))
hours_first court at count d e counts =
    let near = entered_instant court at e in
    record { within = grind (arith, nat_tests, near.0, near.1, counts); begins = e; may = refl }

-- what is required is there and good
wanted : {A : Type 0} (is_good : A → Bool) (value : A) → bad_if true is_good (Some value) ≡ false → is_good value ≡ true
wanted is_good value e = not-false (is_good value) e

day_ordered_first : (zone : ZoneRules) (party : ℕ) (period_of : ℕ → Period) (most : ℕ) (first count : Option ℕ) (d : Option Direction) (served_by : Option ServiceMethod)
    → ((n : ℕ) → (nat_le 1 n && nat_le n most) ≡ true → is_period (period_of n) ≡ true)
    → bad_if true is_entered first ≡ false → bad_if true (λ n. nat_le 1 n && nat_le n most) count ≡ false → bad_method unit.Days d served_by ≡ false
    → AreFirst zone (option_to_list (option_map (court_ordered party) (day_ordered first (option_map period_of count) d served_by)))
day_ordered_first zone party period_of most (Some from) (Some n) (Some d) served_by counts e c good =
    (day_first zone from (period_of n) d served_by (wanted is_entered from e) (counts n (wanted (λ n. nat_le 1 n && nat_le n most) n c)) good, tt)
day_ordered_first zone party period_of most None count d served_by counts e c good = tt
day_ordered_first zone party period_of most (Some from) None d served_by counts e c good = tt
day_ordered_first zone party period_of most (Some from) (Some n) None served_by counts e c good = tt

hours_ordered_first : (court : CourtSettings) (party : ℕ) (at count : Option ℕ) (d : Option Direction)
    → bad_if true (is_entered_at court) at ≡ false → bad_if true (λ n. nat_le 1 n && nat_le n 8760) count ≡ false
    → AreFirst (zone_of court) (option_to_list (option_map (court_ordered party) (hours_ordered at count d)))
hours_ordered_first court party (Some t) (Some n) (Some d) e c =
    (hours_first court t n d (wanted (is_entered_at court) t e) (wanted (λ n. nat_le 1 n && nat_le n 8760) n c), tt)
hours_ordered_first court party None count d e c = tt
hours_ordered_first court party (Some t) None d e c = tt
hours_ordered_first court party (Some t) (Some n) None e c = tt

fixed_ordered_first : (zone : ZoneRules) (party : ℕ) (until : Option ℕ) → bad_if true is_entered until ≡ false → AreFirst zone (option_to_list (option_map (court_ordered party) (option_map act.Fixed until)))
fixed_ordered_first zone party None e = tt
fixed_ordered_first zone party (Some day) e = (fixed_first zone day (wanted is_entered day e), tt)

-- the first act of a time that the court orders
ordered_first : (court : CourtSettings) (a : order_period.OrderPeriod) → first_bad (bad_order court a) ≡ None → AreFirst (zone_of court) (option_to_list (option_map (court_ordered a.party) (ordered a.unit a)))
ordered_first court a good = by_unit a.unit refl (all_good (bad_order court a) good)
  where
    by_unit : (u : PeriodUnit) → a.unit ≡ u → AreGood (bad_order court a) → AreFirst (zone_of court) (option_to_list (option_map (court_ordered a.party) (ordered u a)))
    by_unit unit.Days is fields = day_ordered_first (zone_of court) a.party period.Days 3650 a.start a.count a.direction a.method (λ n e. e)
        (subst (λ u. bad_if (in_days u) is_entered a.start ≡ false) is fields.0)
        (subst (λ u. bad_if (not (is_fixed u)) (λ n. nat_le 1 n && nat_le n (most u)) a.count ≡ false) is fields.1.1.0)
        (subst (λ u. bad_method u a.direction a.method ≡ false) is fields.1.1.1.1.0)
    by_unit unit.Months is fields = day_ordered_first (zone_of court) a.party period.Months 120 a.start a.count a.direction a.method (λ n e. e)
        (subst (λ u. bad_if (in_days u) is_entered a.start ≡ false) is fields.0)
        (subst (λ u. bad_if (not (is_fixed u)) (λ n. nat_le 1 n && nat_le n (most u)) a.count ≡ false) is fields.1.1.0)
        (days_method a.direction a.method (subst (λ u. bad_method u a.direction a.method ≡ false) is fields.1.1.1.1.0))
    by_unit unit.Hours is fields = hours_ordered_first court a.party a.at a.count a.direction
        (subst (λ u. bad_if (in_hours u) (is_entered_at court) a.at ≡ false) is fields.1.0)
        (subst (λ u. bad_if (not (is_fixed u)) (λ n. nat_le 1 n && nat_le n (most u)) a.count ≡ false) is fields.1.1.0)
    by_unit unit.Fixed is fields = fixed_ordered_first (zone_of court) a.party a.until
        (subst (λ u. bad_if (is_fixed u) is_entered a.until ≡ false) is fields.1.1.1.1.1.0)

-- a local rule whose values are lawful
abbrev pub IsLawfulRule : LocalRule → Type 0
IsLawfulRule r = is_local_rule r ≡ true

-- a time by such a rule, from a day that may be entered
local_first : (zone : ZoneRules) (r : LocalRule) (served_by : Option ServiceMethod) (day : ℕ) → IsLawfulRule r → is_entered day ≡ true → IsFirst zone (begun_locally r served_by day)
unfolding is_local_rule
local_first zone r served_by day lawful e =
    let values = (and_parts (is_local_name r.name) _ lawful).1 in
    let counts = (and_parts (is_period (period.Days r.days)) _ values).0 in
    let forward = (and_parts (is_period (period.Days r.days)) _ values).1 in
    record { within = and_from (is_entered day && is_period (period.Days r.days)) _ (and_from (is_entered day) _ e counts) (only_forward served_by r forward); begins = refl; may = refl }
  where
    served : (three : Bool) (o : Option ServiceMethod) (rule : LocalRule) → rule.three ≡ three → three ≡ false → local_three rule o ≡ false
    served three None rule same off = refl
    served three (Some m) rule same off = ap (λ b. b && gives_additional_time (method_of m)) (same ∙ off)

    only_forward : (o : Option ServiceMethod) (rule : LocalRule) → (not rule.three || is_forward rule.direction) ≡ true → (not (local_three rule o) || is_forward rule.direction) ≡ true
    only_forward o rule is = at rule.three refl rule.direction refl
      where
        at : (t : Bool) → rule.three ≡ t → (d : Direction) → rule.direction ≡ d → (not (local_three rule o) || is_forward rule.direction) ≡ true
        at false e d f = ap (λ b. not b || is_forward rule.direction) (served false o rule e refl)
        at true e Forward f = ap (λ d. not (local_three rule o) || is_forward d) f ∙ or_right (not (local_three rule o)) true refl
        at true e Backward f = absurd (let off : false ≡ true = sym (λ i. not (e i) || is_forward (f i)) ∙ is in cc)

-- where no value of an action is bad, the first acts of the deadlines that it makes are lawful
pub made_first : (court : CourtSettings) (found : FoundRule) (a : Action) → IfSome found IsLawfulRule → first_bad (bad_values court a) ≡ None → AreFirst (zone_of court) (deadlines_made found a)
made_first court found (action.ServeSummons a) lawful good =
    let fields = all_good (bad_values court (action.ServeSummons a)) good in
    (begun_first _ (answer_rule a.basis) method.Rule4 _ (from_entered a.basis a.served a.attorney (not-false (is_entered a.served) fields.0) fields.1.0), tt)
made_first court found (action.FileWaiver a) lawful good =
    let fields = all_good (bad_values court (action.FileWaiver a)) good in
    (begun_first _ (waiver_rule a.abroad) method.Rule4 a.sent (not-false (is_entered a.sent) fields.0), tt)
made_first court found (action.ServePleading a) lawful good =
    let fields = all_good (bad_values court (action.ServePleading a)) good in
    (begun_first _ (pleading_rule a.kind a.basis) _ _ (from_entered a.basis a.served a.attorney (not-false (is_entered a.served) fields.1.0) fields.1.1.0), tt)
made_first court found (action.OrderReply a) lawful good =
    let fields = all_good (bad_values court (action.OrderReply a)) good in
    (or_set_first _ a.party rule.ReplyToAnswer _ a.served a.due field.Due (not-false (is_entered a.served) fields.0) fields.1.0, tt)
made_first court found (action.Dispose a) lawful good =
    let fields = all_good (bad_values court (action.Dispose a)) good in
    statement_first _ a.outcome a.party a.notice a.due field.Due (not-false (is_entered a.notice) fields.0) fields.1.1.0
made_first court found (action.NoticeHearing a) lawful good =
    let fields = all_good (bad_values court (action.NoticeHearing a)) good in
    let entered = not-false (is_entered a.hearing) fields.0 in
    (begun_first _ rule.MotionAndNotice method.Nothing a.hearing entered, (begun_first _ rule.OpposingAffidavit method.Nothing a.hearing entered, tt))
made_first court found (action.OrderPeriod a) lawful good = ordered_first court a good
made_first court found (action.EnterJudgment a) lawful good =
    let fields = all_good (bad_values court (action.EnterJudgment a)) good in
    judgment_first _ a.entered a.discharged field.Discharged (not-false (is_entered a.entered) fields.0) fields.1.0
made_first court None (action.LocalPeriod a) lawful good = tt
made_first court (Some r) (action.LocalPeriod a) lawful good =
    let fields = all_good (bad_values court (action.LocalPeriod a)) good in
    (local_first _ r a.method a.start lawful (not-false (is_entered a.start) fields.0), tt)
made_first court found _ lawful good = tt
