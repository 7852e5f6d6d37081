-- The time that a rule sets may be the first act of a deadline.
use Rattle.std.proofs.Common.{◌≡◌, ℕ, Bool, true, false, ◌&&◌, [], ◌∷◌, IfSome, refl, arith}
use Rattle.std.proofs.lemmas.Bool.Decides.{nat_tests}
use Rattle.std.proofs.lemmas.Option.{IfSome_then}
use Rattle.civil_time.specs.Zone.{ZoneRules}
use Rattle.court_days.specs.Civil.{IsEnteredDay}
use Rattle.court_rules.specs.Acts.{is_entered_day, is_start}
use Rattle.court_rules.specs.Methods.{gives_additional_time}
use Rattle.court_rules.specs.Rules.{line_of, period_of, direction_of, adds_three}
use Rattle.court_rules.specs.Standings.{AreActs, begins_on_entered_day}
use Rattle.court_rules.specs.declared.act.Act.TheVariants as act
use Rattle.court_rules.specs.declared.act.Start.{Start}
use Rattle.court_rules.specs.declared.method.Method.{Method}
use Rattle.court_rules.specs.declared.rule.Rule.{Rule}
use Rattle.court_rules.specs.declared.rule.Rule.TheVariants.{AnswerToSummons, Ordered}
use Rattle.explain_lines.specs.Explained.{time_from}

abbrev Begins : ZoneRules → Start → Type 0
Begins zone begun = (is_start begun ≡ true) × (begins_on_entered_day zone (act.Start begun) ≡ true)

entered : (day : ℕ) → IsEnteredDay day → is_entered_day day ≡ true
entered day is = grind (arith, nat_tests, is.0, is.1)

-- by the columns of each rule: those to which service adds three days are counted forward
timed : (zone : ZoneRules) (rule : Rule) (day : ℕ) (gives : Bool) → is_entered_day day ≡ true
    → IfSome (time_from (period_of rule) (direction_of rule) day ((line_of rule).three_days && gives)) (Begins zone)
unfolding line_of
timed zone Ordered day gives is = tt
timed zone AnswerToSummons day true is = (rw is refl, refl)
timed zone _ day true is = (rw is refl, refl)
timed zone _ day false is = (rw is refl, refl)

pub time_may : (zone : ZoneRules) (rule : Rule) (day : ℕ) (method : Method) → IsEnteredDay day
    → IfSome (time_from (period_of rule) (direction_of rule) day (adds_three rule method)) (λ begun. AreActs zone (act.Start begun ∷ []))
time_may zone rule day method is =
    IfSome_then (time_from (period_of rule) (direction_of rule) day (adds_three rule method)) {Q = λ begun. AreActs zone (act.Start begun ∷ [])}
    (timed zone rule day (gives_additional_time method) (entered day is)) (λ begun h. (rw h.0 refl, rw h.1 refl))
