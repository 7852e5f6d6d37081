-- Acts one after another.
use Rattle.std.proofs.Common.{◌≡◌, ◌⊎◌, inl, inr, ℕ, ◌<◌, true, List, [], ◌∷◌, ◌++◌, length, Option, Some, None, is_some, refl, sym, ap, ◌∙◌, arith, length-append}
use Rattle.std.proofs.lemmas.Bool.Decides.{nat_tests}
use Rattle.std.proofs.lemmas.Option.{same_Some, none-some}
use Rattle.std.proofs.lemmas.List.Folds.{list_all-append}
use Rattle.std.specs.Option.{option_and_then}
use Rattle.court_days.specs.Zone.{ZoneRules}
use Rattle.court_days.specs.Calendar.{Entered}
use Rattle.court_rules.specs.declared.act.Act.{Act}
use Rattle.court_rules.specs.declared.act.Act.TheVariants as act
use Rattle.court_rules.specs.declared.act.Standing.{Standing}
use Rattle.court_rules.specs.declared.act.Standing.TheVariants.{Running, Vacated}
use Rattle.court_rules.specs.declared.order.Phase.{Phase}
use Rattle.court_rules.specs.declared.order.Phase.TheVariants as phase
use Rattle.court_rules.specs.Acts.{is_within, phase_after, phase_through, acts_ok}
use Rattle.court_rules.specs.Standings.{begins_on_entered_day, AreActs, standing_after, standing_through, standing, phase_of, may_come, may_begin}

pub standing_through-append : (zone : ZoneRules) (entered : Entered) (before : Standing) (acts more : List Act) → standing_through zone entered before (acts ++ more) ≡ standing_through zone entered (standing_through zone entered before acts) more
standing_through-append zone entered before [] more = refl
standing_through-append zone entered before (act ∷ acts) more =
    standing_through-append zone entered (standing_after zone entered before act) acts more

-- a phase and a standing agree before an act: the deadline is not made yet, or both are the same
abbrev Agree : Phase → Standing → Type 0
Agree p before = (p ≡ phase.Unmade) ⊎ (p ≡ phase_of before)

-- only a time that runs is extended
extends : (zone : ZoneRules) (entered : Entered) (before : Standing) (days : ℕ) (next : Phase) → Agree phase.Running before → Some phase.Running ≡ Some next → next ≡ phase_of (standing_after zone entered before (act.ExtendBy days))
extends zone entered (Running end) days next agree is = cc
extends zone entered _ days next (inl e) is = cc
extends zone entered _ days next (inr e) is = cc

-- one act leads both on alike
step : (zone : ZoneRules) (entered : Entered) (p : Phase) (before : Standing) (act : Act) (next : Phase) → Agree p before → phase_after p act ≡ Some next → next ≡ phase_of (standing_after zone entered before act)
step zone entered phase.Unmade before (act.Start start) next agree is = cc
step zone entered phase.Unmade before (act.Fixed day) next agree is = cc
step zone entered phase.Running before (act.ExtendTo day) next agree is = cc
step zone entered phase.Running before (act.Motion served kind) next agree is = cc
step zone entered phase.Suspended before (act.Resume day three) next agree is = cc
step zone entered phase.Suspended before (act.Fixed day) next agree is = cc
step zone entered phase.Suspended before (act.AwaitStatement notice) next agree is = cc
step zone entered phase.Awaiting before (act.Resume day three) next agree is = cc
step zone entered phase.Running before (act.Done at way) next agree is = cc
step zone entered phase.Suspended before (act.Done at way) next agree is = cc
step zone entered phase.Awaiting before (act.Done at way) next agree is = cc
step zone entered phase.Running before act.Vacated next agree is = cc
step zone entered phase.Suspended before act.Vacated next agree is = cc
step zone entered phase.Awaiting before act.Vacated next agree is = cc
step zone entered phase.Running before (act.ExtendBy days) next agree is = extends zone entered before days next agree is
step zone entered phase.Ended before (act.Fixed day) next agree is = cc
step zone entered _ before _ next agree is = cc

-- so do acts one after another
tells_from : (zone : ZoneRules) (entered : Entered) (p : Phase) (before : Standing) (acts : List Act) (last : Phase) → p ≡ phase_of before → phase_through p acts ≡ Some last → last ≡ phase_of (standing_through zone entered before acts)
tells_from zone entered p before [] last agree is = sym (same_Some p last is) ∙ agree
tells_from zone entered p before (act ∷ acts) last agree is =
    through (phase_after p act) refl
    (λ next e. tells_from zone entered next (standing_after zone entered before act) acts last
    (step zone entered p before act next (inr agree) e))
  where
    through : (found : Option Phase) → phase_after p act ≡ found → ((next : Phase) → phase_after p act ≡ Some next → phase_through next acts ≡ Some last → last ≡ phase_of (standing_through zone entered (standing_after zone entered before act) acts)) → last ≡ phase_of (standing_through zone entered (standing_after zone entered before act) acts)
    through None e rest = absurd (none-some last (rw e at is))
    through (Some next) e rest = rest next e (rw e at is)

-- after lawful acts the table and the standing agree
pub tells : (zone : ZoneRules) (entered : Entered) (act : Act) (acts : List Act) (last : Phase) → phase_through phase.Unmade (act ∷ acts) ≡ Some last → last ≡ phase_of (standing zone entered (act ∷ acts))
tells zone entered act acts last is = through (phase_after phase.Unmade act) refl
  where
    through : (found : Option Phase) → phase_after phase.Unmade act ≡ found → last ≡ phase_of (standing zone entered (act ∷ acts))
    through None e = absurd (none-some last (rw e at is))
    through (Some next) e =
        tells_from zone entered next (standing_after zone entered Vacated act) acts last
        (step zone entered phase.Unmade Vacated act next (inl refl) e) (rw e at is)

pub table : (zone : ZoneRules) (entered : Entered) (acts : List Act) → acts_ok acts ≡ true → phase_through phase.Unmade acts ≡ Some (phase_of (standing zone entered acts))
table zone entered [] ok = absurd (grind (arith, nat_tests, ok))
table zone entered (act ∷ acts) ok = through (phase_through phase.Unmade (act ∷ acts)) refl
  where
    through : (found : Option Phase) → phase_through phase.Unmade (act ∷ acts) ≡ found → phase_through phase.Unmade (act ∷ acts) ≡ Some (phase_of (standing zone entered (act ∷ acts)))
    through None e = absurd (grind (arith, nat_tests, ok, e))
    through (Some last) e = e ∙ ap Some (tells zone entered act acts last e)

phase_through-append : (p : Phase) (acts more : List Act) → phase_through p (acts ++ more) ≡ option_and_then (λ q. phase_through q more) (phase_through p acts)
phase_through-append p [] more = refl
phase_through-append p (act ∷ acts) more = through (phase_after p act) (λ q. phase_through-append q acts more)
  where
    through : (found : Option Phase) → ((q : Phase) → phase_through q (acts ++ more) ≡ option_and_then (λ q. phase_through q more) (phase_through q acts)) → option_and_then (λ q. phase_through q (acts ++ more)) found ≡ option_and_then (λ q. phase_through q more) (option_and_then (λ q. phase_through q acts) found)
    through None rest = refl
    through (Some q) rest = rest q

one_more : (p : Phase) (act : Act) → is_some (phase_through p (act ∷ [])) ≡ is_some (phase_after p act)
one_more p act = through (phase_after p act)
  where
    through : (found : Option Phase) → is_some (option_and_then (λ q. phase_through q []) found) ≡ is_some found
    through None = refl
    through (Some q) = refl

leads : (zone : ZoneRules) (entered : Entered) (acts : List Act) (act : Act) → acts_ok acts ≡ true → may_come (standing zone entered acts) act ≡ true → is_some (phase_through phase.Unmade (acts ++ act ∷ [])) ≡ true
leads zone entered acts act ok may =
    rw (phase_through-append phase.Unmade acts (act ∷ []), table zone entered acts ok)
    (one_more (phase_of (standing zone entered acts)) act ∙ may)

pub next : (zone : ZoneRules) (entered : Entered) (acts : List Act) (act : Act) → AreActs zone acts → length acts < 100 → is_within act ≡ true → begins_on_entered_day zone act ≡ true → may_come (standing zone entered acts) act ≡ true → AreActs zone (acts ++ act ∷ [])
next zone entered acts act are short within begins may = (
  grind (arith, nat_tests, are.0, short, within, length-append acts (act ∷ []), list_all-append is_within acts (act ∷ []), leads zone entered acts act are.0 may),
  grind (arith, list_all-append (begins_on_entered_day zone) acts (act ∷ []), are.1, begins),
)

-- an act that may be the first
pub first : (zone : ZoneRules) (act : Act) → is_within act ≡ true → begins_on_entered_day zone act ≡ true → may_begin act ≡ true → AreActs zone (act ∷ [])
first zone act within begins may =
    let leads : is_some (phase_through phase.Unmade (act ∷ [])) ≡ true = one_more phase.Unmade act ∙ may in
    (grind (arith, nat_tests, within, leads), grind (arith, begins))
