-- By two calendars a deadline stands alike: only the end of a time that runs may differ.
use Rattle.std.proofs.Common.{◌≡◌, List, [], ◌∷◌, None, refl, ap}
use Rattle.civil_time.specs.Zone.{ZoneRules}
use Rattle.court_days.specs.Calendar.{Entered}
use Rattle.court_rules.specs.Standings.{extended_by, standing_after, standing_through, standing}
use Rattle.court_rules.specs.declared.act.Act.{Act}
use Rattle.court_rules.specs.declared.act.Act.TheVariants as act
use Rattle.court_rules.specs.declared.act.Standing.{Standing}
use Rattle.court_rules.specs.declared.act.Standing.TheVariants.{Running, Suspended, Awaiting, Done, Vacated}
use Rattle.docket_decisions.specs.EndRows.{end_running}

-- the same, or both run
abbrev pub AreAlike : Standing → Standing → Type 0
AreAlike (Running end) (Running other) = Unit {0}
AreAlike (Running end) other = ⊥
AreAlike Suspended other = Suspended ≡ other
AreAlike Awaiting other = Awaiting ≡ other
AreAlike Done other = Done ≡ other
AreAlike Vacated other = Vacated ≡ other

module _ (zone : ZoneRules) (before after : Entered) where
  alike_extended : (days : Rattle.std.specs.Prelude.ℕ) (s t : Standing) → AreAlike s t → AreAlike (extended_by zone before days s) (extended_by zone after days t)
  alike_extended days (Running end) (Running other) alike = tt
  alike_extended days (Running end) Suspended alike = absurd alike
  alike_extended days (Running end) Awaiting alike = absurd alike
  alike_extended days (Running end) Done alike = absurd alike
  alike_extended days (Running end) Vacated alike = absurd alike
  alike_extended days Suspended t alike = ap (extended_by zone after days) alike
  alike_extended days Awaiting t alike = ap (extended_by zone after days) alike
  alike_extended days Done t alike = ap (extended_by zone after days) alike
  alike_extended days Vacated t alike = ap (extended_by zone after days) alike

  alike_after : (s t : Standing) (new : Act) → AreAlike s t → AreAlike (standing_after zone before s new) (standing_after zone after t new)
  alike_after s t (act.Start start) alike = tt
  alike_after s t (act.Fixed day) alike = tt
  alike_after s t (act.ExtendBy days) alike = alike_extended days s t alike
  alike_after s t (act.ExtendTo day) alike = tt
  alike_after s t (act.Motion served kind) alike = refl
  alike_after s t (act.Resume day three) alike = tt
  alike_after s t (act.AwaitStatement notice) alike = refl
  alike_after s t (act.Done at way) alike = refl
  alike_after s t act.Vacated alike = refl

  alike_through : (s t : Standing) (acts : List Act) → AreAlike s t → AreAlike (standing_through zone before s acts) (standing_through zone after t acts)
  alike_through s t [] alike = alike
  alike_through s t (new ∷ acts) alike = alike_through (standing_after zone before s new) (standing_after zone after t new) acts (alike_after s t new alike)

  pub alike : (acts : List Act) → AreAlike (standing zone before acts) (standing zone after acts)
  alike acts = alike_through Vacated Vacated acts refl

  not_running : (s t : Standing) → AreAlike s t → end_running zone s ≡ None → s ≡ t
  not_running (Running end) t alike none = absurd (cc)
  not_running Suspended t alike none = alike
  not_running Awaiting t alike none = alike
  not_running Done t alike none = alike
  not_running Vacated t alike none = alike

  -- where no time runs the calendar makes no difference
  pub same_standing : (acts : List Act) → end_running zone (standing zone before acts) ≡ None → standing zone before acts ≡ standing zone after acts
  same_standing acts none = not_running (standing zone before acts) (standing zone after acts) (alike acts) none
