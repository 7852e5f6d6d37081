-- The days that are passed over and their causes, as relations.
use Rattle.std.specs.Prelude.{◌≡◌, ℕ, ◌+◌, ◌-◌, ◌<◌, ◌↔◌, IsTrue, Some, is_some, Bool, false, ◌||◌, List, [], ◌∷◌}
use Rattle.civil_time.specs.Civil.{weekday}
use Rattle.civil_time.specs.Zone.{ZoneRules}
use Rattle.court_days.specs.Calendar.{Entered, Holds}
use Rattle.court_days.specs.Holiday.{IsStatutory}
use Rattle.court_days.specs.Hours.{IsAccessible, same_time_on}
use Rattle.court_days.specs.Legal.{IsStateHoliday}
use Rattle.court_days.specs.declared.calendar.DayKind.TheVariants.{Federal, Closed}
use Rattle.court_days.specs.declared.calendar.Direction.{Direction}
use Rattle.court_reasons.specs.declared.cause.Causes.{Causes}
use Rattle.court_reasons.specs.declared.statutory.StatutoryHoliday.{StatutoryHoliday}
use Rattle.court_reasons.specs.declared.step.Step.{Step}
use Rattle.court_reasons.specs.declared.step.Step.TheVariants as step
use Rattle.court_reasons.specs.Holidays.{IsStatutoryAs}

-- these are the causes for which the day is no business day for periods of that direction, each exactly where it is true, and a
-- holiday of statute by its name (Fed. R. Civ. P. 6(a)(1)(C), 6(a)(6))
pub record AreBusinessCauses (entered : Entered) (direction : Direction) (day : ℕ) (causes : Causes) : Type 0 where
  pub saturday : IsTrue causes.saturday ↔ (weekday day ≡ 6)
  pub sunday : IsTrue causes.sunday ↔ (weekday day ≡ 0)
  pub statutory : IsTrue (is_some causes.statutory) ↔ IsStatutory day
  pub which : (had : StatutoryHoliday) → (causes.statutory ≡ Some had) ↔ IsStatutoryAs had day
  pub federal : IsTrue causes.federal ↔ Holds entered Federal day
  pub state : IsTrue causes.state ↔ IsStateHoliday entered direction day

-- and where a day for filing is looked for, that the office was closed (6(a)(3)(A))
pub record AreDayCauses (entered : Entered) (direction : Direction) (day : ℕ) (causes : Causes) : Type 0 where
  pub business : AreBusinessCauses entered direction day causes
  pub closed : IsTrue causes.closed ↔ Holds entered Closed day
  pub inaccessible : causes.inaccessible ≡ false

-- on the way back, closures do not count
pub record AreBackCauses (entered : Entered) (direction : Direction) (day : ℕ) (causes : Causes) : Type 0 where
  pub business : AreBusinessCauses entered direction day causes
  pub closed : causes.closed ≡ false
  pub inaccessible : causes.inaccessible ≡ false

-- for a period of hours, that the office was not accessible throughout the hour before the same time on that day, as on a
-- closed day (6(a)(3)(B))
pub record AreHourCauses (entered : Entered) (zone : ZoneRules) (direction : Direction) (instant day : ℕ) (causes : Causes) : Type 0 where
  pub business : AreBusinessCauses entered direction day causes
  pub closed : causes.closed ≡ false
  pub inaccessible : IsTrue causes.inaccessible ↔ ¬ (IsAccessible entered zone (same_time_on zone instant day))

-- whether there is any cause
abbrev pub has_cause : Causes → Bool
has_cause causes =
    causes.saturday || (causes.sunday || (is_some causes.statutory
    || (causes.federal || (causes.state || (causes.closed || causes.inaccessible)))))

abbrev pub HasCause : Causes → Type 0
HasCause causes = IsTrue (has_cause causes)

-- the day is passed over for these causes: they are those of the day, and there is at least one
abbrev pub IsPassed : (ℕ → Causes → Type 0) → ℕ → Causes → Type 0
IsPassed Are day causes = Are day causes × HasCause causes

-- the steps name each day from one up to, but not with, another, in order, with its causes
abbrev pub NamesDays : (ℕ → Causes → Type 0) → ℕ → ℕ → List Step → Type 0
NamesDays Are from end [] = from ≡ end
NamesDays Are from end (step.Passed day causes ∷ steps) =
    (day ≡ from) × (from < end) × Are day causes × NamesDays Are (from + 1) end steps
NamesDays Are from end (_ ∷ steps) = ⊥

-- the steps name each day from one back to, but not with, another, in order, with its causes
abbrev pub NamesDaysBack : (ℕ → Causes → Type 0) → ℕ → ℕ → List Step → Type 0
NamesDaysBack Are from last [] = from ≡ last
NamesDaysBack Are from last (step.Passed day causes ∷ steps) =
    (day ≡ from) × (last < from) × Are day causes × NamesDaysBack Are (from - 1) last steps
NamesDaysBack Are from last (_ ∷ steps) = ⊥
