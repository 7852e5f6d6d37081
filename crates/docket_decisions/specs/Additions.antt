-- The rows of ends that changes add: each is of a deadline that has none, and that gets an act or is there.
use Rattle.std.specs.Prelude.{◌≡◌, ◌⊎◌, ℕ, false, List, [], ◌∷◌}
use Rattle.std.specs.List.{AllByRecursion}
use Rattle.docket_decisions.specs.EndRows.{is_of, changed_ends}
use Rattle.docket_decisions.specs.declared.end_row.EndChange.{EndChange}
use Rattle.docket_decisions.specs.declared.end_row.EndChange.TheVariants.{Add}
use Rattle.docket_decisions.specs.declared.end_row.StoredEnd.{StoredEnd}
use Rattle.docket_history.specs.declared.row.Change.{Change}
use Rattle.docket_history.specs.declared.row.Change.TheVariants.{AddAct}

-- each row that is added is of a deadline that has no row then
abbrev pub AddsOnce : List EndChange → List StoredEnd → Type 0
AddsOnce [] rows = Unit {0}
AddsOnce (Add row ∷ more) rows =
    AllByRecursion (λ other. is_of row.case row.deadline other ≡ false) rows × AddsOnce more (changed_ends (Add row) rows)
AddsOnce (other ∷ more) rows = AddsOnce more (changed_ends other rows)

-- each row that is added is of such a deadline
abbrev pub AddsAmong : (ℕ → ℕ → Type 0) → List EndChange → Type 0
AddsAmong Stands [] = Unit {0}
AddsAmong Stands (Add row ∷ more) = Stands row.case row.deadline × AddsAmong Stands more
AddsAmong Stands (other ∷ more) = AddsAmong Stands more

-- the changes add an act to deadline n of case k
abbrev pub GetsAct : List Change → ℕ → ℕ → Type 0
GetsAct [] k n = ⊥
GetsAct (AddAct row ∷ more) k n = ((row.case ≡ k) × (row.deadline ≡ n)) ⊎ GetsAct more k n
GetsAct (other ∷ more) k n = GetsAct more k n
