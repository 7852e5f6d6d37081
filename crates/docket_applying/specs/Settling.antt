-- The ends of cases brought up to date, and what is done about the stored ends.
use Rattle.std.specs.Prelude.{◌≡◌, ◌<◌, ◌⊎◌, ℕ, zero, suc, ◌+◌, ◌==◌, not, List, [], ◌++◌, filter, IfErr, IsPermutation, Result}
use Rattle.sqlite.specs.State.{State}
use Rattle.court_days.specs.Calendar.{Entered}
use Rattle.court_days.specs.Court.{CourtSettings}
use Rattle.docket_decisions.specs.EndRows.{all_changed_ends, calendar_in, end_rows}
use Rattle.docket_decisions.specs.Tables.{Tables}
use Rattle.docket_decisions.specs.declared.end_row.StoredEnd.{StoredEnd}
use Rattle.docket_decisions.specs.declared.moving.EndUpdate.{EndUpdate}
use Rattle.docket_decisions.specs.declared.moving.EndUpdate.TheVariants.{Moves, Calendar}
use Rattle.docket_tables.specs.Contents.{AreStored, ends_in_case, ends_of}
use Rattle.docket_tables.specs.Layouts.{Rows}
use Rattle.docket_tables.specs.Stands.{Inside, Sees}
use Rattle.docket_orderly.specs.Orderly.{IsOrderly}

-- the ends of case k as the calendar gives them, and the ends of other cases as they were
abbrev pub settled_case : CourtSettings → Entered → Tables → ℕ → List StoredEnd → List StoredEnd
settled_case court entered t k ends = filter (λ row. not (row.case == k)) ends ++ ends_in_case court entered t k

-- the first n cases, one after another
abbrev pub settled_cases : CourtSettings → Entered → Tables → ℕ → List StoredEnd → List StoredEnd
settled_cases court entered t zero ends = ends
settled_cases court entered t (suc n) ends = settled_case court entered t (n + 1) (settled_cases court entered t n ends)

-- where no end of case k is stored, no time of it runs, by any calendar
abbrev pub RunsOnlyWhereStored : CourtSettings → Tables → List StoredEnd → ℕ → Type 0
RunsOnlyWhereStored court t ends k = ends_of k ends ≡ [] → (entered : Entered) → ends_in_case court entered t k ≡ []

abbrev pub EachIsStored : List StoredEnd → Type 0
EachIsStored ends = (k : ℕ) → AreStored k ends

abbrev pub EachRunsWhereStored : CourtSettings → Tables → List StoredEnd → Type 0
EachRunsWhereStored court t ends = (k : ℕ) → RunsOnlyWhereStored court t ends k

-- a step of a transaction leads from rows to the next ones, and gives no answer
abbrev pub Leads : {E : Type 0} → State → State → Rows → Rows → Result (Unit {0}) E → Type 0
Leads old new rows next result = Inside old new rows next result (λ _. Unit {0})

-- a step that saw these rows fails only for such a cause
abbrev pub FailsOnlyFor : {X E : Type 0} → (State → State → E → Type 0) → State → State → Rows → Result X E → Type 0
FailsOnlyFor Cause old new rows result = Sees old rows → IfErr result (Cause old new)

-- the ends of cases past the first n are what they were; there is no case 0
abbrev pub AreUntouched : CourtSettings → ℕ → Tables → Tables → Type 0
AreUntouched court n t next = (j : ℕ) → (j < 1) ⊎ (n < j) → ends_of j (end_rows court t) ≡ ends_of j (end_rows court next)

-- what a write from tables to the next must meet: only ends of the first n cases move, and no time begins to run in a case where none
-- ran
pub record IsSettling (court : CourtSettings) (n : ℕ) (t next : Tables) : Type 0 where
  pub orderly : IsOrderly court t
  pub next_orderly : IsOrderly court next
  pub untouched : AreUntouched court n t next
  pub none_begins : EachRunsWhereStored court next (end_rows court t)

-- what is done about the stored ends is right for a write that leads from tables to the next ones
abbrev pub IsUpdate : CourtSettings → EndUpdate → Tables → Tables → Type 0
IsUpdate court (Moves moves) t next = IsPermutation (all_changed_ends moves.items (end_rows court t)) (end_rows court next)
IsUpdate court (Calendar cases) t next = IsSettling court cases t next

-- the stored ends after the update, by the tables that then stand
abbrev pub updated_ends : CourtSettings → EndUpdate → Tables → List StoredEnd → List StoredEnd
updated_ends court (Moves moves) t ends = all_changed_ends moves.items ends
updated_ends court (Calendar cases) t ends = settled_cases court (calendar_in t) t cases ends

-- what the update requires of the tables and of the stored ends
abbrev pub MayUpdate : CourtSettings → EndUpdate → Tables → List StoredEnd → Type 0
MayUpdate court (Moves moves) t ends = Unit {0}
MayUpdate court (Calendar cases) t ends = IsOrderly court t × EachIsStored ends × EachRunsWhereStored court t ends

-- the ends that may be stored after the update, whether or not a history leads to the rows: moves leave the ends so moved
abbrev pub MayLeave : EndUpdate → List StoredEnd → List StoredEnd → Type 0
MayLeave (Moves moves) stored next = next ≡ all_changed_ends moves.items stored
MayLeave (Calendar cases) stored next = Unit {0}
