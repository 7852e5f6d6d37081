-- What a question to a connection gives.
use Rattle.std.specs.Prelude.{◌≡◌, ◌==◌, ℕ, zero, suc, List, map, filter, slice_get, Option, None, Result, Ok, Err}
use Rattle.std.specs.List.Sorted.{IsNonDecreasingBy}
use Rattle.sqlite.specs.Store.{Ghosts}
use Rattle.sqlite.specs.State.{HasCleanDisk}
use Rattle.sqlite.specs.Held.{Held, state}
use Rattle.court_days.specs.Court.{CourtSettings}
use Rattle.docket_decisions.specs.Tables.{Tables}
use Rattle.docket_history.specs.declared.row.ActRow.{ActRow}
use Rattle.docket_history.specs.declared.row.CalendarRow.{CalendarRow}
use Rattle.docket_tables.specs.Contents.{rows_in}
use Rattle.docket_tables.specs.Layouts.{Rows}
use Rattle.docket_orderly.specs.Orderly.{IsOrderly, Rises, acts_on}
use Rattle.docket_tables.specs.Stands.{HoldsRows, Lasts}
use Rattle.docket_tables.specs.declared.fault.ReadFault.{ReadFault}
use Rattle.docket_tables.specs.declared.fault.ReadFault.TheVariants.{Store, NoMemory, Damaged}

-- the answer, unless memory ran out; the rows are a docket's
abbrev pub IsReadAs : {X : Type 0} → (X → Type 0) → Result X ReadFault → Type 0
IsReadAs answer (Ok x) = answer x
IsReadAs answer (Err NoMemory) = Unit {0}
IsReadAs answer (Err _) = ⊥

-- they stand in the order of their numbers, each of which is there once
abbrev pub AreNumberedRows : List CalendarRow → Type 0
AreNumberedRows rows = Rises (map (λ row. row.number) rows)

-- the row of a number, from 1
abbrev pub row_at : {R : Type 0} → List R → ℕ → Option R
row_at rows zero = None
row_at rows (suc n) = slice_get rows n

-- the rows are the acts of case k, by their deadlines: of each deadline its acts, in their order
abbrev pub AreActsOf : ℕ → List ActRow → List ActRow → Type 0
AreActsOf k acts found =
    ((n : ℕ) → filter (λ row. row.deadline == n) found ≡ acts_on k n acts) × IsNonDecreasingBy (λ row. row.deadline) found

module _ {S : Type 0} (g : Ghosts S) where
  -- what a failure leaves: the connection still holds the rows, but may be shut if the store failed
  abbrev pub Fails : Held S → Rows → ReadFault → Type 0
  Fails new rows (Store e) = Lasts g new rows
  Fails new rows NoMemory = HoldsRows g new rows
  Fails new rows Damaged = HasCleanDisk (state g new) → ⊥

  -- the answer, and the connection still holds the rows
  abbrev pub Gives : {X : Type 0} → Held S → Rows → (X → Type 0) → Result X ReadFault → Type 0
  Gives new rows answer (Ok x) = HoldsRows g new rows × (HasCleanDisk (state g new) → answer x)
  Gives new rows answer (Err fault) = Fails new rows fault

  -- what a question that fails leaves of rows, whatever they are: the connection still holds them, but may be shut if the store failed
  abbrev pub StaysAt : Held S → Rows → ReadFault → Type 0
  StaysAt new rows (Store e) = Lasts g new rows
  StaysAt new rows NoMemory = HoldsRows g new rows
  StaysAt new rows Damaged = HoldsRows g new rows

  -- what a question leaves of rows, whatever they are
  abbrev pub Stays : {X : Type 0} → Held S → Rows → Result X ReadFault → Type 0
  Stays new rows (Ok x) = HoldsRows g new rows
  Stays new rows (Err fault) = StaysAt new rows fault

  -- of a connection that holds a docket's tables
  abbrev pub Reads : {X : Type 0} → Held S → Held S → Result X ReadFault → (CourtSettings → Tables → X → Type 0) → Type 0
  Reads old new result answer = (court : CourtSettings) (t : Tables) → IsOrderly court t → HoldsRows g old (rows_in court t) → Gives new (rows_in court t) (answer court t) result
