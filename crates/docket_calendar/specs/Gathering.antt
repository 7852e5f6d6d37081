-- The deadlines of a question as a list.
use Rattle.std.specs.Prelude.{Result, Ok, Err}
use Rattle.sqlite.specs.Store.{Ghosts}
use Rattle.sqlite.specs.State.{IsUnchanged}
use Rattle.sqlite.specs.Held.{Held, state}
use Rattle.docket_tables.specs.declared.fault.ReadFault.{ReadFault}
use Rattle.docket_calendar.specs.Sending.{LeavesAt}

module _ {S : Type 0} (g : Ghosts S) where
  -- an answer, and the connection is as it was; or none, because memory ran out or the store failed
  abbrev pub ComesTo : {X : Type 0} → Held S → Held S → (X → Type 0) → Result X ReadFault → Type 0
  ComesTo old new answer (Ok x) = IsUnchanged (state g old) (state g new) × answer x
  ComesTo old new answer (Err fault) = LeavesAt g old new fault
