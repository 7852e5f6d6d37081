-- What a question leaves of a connection.
use Rattle.std.specs.Prelude.{◌≡◌, false, Result}
use Rattle.sqlite.specs.Store.{Ghosts}
use Rattle.sqlite.specs.State.{HasCleanDisk, Survives}
use Rattle.sqlite.specs.Held.{Held, state}
use Rattle.docket_tables.specs.Causes.{FailsForCause}
use Rattle.docket_tables.specs.Layouts.{Rows}
use Rattle.docket_tables.specs.Readings.{Stays}
use Rattle.docket_tables.specs.Stands.{HoldsRows}
use Rattle.docket_tables.specs.declared.fault.ReadFault.{ReadFault}

module _ {S : Type 0} (g : Ghosts S) where
  -- nothing changes, neither the rows, whatever they are, nor the connection
  pub record OnlyAsks {X : Type 0} (old new : Held S) (result : Result X ReadFault) : Type 0 where
    -- the connection still holds the rows that it held, but may be shut if the store failed
    pub stays : (rows : Rows) → HoldsRows g old rows → Stays g new rows result
    -- every database that a power failure may leave was one before
    pub writes_nothing : Survives (state g old) (state g new) (λ _. ⊥)
    -- no transaction is begun
    pub mode : old.in_transaction ≡ false → new.in_transaction ≡ false
    -- if the connection held rows and the disk is clean, the store failed for a cause
    pub cause : (rows : Rows) → HoldsRows g old rows → HasCleanDisk (state g new) → FailsForCause (state g old) (state g new) result
