-- What a question to an idle connection leaves.
use Rattle.std.specs.Prelude.{◌≡◌, false, IfErr, Option, Result}
use Rattle.sqlite.specs.Held.{Held, state}
use Rattle.sqlite.specs.State.{HasCleanDisk, Survives}
use Rattle.sqlite.specs.Store.{Ghosts}
use Rattle.sqlite.specs.declared.error.Error.{Error}
use Rattle.docket_tables.specs.Layouts.{Rows}
use Rattle.docket_tables.specs.Stands.{HoldsRows}
use Rattle.docket_applying.specs.AnyRows.{Preserves}
use Rattle.docket_applying.specs.Causes.{IsCausedBy, IsNamed}
use Rattle.docket_applying.specs.declared.fault.Fault.{Fault}

module _ {S : Type 0} (g : Ghosts S) where
  -- nothing changes, neither the rows, whatever they are, nor the connection
  pub record LeavesIdle {X : Type 0} (old new : Held S) (failure : Option Error) (result : Result X Fault) : Type 0 where
    pub idle : new.in_transaction ≡ false
    -- the connection still holds the rows that it held, but may be shut if the database failed
    pub stays : (rows : Rows) → HoldsRows g old rows → Preserves g new rows result
    -- every database that a power failure may leave was one before
    pub writes_nothing : Survives (state g old) (state g new) (λ _. ⊥)
    -- if the database failed, its error is known
    pub named : IfErr result (IsNamed failure)
    -- and has a cause, if the connection held rows and the disk is clean
    pub cause : (rows : Rows) → HoldsRows g old rows → HasCleanDisk (state g new) → IfErr result (IsCausedBy (state g old) (state g new) failure)
