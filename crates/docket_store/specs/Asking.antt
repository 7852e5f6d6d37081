-- What a question to a docket leaves.
use Rattle.std.specs.Prelude.{◌≡◌, ◌≤◌, ◌↔◌, true, false, Result, Err}
use Rattle.sqlite.specs.Held.{state}
use Rattle.sqlite.specs.State.{HasCleanDisk, Survives}
use Rattle.sqlite.specs.Store.{Ghosts}
use Rattle.sqlite.specs.View.{doubt}
use Rattle.docket_tables.specs.Layouts.{Rows}
use Rattle.docket_tables.specs.Stands.{HoldsRows}
use Rattle.docket_applying.specs.AnyRows.{Preserves}
use Rattle.docket_applying.specs.Causes.{IsClosedForCause}
use Rattle.docket_applying.specs.Dockets.{Docket}
use Rattle.docket_applying.specs.declared.fault.Fault.{Fault}
use Rattle.docket_applying.specs.declared.fault.Fault.TheVariants.{Closed, StoreFailed}

module _ {S : Type 0} (g : Ghosts S) where
  -- a question changes nothing, except that a docket whose database fails is closed
  pub record OnlyAnswers {X : Type 0} (old new : Docket S) (result : Result X Fault) : Type 0 where
    pub court : new.court ≡ old.court
    -- a closed docket returns `Closed` and does nothing
    pub closed : old.closed ≡ true → (result ≡ Err Closed) × (new ≡ old)
    -- no row of any docket changes; if the database failed, a power failure leaves the rows, and the connection may be shut
    pub stays : (rows : Rows) → HoldsRows g old.conn rows → Preserves g new.conn rows result
    -- every database that a power failure may leave was one before
    pub writes_nothing : Survives (state g old.conn) (state g new.conn) (λ _. ⊥)
    -- a disk that was not clean is not clean after it
    pub clean : doubt (state g old.conn).is_clean ≤ doubt (state g new.conn).is_clean
    -- the docket is closed exactly if its database failed
    pub closes : old.closed ≡ false → (new.closed ≡ true) ↔ (result ≡ Err StoreFailed)
    -- on a clean disk the database fails only for a cause
    pub cause : (rows : Rows) → HoldsRows g old.conn rows → HasCleanDisk (state g new.conn) → result ≡ Err StoreFailed → IsClosedForCause g old new
