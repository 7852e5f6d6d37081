-- What a change of the version leaves.
use Rattle.std.specs.Prelude.{◌≡◌, ◌⊎◌, false, Result, Ok, Err}
use Rattle.sqlite.specs.Tree.{Trees}
use Rattle.sqlite.specs.Store.{Ghosts}
use Rattle.sqlite.specs.State.{HasCleanDisk}
use Rattle.sqlite.specs.Held.{Held, state}
use Rattle.docket_columns.specs.declared.version.Version.TheVariants.{First}
use Rattle.docket_tables.specs.Layouts.{Rows}
use Rattle.docket_tables.specs.Stands.{HoldsRows, IsImage, IsImageIn, MakesNothing}
use Rattle.docket_tables.specs.declared.fault.StoreFault.{StoreFault}
use Rattle.docket_tables.specs.declared.fault.StoreFault.TheVariants.{NoMemory, StoreFailed}

module _ {S : Type 0} (g : Ghosts S) where
  -- a power failure leaves the rows in tables of the first version, or the next ones in those of the second
  abbrev pub IsEitherVersion : Held S → Rows → Rows → Type 0
  IsEitherVersion c rows next =
      (c.in_transaction ≡ false) × (HasCleanDisk (state g c) → (db : Trees) → (state g c).may_leave db → IsImageIn First rows db ⊎ IsImage next db)

  -- what the change leaves of tables of the first version that held these rows
  abbrev pub Changes : Held S → Held S → Rows → Rows → Result (Unit {0}) StoreFault → Type 0
  Changes old new rows next (Ok _) = HoldsRows g new next
  Changes old new rows next (Err NoMemory) = MakesNothing g old new
  Changes old new rows next (Err StoreFailed) = IsEitherVersion new rows next
