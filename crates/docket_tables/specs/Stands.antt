-- What it is for a connection to hold rows, and what a power failure leaves of them.
use Rattle.std.specs.Prelude.{◌≡◌, ◌⊎◌, false, IsTrue, IfOk, Result, Ok, Err}
use Rattle.sqlite.specs.Tree.{Trees}
use Rattle.sqlite.specs.Store.{Ghosts}
use Rattle.sqlite.specs.Effect.{IsDatabase}
use Rattle.sqlite.specs.State.{State, HasCleanDisk, KeepsCommit, Survives}
use Rattle.sqlite.specs.Held.{Held, state}
use Rattle.sqlite_catalog.specs.Listing.{IsSound}
use Rattle.docket_columns.specs.declared.version.Version.{Version}
use Rattle.docket_columns.specs.declared.version.Version.TheVariants.{Second}
use Rattle.docket_tables.specs.Schema.{schema_of}
use Rattle.docket_tables.specs.Layouts.{Rows, AreRowsIn}
use Rattle.docket_tables.specs.declared.fault.StoreFault.{StoreFault}
use Rattle.docket_tables.specs.declared.fault.StoreFault.TheVariants.{NoMemory, StoreFailed}

-- a database that a power failure leaves has the tables of the version, and in them the rows
pub record IsImageIn (v : Version) (rows : Rows) (db : Trees) : Type 0 where
  pub sound : ∥ IsSound (schema_of v) db ∥₁
  pub holds : AreRowsIn v rows db

-- the connection is open, and sees the rows in the tables of the version
pub record ShowsIn (v : Version) (s : State) (rows : Rows) : Type 0 where
  pub is_open : IsTrue s.is_open
  pub schema : s.now.schema ≡ schema_of v
  pub live : IsDatabase s.now
  pub holds : AreRowsIn v rows s.now.trees

-- no transaction is open, the connection sees the rows, and so does each database that a power failure may leave
pub record IsSettledIn (v : Version) (s : State) (rows : Rows) : Type 0 where
  pub idle : s.in_transaction ≡ false
  pub shows : ShowsIn v s rows
  pub committed : s.committed ≡ s.now
  pub images : (db : Trees) → s.may_leave db → IsImageIn v rows db

-- in the version that is kept

abbrev pub IsImage : Rows → Trees → Type 0
IsImage = IsImageIn Second

abbrev pub Shows : State → Rows → Type 0
Shows = ShowsIn Second

abbrev pub IsSettled : State → Rows → Type 0
IsSettled = IsSettledIn Second

-- the connection sees the rows inside a transaction
pub record Sees (s : State) (rows : Rows) : Type 0 where
  pub begun : IsTrue s.in_transaction
  pub shows : Shows s rows

-- the rows are settled, but that the connection may be shut
pub record IsLasting (s : State) (rows : Rows) : Type 0 where
  pub images : (db : Trees) → s.may_leave db → IsImage rows db
  pub settled : IsTrue s.is_open → IsSettled s rows

-- a power failure leaves the rows as they were or as they were to become; the connection is as it was, or shut
pub record IsEither (s : State) (rows next : Rows) : Type 0 where
  pub images : (db : Trees) → s.may_leave db → IsImage rows db ⊎ IsImage next db
  pub settled : IsTrue s.is_open → IsSettled s rows

-- a part of a transaction commits nothing: a power failure leaves what it could leave before
pub record StaysInside (old new : State) : Type 0 where
  pub kept : HasCleanDisk new → KeepsCommit old new
  pub survives : Survives old new (λ _. ⊥)

-- a part of a transaction that saw these rows commits nothing; if it succeeds, it sees the next ones and returns the answer
abbrev pub Inside : {X E : Type 0} → State → State → Rows → Rows → Result X E → (X → Type 0) → Type 0
Inside old new rows next result answer =
    (HasCleanDisk old → Sees old rows) → StaysInside old new × (HasCleanDisk new → IfOk result (λ x. Sees new next × answer x))

module _ {S : Type 0} (g : Ghosts S) where
  -- the connection holds the rows in the tables of the version
  abbrev pub HoldsRowsIn : Version → Held S → Rows → Type 0
  HoldsRowsIn v c rows = (c.in_transaction ≡ false) × (HasCleanDisk (state g c) → IsSettledIn v (state g c) rows)

  abbrev pub HoldsRows : Held S → Rows → Type 0
  HoldsRows = HoldsRowsIn Second

  -- the same, but that the connection may be shut
  abbrev pub Lasts : Held S → Rows → Type 0
  Lasts c rows = (c.in_transaction ≡ false) × (HasCleanDisk (state g c) → IsLasting (state g c) rows)

  -- a write that failed
  abbrev pub LastsAsEither : Held S → Rows → Rows → Type 0
  LastsAsEither c rows next = (c.in_transaction ≡ false) × (HasCleanDisk (state g c) → IsEither (state g c) rows next)

  -- a power failure leaves what it could leave before, or the rows
  abbrev pub MayMake : Held S → Held S → Rows → Type 0
  MayMake old new rows = (new.in_transaction ≡ false) × (HasCleanDisk (state g new) → (db : Trees) → (state g new).may_leave db → (state g old).may_leave db ⊎ IsImage rows db)

  -- a power failure leaves what it could leave before: nothing was made
  abbrev pub MakesNothing : Held S → Held S → Type 0
  MakesNothing old new = (new.in_transaction ≡ false) × (HasCleanDisk (state g new) → (db : Trees) → (state g new).may_leave db → (state g old).may_leave db)

  -- what the making of tables with these rows leaves
  abbrev pub Makes : Held S → Held S → Rows → Result (Unit {0}) StoreFault → Type 0
  Makes old new rows (Ok _) = HoldsRows new rows
  Makes old new rows (Err NoMemory) = MakesNothing old new
  Makes old new rows (Err StoreFailed) = MayMake old new rows

  -- what an error leaves: if memory ran out, the connection holds the rows
  abbrev pub Leaves : Held S → Rows → Rows → StoreFault → Type 0
  Leaves c rows next NoMemory = HoldsRows c rows
  Leaves c rows next StoreFailed = LastsAsEither c rows next
