-- What remains of the two files of a database after they were let go, or after an open of them failed.
use Rattle.std.specs.Prelude.{◌⊎◌, ℕ, Option, IfSome}
use Rattle.sqlite_disk.specs.declared.Disk.{Ghosts}
use Rattle.sqlite_pool.specs.Stored.{stored_size}
use Rattle.sqlite_wal.specs.Files.{outcomes}
use Rattle.sqlite_wal.specs.PageSize.{IsPageSize}
use Rattle.sqlite_wal.specs.Recovery.{Image}
use Rattle.sqlite_store.specs.FileStore.{recovers}
use Rattle.sqlite_store.specs.Unopened.{state_of}
use Rattle.sqlite.specs.Tree.{Trees}
use Rattle.sqlite.specs.Closing.{HoldsAlone}
use Rattle.sqlite.specs.Files.{HoldsDatabase, IsCleanLeft}
use Rattle.sqlite.specs.Opening.{HoldsAt}
use Rattle.sqlite.specs.declared.error.Error.{Error}
use Rattle.sqlite.specs.declared.file.Leftover.{Leftover}
use Rattle.sqlite.specs.declared.file.Leftover.TheVariants as left
use Rattle.docket_tables.specs.Layouts.{Rows}
use Rattle.docket_tables.specs.Stands.{IsImage}

-- the two files hold a database of this kind
abbrev pub HoldSome : (Trees → Type 0) → Image → Type 0
HoldSome P files = ∥ ((db : Trees) × HoldsDatabase files db × P db) ∥₁

-- the files hold the database, and where the pages of a file end in sums, each page has its sum, also in the log
abbrev pub HoldsSummed : Image → Trees → Type 0
HoldsSummed files db = (size : ℕ) × IsPageSize (stored_size size) × HoldsAt size files db

-- No page lacks its sum. A page can lack one in a file whose pages end in sums, where a program that writes none has left it in the log.
abbrev pub HaveSums : Image → Type 0
HaveSums files = (db : Trees) → HoldsDatabase files db → HoldsSummed files db

module _ {D : Type 0} {g : Ghosts D} where
  -- Each database that a power failure may leave in the files is of this kind. Files that were closed hold it in the database file alone;
  -- a store that was let go holds what an open would find.
  abbrev pub Leaves : Leftover D g → (Trees → Type 0) → Type 0
  Leaves (left.Files files) P = (image : Image) → outcomes g files.log files.db image → ∥ ((db : Trees) × HoldsAlone image db × P db) ∥₁
  Leaves (left.Unopened files) P = (image : Image) → (state_of files).may_leave image → HoldSome P image
  Leaves (left.Store it) P = (db : Trees) → recovers it db → P db

  -- each such database has the rows, or the next ones
  abbrev pub LeavesRows : Leftover D g → Rows → Rows → Type 0
  LeavesRows rest rows next = Leaves rest (λ db. IsImage rows db ⊎ IsImage next db)

  -- The same for files that held `start` and were not opened: they still hold it, with the log.
  abbrev pub StillHolds : Image → Leftover D g → (Trees → Type 0) → Type 0
  StillHolds start (left.Files files) P = (image : Image) → outcomes g files.log files.db image → HoldSome P image
  StillHolds start (left.Unopened files) P = HaveSums start → Leaves (left.Unopened files) P
  StillHolds start (left.Store it) P = Leaves (left.Store it) P

  -- an open failed: the files that it left, if it got any, still hold a database of this kind
  abbrev pub IsUnharmed : Image → (Trees → Type 0) → Error × Option (Leftover D g) → Type 0
  IsUnharmed start P failed = IfSome failed.1 (λ rest. IsCleanLeft rest → StillHolds start rest P)
