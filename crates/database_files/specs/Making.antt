-- The two files of a database: what an open finds in them, and what it leaves of files that it does not open.
use Rattle.std.specs.Prelude.{◌≡◌, ◌⊎◌, ℕ}
use Rattle.sqlite_disk.specs.declared.Disk.{Ghosts}
use Rattle.sqlite_disk.specs.declared.Files.{Files}
use Rattle.sqlite_pool.specs.Opening.{IsBlankFile}
use Rattle.sqlite_store.specs.FileStore.{recovers}
use Rattle.sqlite_store.specs.Unopened.{state_of}
use Rattle.sqlite_store.specs.declared.store.FileStore.{FileStore}
use Rattle.sqlite_trees.specs.Tree.{Trees}
use Rattle.sqlite_wal.specs.Files.{outcomes}
use Rattle.sqlite_wal.specs.Reads.{AreClean, OnlyReads}
use Rattle.sqlite_wal.specs.Recovery.{Image}
use Rattle.sqlite.specs.Files.{AreFound, FailsToOpenFiles, HoldsDatabase, IsCleanLeft, IsEmpty, LeavesFiles, file_state, image_of}
use Rattle.sqlite.specs.Held.{Held}
use Rattle.sqlite.specs.declared.error.Error.{Error}
use Rattle.sqlite.specs.declared.file.Leftover.{Leftover}
use Rattle.sqlite.specs.declared.file.Leftover.TheVariants as left

-- the bytes of a page of a database that is made
abbrev pub new_page : ℕ
new_page = 1024

-- there is no database, or what a stop left of making one of such pages
abbrev pub HoldsNone : Image → Type 0
HoldsNone = IsBlankFile new_page

-- what it was, no database still, or an empty one
abbrev pub IsUnderWay : {D : Type 0} → Ghosts D → Files D → Image → Type 0
IsUnderWay g files image = outcomes g files.log files.db image ⊎ (HoldsNone image ⊎ ∥ ((db : Trees) × HoldsDatabase image db × IsEmpty db) ∥₁)

module _ {D : Type 0} {g : Ghosts D} where
  -- the connection shows what the files held, or nothing where they held no database
  pub record Finds (files : Files D) (c : Held (FileStore D g)) : Type 0 where
    pub honest : AreClean g files.log files.db
    pub holds : (db : Trees) → HoldsDatabase (image_of g files) db → (file_state c).committed.trees ≡ db
    pub reads : AreFound g files (file_state c).committed.trees ⊎ (HoldsNone (image_of g files) × IsEmpty (file_state c).committed.trees)

  -- it shows nothing, since they held none
  pub record IsMadeIn (files : Files D) (c : Held (FileStore D g)) : Type 0 where
    pub honest : AreClean g files.log files.db
    pub nothing : IsEmpty (file_state c).committed.trees

  -- what remains if none was made: the next open makes it in what a power failure leaves, or finds it empty
  abbrev pub LeavesUnderWay : Files D → Leftover D g → Type 0
  LeavesUnderWay files (left.Files now) = (image : Image) → outcomes g now.log now.db image → outcomes g files.log files.db image
  LeavesUnderWay files (left.Unopened now) = (image : Image) → (state_of now).may_leave image → IsUnderWay g files image
  LeavesUnderWay files (left.Store now) = (db : Trees) → recovers now db → IsEmpty db

  abbrev pub LeavesNew : Files D → Leftover D g → Type 0
  LeavesNew files rest = HoldsNone (image_of g files) × LeavesUnderWay files rest

  -- The files were not opened. They were read, `seen`; then the open failed for a cause, which names what failed, and left them so that
  -- the next open finds them as this one did.
  pub record IsNotOpened (files : Files D) (failed : Error × Leftover D g) : Type 0 where
    pub seen : Files D
    pub log : OnlyReads g files.log seen.log
    pub db : OnlyReads g files.db seen.db
    pub cause : IsCleanLeft failed.1 → FailsToOpenFiles seen failed.1 failed.0
    pub unharmed : IsCleanLeft failed.1 → LeavesFiles seen failed.1 ⊎ LeavesNew seen failed.1
