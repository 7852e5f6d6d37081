-- What a power failure may leave of a connection's two files.
use Rattle.sqlite_disk.specs.declared.Disk.{Ghosts as Disk}
use Rattle.sqlite_disk.specs.declared.Files.{Files}
use Rattle.sqlite_store.specs.declared.store.FileStore.{FileStore}
use Rattle.sqlite_store.specs.FileStore.{files}
use Rattle.sqlite_wal.specs.Reads.{AreClean}
use Rattle.sqlite_wal.specs.Recovery.{Image}
use Rattle.sqlite.specs.Files.{over_files}
use Rattle.sqlite.specs.Held.{Held}
use Rattle.court_days.specs.Court.{CourtSettings}
use Rattle.docket_history.specs.Histories.{History}
use Rattle.docket_tables.specs.Stands.{LastsAsEither}
use Rattle.docket_applying.specs.Applying.{StandsFor, docket_rows}
use Rattle.docket_store.specs.Reopening.{HoldDocket, HoldEither, MayLeave}

module _ {D : Type 0} {g : Disk D} where
  -- each of the two files is one that its disk may leave
  pub record IsLeftOf (last : FileStore D g) (left : Files D) : Type 0 where
    pub log : g.may_leave (files last).0 (g.seen left.log)
    pub db : g.may_leave (files last).1 (g.seen left.db)

  -- the connection is stopped. Whatever its disks may leave then, what is left and all else, holds the docket that it held. If the
  -- database failed at a command, it holds that docket or the one with the command
  pub record IsStopOf (conn : Held (FileStore D g)) (left : Files D) (last : FileStore D g) : Type 0 where
    pub files_left : IsLeftOf last left
    pub settled : AreClean g left.log left.db → (court : CourtSettings) (h : History) → StandsFor over_files conn court h
        → (image : Image) → MayLeave last image → HoldDocket image court h
    pub either : AreClean g left.log left.db → (court : CourtSettings) (h next : History)
        → LastsAsEither over_files conn (docket_rows court h) (docket_rows court next) → (image : Image) → MayLeave last image → HoldEither image court h next
