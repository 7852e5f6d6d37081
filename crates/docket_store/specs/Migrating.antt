-- A docket in the first version of the tables, and why it was not migrated.
use Rattle.sqlite_wal.specs.Recovery.{Image}
use Rattle.court_days.specs.Court.{CourtSettings}
use Rattle.docket_columns.specs.declared.version.Version.TheVariants.{First}
use Rattle.docket_history.specs.Histories.{History}
use Rattle.docket_decisions.specs.Tables.{rows_of}
use Rattle.docket_scan.specs.declared.fault.AdoptFault.{AdoptFault}
use Rattle.docket_scan.specs.declared.fault.AdoptFault.TheVariants as adopt
use Rattle.docket_tables.specs.Contents.{rows_by}
use Rattle.docket_tables.specs.Layouts.{Rows}
use Rattle.docket_store.specs.Reopening.{HoldRows}
use Rattle.docket_store.specs.declared.migrating.MigrateFault.{MigrateFault}
use Rattle.docket_store.specs.declared.migrating.MigrateFault.TheVariants as migrate

-- the rows of a docket in the first version
abbrev pub first_rows : CourtSettings → History → Rows
first_rows court h = rows_by First court (rows_of court h)

-- the database file and its log hold the docket in the first version
abbrev pub HoldFirst : Image → CourtSettings → History → Type 0
HoldFirst files court h = HoldRows First files (first_rows court h)

-- the cause why its database is no docket's in the first version
abbrev pub cause_of : MigrateFault → AdoptFault
cause_of migrate.Empty = adopt.Empty
cause_of migrate.NotADocket = adopt.NotADocket
cause_of migrate.OtherVersion = adopt.OtherVersion
cause_of (migrate.Damaged t) = adopt.Damaged t
cause_of migrate.NoMemory = adopt.NoMemory
cause_of migrate.StoreFailed = adopt.StoreFailed
