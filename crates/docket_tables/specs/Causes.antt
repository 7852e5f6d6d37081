-- Why a call of the database fails.
use Rattle.std.specs.Prelude.{◌≡◌, ◌≤◌, ◌⊎◌, false, IsTrue, IsSome, IfErr, Result, Option, Some, List, map, get_or, true}
use Rattle.sqlite.specs.Disk.{MoreFaults}
use Rattle.sqlite.specs.Kind.{Kind}
use Rattle.sqlite.specs.Kind.TheVariants.{Integer}
use Rattle.sqlite.specs.Order.{Row}
use Rattle.sqlite.specs.State.{State, is_disk_error}
use Rattle.sqlite.specs.declared.error.Error.{Error}
use Rattle.sqlite.specs.declared.error.Error.TheVariants.{SqliteFailure}
use Rattle.sqlite.specs.declared.error.ErrorCode.TheVariants.{NoRowid, OutOfMemory, OperationInterrupted}
use Rattle.docket_tables.specs.Layouts.{are_of}
use Rattle.docket_tables.specs.Queries.{keys_of, table_of}
use Rattle.docket_tables.specs.Schema.{kinds_of}
use Rattle.docket_tables.specs.Tables.{layout_of}
use Rattle.docket_tables.specs.declared.fault.ReadFault.{ReadFault}
use Rattle.docket_tables.specs.declared.fault.ReadFault.TheVariants.{Store, NoMemory, Damaged}
use Rattle.docket_tables.specs.declared.fault.StoreFault.{StoreFault}
use Rattle.docket_tables.specs.declared.fault.StoreFault.TheVariants as making
use Rattle.docket_tables.specs.declared.query.Query.{Query}
use Rattle.docket_tables.specs.declared.table.Table.{Table}

-- the error is one of the disk, which failed or refused more often than before
abbrev pub IsOfDisk : State → State → Error → Type 0
IsOfDisk old new e = IsTrue (is_disk_error e) × MoreFaults old.faults new.faults

-- memory ran out, of which no count is kept
abbrev pub IsOfMemory : Error → Type 0
IsOfMemory e = e ≡ SqliteFailure OutOfMemory

-- a query came to the limit on steps, which was set
abbrev pub IsOfLimit : State → Error → Type 0
IsOfLimit old e = (e ≡ SqliteFailure OperationInterrupted) × IsSome old.step_limit

-- a later state of the connection: no fault of its disk is forgotten, and the limit on steps is the same
abbrev pub IsLater : State → State → Type 0
IsLater old new = (old.faults ≤ new.faults) × (new.step_limit ≡ old.step_limit)

-- the error of a question to a connection that held rows has a cause
abbrev pub IsCaused : State → State → Error → Type 0
IsCaused old new e = IsOfDisk old new e ⊎ (IsOfMemory e ⊎ IsOfLimit old e)

-- the error for which the store gave no answer has a cause too
abbrev pub IsCausedFault : State → State → ReadFault → Type 0
IsCausedFault old new (Store e) = IsCaused old new e
IsCausedFault old new NoMemory = Unit {0}
IsCausedFault old new Damaged = Unit {0}

-- a failure is one of the store only for a cause
abbrev pub FailsForCause : {X : Type 0} → State → State → Result X ReadFault → Type 0
FailsForCause old new result = IfErr result (IsCausedFault old new)

-- the fault is not one of the store
abbrev pub IsOwn : ReadFault → Type 0
IsOwn (Store e) = ⊥
IsOwn NoMemory = Unit {0}
IsOwn Damaged = Unit {0}

-- what the columns hold that the parameters of a query are for
abbrev pub kinds_asked : Query → List Kind
kinds_asked query = map (λ key. get_or (kinds_of (table_of query)) key Integer) (keys_of query)

-- the values are of the kinds of those columns
abbrev pub Suits : Query → Row → Type 0
Suits query params = are_of (kinds_asked query) params ≡ true

-- the error of making tables has a cause: one that a question may have, or the connection was shut before
abbrev pub HasMakingCause : State → State → Error → Type 0
HasMakingCause old new e = IsCaused old new e ⊎ (old.is_open ≡ false)

-- the error of making tables is reported: it has a cause if the store failed, and is out of memory if memory ran out
abbrev pub IsCausedMaking : State → State → Option Error → StoreFault → Type 0
IsCausedMaking old new failure making.StoreFailed = (e : Error) × (failure ≡ Some e) × HasMakingCause old new e
IsCausedMaking old new failure making.NoMemory = (e : Error) × (failure ≡ Some e) × IsOfMemory e

-- a row was to have a hidden rowid beyond 2^63 - 1; a new row has the one after the last of its table
abbrev pub IsOfRowids : Error → Type 0
IsOfRowids e = e ≡ SqliteFailure NoRowid

-- the error of an INSERT of a row that may stand has a cause, or the table hides its rowids and none was left
abbrev pub HasAddCause : Table → State → State → Error → Type 0
HasAddCause table old new e = IsCaused old new e ⊎ (IsOfRowids e × ((layout_of table).is_rowid ≡ false))

-- the error of changes inside a transaction has a cause, or a row was to have a rowid beyond the last
abbrev pub HasChangeCause : State → State → Error → Type 0
HasChangeCause old new e = IsCaused old new e ⊎ IsOfRowids e

-- the fault of a reading inside a transaction has a cause if the store failed, and no row is reported damaged
abbrev pub IsReadingFault : State → State → ReadFault → Type 0
IsReadingFault old new (Store e) = IsCaused old new e
IsReadingFault old new NoMemory = Unit {0}
IsReadingFault old new Damaged = ⊥

-- the same of a part that may change rows
abbrev pub IsChangeFault : State → State → ReadFault → Type 0
IsChangeFault old new (Store e) = HasChangeCause old new e
IsChangeFault old new NoMemory = Unit {0}
IsChangeFault old new Damaged = ⊥
