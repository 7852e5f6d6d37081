-- What a database is found to be in a version: the first cause, in the order of the faults, for which it is no docket, or the docket that it holds.
use Rattle.std.specs.Prelude.{◌≡◌, ◌⊎◌, ℕ, false, true, [], ◌∷◌, Result, Ok, Err}
use Rattle.std.specs.List.{AllByRecursion}
use Rattle.sqlite.specs.Order.{Row}
use Rattle.sqlite.specs.State.{State, IsUnchanged}
use Rattle.sqlite.specs.declared.error.Error.{Error}
use Rattle.sqlite.specs.declared.error.Error.TheVariants.{SqliteFailure, SqlInputError}
use Rattle.sqlite.specs.declared.error.ErrorCode.TheVariants.{TypeMismatch, IntegerOverflow, OutOfMemory}
use Rattle.court_days.specs.Court.{CourtSettings}
use Rattle.docket_columns.specs.Cells.{HasWord, IsOfVersion, court_cells_of}
use Rattle.docket_columns.specs.Fits.{IsCourtRow}
use Rattle.docket_columns.specs.declared.version.Version.{Version}
use Rattle.docket_sound.specs.declared.court.CourtRecord.{CourtRecord}
use Rattle.docket_scan.specs.Courts.{AreMarked, IsCourtsRow, IsRowOf, record_of}
use Rattle.docket_scan.specs.Holdings.{holdings_of}
use Rattle.docket_scan.specs.Judging.{AreRowsFor, AreSoundBy, Holds, HasUnsoundRows, IsUnsoundIn, Rows, StaysOpen, before, behind_court}
use Rattle.docket_scan.specs.Names.{AreNamesFor}
use Rattle.docket_scan.specs.Scans.{AreRowsOf, IsUnreadable, StaysOrRollsBack}
use Rattle.docket_scan.specs.Shapes.{has_named, has_table}
use Rattle.docket_scan.specs.declared.fault.AdoptFault.{AdoptFault}
use Rattle.docket_scan.specs.declared.fault.AdoptFault.TheVariants.{Empty, NotADocket, OtherVersion, Damaged, NoMemory, StoreFailed}
use Rattle.docket_scan.specs.declared.finding.FoundDocket.{FoundDocket}
use Rattle.docket_tables.specs.Tables.{IsTableOf}
use Rattle.docket_tables.specs.declared.table.Table.{Table}
use Rattle.docket_tables.specs.declared.table.Table.TheVariants.{Court}

abbrev pub court_fault : Error → AdoptFault
court_fault (SqlInputError why) = Empty
court_fault (SqliteFailure TypeMismatch) = Empty
court_fault (SqliteFailure IntegerOverflow) = Empty
court_fault (SqliteFailure OutOfMemory) = NoMemory
court_fault _ = StoreFailed

-- there is no table of a court, or none that a statement can read
abbrev pub IsEmpty : State → Type 0
IsEmpty s = (has_named s.now.schema Court ≡ false) ⊎ ((has_table s.now.schema Court ≡ true) × IsUnreadable Court s)

-- there is one, and it lacks a column, or does not hold one row with the word of a docket
abbrev pub IsNoDocket : State → Type 0
IsNoDocket s = (has_named s.now.schema Court ≡ true) × ((has_table s.now.schema Court ≡ false) ⊎ HasUnsoundRows Court s AreMarked)

-- it holds this row alone, with the word of a docket
abbrev pub HasCourtRow : State → Row → Type 0
HasCourtRow s row = (has_table s.now.schema Court ≡ true) × AreRowsOf Court s (row ∷ []) × HasWord row

-- its version is another one
abbrev pub IsOfOtherVersion : Version → State → Type 0
IsOfOtherVersion v s = (row : Row) × HasCourtRow s row × (IsOfVersion v row → ⊥)

-- the table of the court is sound: it holds the row of this court, and the next calendar row has this number
abbrev pub HasCourt : Version → State → CourtSettings → ℕ → Type 0
HasCourt v s court next = (row : Row) × HasCourtRow s row × IsRowOf v row court next

-- the court's table is sound, and this is the first of the others that is not, by those before it
abbrev pub IsFirstUnsound : Version → Table → State → Type 0
IsFirstUnsound v t s =
    (court : CourtSettings) × (next : ℕ) × HasCourt v s court next
    × (r : Rows) × AreNamesFor v s r.names × AllByRecursion (Holds v s court next r) (before t) × IsUnsoundIn t s (AreSoundBy v t court next r)

-- the court's table holds the row of no court; or this is the first table of the version that is not sound
abbrev pub IsDamaged : Version → Table → State → Type 0
IsDamaged v Court s = (row : Row) × HasCourtRow s row × IsOfVersion v row × (IsCourtsRow v row → ⊥)
IsDamaged v t s = IsTableOf v t × IsFirstUnsound v t s

-- all tables of the version are sound, and hold these rows beside the court
pub record AreSound (v : Version) (s : State) (court : CourtSettings) (r : Rows) : Type 0 where
  pub next_row : ℕ
  pub has_court : HasCourt v s court next_row
  pub only : AreRowsFor v r
  pub named : AreNamesFor v s r.names
  pub behind : AllByRecursion (Holds v s court next_row r) (behind_court v)

-- why the database is not accepted as a docket: the first cause, in the order of the faults
abbrev pub HasCause : Version → State → AdoptFault → Type 0
HasCause v s Empty = IsEmpty s
HasCause v s NotADocket = IsNoDocket s
HasCause v s OtherVersion = IsOfOtherVersion v s
HasCause v s (Damaged t) = IsDamaged v t s
HasCause v s NoMemory = Unit {0}
HasCause v s StoreFailed = Unit {0}

-- what remains of a rejected database: nothing changes
abbrev pub LeavesIt : State → State → AdoptFault → Type 0
LeavesIt old new NoMemory = StaysOrRollsBack old new
LeavesIt old new StoreFailed = StaysOrRollsBack old new
LeavesIt old new _ = StaysOpen old new

abbrev pub IsNotTaken : Version → State → State → AdoptFault → Type 0
IsNotTaken v old new fault = LeavesIt old new fault × HasCause v old fault

-- the result of reading the court's table: the row of a court, whose zone may be none yet
abbrev pub ReadsCourt : Version → State → State → Result CourtRecord AdoptFault → Type 0
ReadsCourt v old new (Ok r) =
    IsUnchanged old new × (court : CourtSettings) × HasCourtRow old (court_cells_of v court r.next_row) × IsCourtRow court r.next_row
    × (r ≡ record_of court r.next_row)
ReadsCourt v old new (Err fault) = IsNotTaken v old new fault

-- the database is accepted as the docket of this court exactly if the tables of the version are sound
abbrev pub IsTaken : Version → State → State → Result FoundDocket AdoptFault → Type 0
IsTaken v old new (Ok found) = IsUnchanged old new × (r : Rows) × AreSound v old found.court r × (found.held ≡ holdings_of found.court r)
IsTaken v old new (Err fault) = IsNotTaken v old new fault
