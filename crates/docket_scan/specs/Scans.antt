-- What is read of a table, in a database of any schema.
use Rattle.std.specs.Prelude.{◌≡◌, ◌⊎◌, ◌++◌, ℕ, Bool, true, false, IsTrue, List, [], length, Option, Some, None, Result, Ok, Err}
use Rattle.sqlite_resolve.specs.declared.compiled.Compiled.{Compiled}
use Rattle.sqlite_resolve.specs.declared.error.CompileError.{CompileError}
use Rattle.sqlite.specs.Effect.{Reads, ReadsFirst, RefusesToRead}
use Rattle.sqlite.specs.Listing.{understood}
use Rattle.sqlite.specs.Order.{Row}
use Rattle.sqlite.specs.State.{State, IsUnchanged, IsRolledBack}
use Rattle.sqlite.specs.declared.error.Error.{Error}
use Rattle.sqlite.specs.declared.error.Error.TheVariants.{SqliteFailure, SqlInputError}
use Rattle.sqlite.specs.declared.error.ErrorCode.TheVariants.{TypeMismatch, IntegerOverflow}
use Rattle.docket_tables.specs.Texts.{scan_text}
use Rattle.docket_tables.specs.declared.table.Table.{Table}

-- the schema understands the statement of the table
abbrev pub IsUnderstood : Table → State → Compiled → Type 0
IsUnderstood t s c = understood s.now.schema (scan_text t) ≡ Ok c

-- the rows of a table are what its statement answers
abbrev pub AreRowsOf : Table → State → List Row → Type 0
AreRowsOf t s rows = (c : Compiled) × IsUnderstood t s c × Reads c.command s.now [] rows

-- its rows begin with these
abbrev pub AreFirstRowsOf : Table → State → List Row → Type 0
AreFirstRowsOf t s rows = (c : Compiled) × IsUnderstood t s c × ReadsFirst c.command s.now [] rows

-- no statement reads the table: the schema has no such table or lacks a column of it, or the database refuses to
abbrev pub IsUnreadable : Table → State → Type 0
IsUnreadable t s =
    ((fault : CompileError) × (understood s.now.schema (scan_text t) ≡ Err fault))
    ⊎ ((c : Compiled) × (e : Error) × IsUnderstood t s c × RefusesToRead None c.command s.now [] e)

-- the database refuses the statement for what it says
abbrev pub is_refusal : Error → Bool
is_refusal (SqlInputError fault) = true
is_refusal (SqliteFailure TypeMismatch) = true
is_refusal (SqliteFailure IntegerOverflow) = true
is_refusal _ = false

-- this holds of the rows, and there are this many
abbrev pub OfSoMany : ℕ → (List Row → Type 0) → List Row → Type 0
OfSoMany count Holds rows = (count ≡ length rows) × Holds rows

-- the check took all rows of the table, this many, or no rows that begin as they do are sound
abbrev pub Scans : Table → State → (List Row → Type 0) → (List Row → Type 0) → Option ℕ → Type 0
Scans t s HasTaken IsSound (Some count) = (rows : List Row) × AreRowsOf t s rows × OfSoMany count HasTaken rows
Scans t s HasTaken IsSound None = (first : List Row) × AreFirstRowsOf t s first × ((more : List Row) → IsSound (first ++ more) → ⊥)

-- the connection still sees the same, or what it had begun was undone, and it may be shut
abbrev pub StaysOrRollsBack : State → State → Type 0
StaysOrRollsBack old new = IsUnchanged old new ⊎ IsRolledBack old new

-- the database refused the statement, or failed
abbrev pub FailsToScan : Table → State → State → Error → Type 0
FailsToScan t old new e = StaysOrRollsBack old new × (IsTrue (is_refusal e) → IsUnreadable t old × IsUnchanged old new)

-- the result of reading a table: nothing is written, and the database stays as it was
abbrev pub Scanned : Table → State → State → (List Row → Type 0) → (List Row → Type 0) → Result (Option ℕ) Error → Type 0
Scanned t old new HasTaken IsSound (Ok count) = IsUnchanged old new × Scans t old HasTaken IsSound count
Scanned t old new HasTaken IsSound (Err e) = FailsToScan t old new e
