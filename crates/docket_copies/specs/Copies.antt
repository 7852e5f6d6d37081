-- What a copy holds.
use Rattle.std.specs.Prelude.{ℕ, pos, true, false, List, [], None, ⊤}
use Rattle.sqlite_wal.specs.Recovery.{Image}
use Rattle.sqlite.specs.Effect.{Database, IsDatabase}
use Rattle.sqlite.specs.Files.{HoldsDatabase}
use Rattle.sqlite.specs.State.{State}
use Rattle.court_days.specs.Court.{CourtSettings}
use Rattle.docket_columns.specs.declared.version.Version.TheVariants.{Second}
use Rattle.docket_scan.specs.Finding.{AreSound}
use Rattle.docket_scan.specs.Judging.{Rows}

-- a database file and its log
abbrev pub with_log : List ℕ → List ℕ → Image
with_log db log = record { log = log; db = db }

-- a database file that has no log
abbrev pub alone : List ℕ → Image
alone db = with_log db []

-- a new connection that sees this database
abbrev pub seeing : Database → State
seeing db = record {
  now = db;
  committed = db;
  in_transaction = false;
  marks = [];
  is_open = true;
  is_clean = true;
  faults = 0;
  blamed = None;
  changes = 0;
  last_rowid = pos 0;
  step_limit = None;
  may_leave = λ _. ⊥;
  IsShielded = ⊤;
}

-- a file of these bytes alone holds a database of SQLite, whose tables are those of a sound docket
pub record IsSoundFile (bytes : List ℕ) : Type 0 where
  pub db : Database
  pub is : IsDatabase db
  pub held : ∥ HoldsDatabase (alone bytes) db.trees ∥₁
  pub court : CourtSettings
  pub rows : Rows
  pub sound : AreSound Second (seeing db) court rows
