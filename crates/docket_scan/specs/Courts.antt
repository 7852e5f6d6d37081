-- The row of a docket's court, in any database.
use Rattle.std.specs.Prelude.{◌≡◌, ℕ, List, [], ◌∷◌}
use Rattle.sqlite.specs.Order.{Row}
use Rattle.court_days.specs.Court.{CourtSettings}
use Rattle.docket_columns.specs.Cells.{HasWord, court_cells_of}
use Rattle.docket_columns.specs.Fits.{IsCourtRow}
use Rattle.docket_columns.specs.declared.version.Version.{Version}
use Rattle.docket_sound.specs.Courts.{IsSoundCourt}
use Rattle.docket_sound.specs.declared.court.CourtRecord.{CourtRecord}

-- there is one row, and it has the word
abbrev pub AreMarked : List Row → Type 0
AreMarked rows = (row : Row) × (rows ≡ row ∷ []) × HasWord row

abbrev pub record_of : CourtSettings → ℕ → CourtRecord
record_of court next = record { id = 1; zone = court.zone_text; close = court.close_minute; next_row = next }

-- the row is that of the court in the version, with the number of the next calendar row, and sound
pub record IsRowOf (v : Version) (row : Row) (court : CourtSettings) (next : ℕ) : Type 0 where
  pub same : row ≡ court_cells_of v court next
  pub held : IsCourtRow court next
  pub sound : IsSoundCourt (record_of court next)

-- the row is that of some court in the version
abbrev pub IsCourtsRow : Version → Row → Type 0
IsCourtsRow v row = (court : CourtSettings) × (next : ℕ) × IsRowOf v row court next
