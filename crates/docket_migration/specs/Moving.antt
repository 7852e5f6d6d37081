-- The rows of a docket, from the tables of the first version to those of the second.
use Rattle.std.specs.Prelude.{ℕ, ◌+◌, List, [], ◌∷◌, ◌++◌, codes}
use Rattle.court_days.specs.Court.{CourtSettings}
use Rattle.docket_columns.specs.Cells.{court_cells, version_number}
use Rattle.docket_columns.specs.declared.version.Version.TheVariants.{Second}
use Rattle.docket_tables.specs.Layouts.{Rows, with_rows}
use Rattle.docket_tables.specs.declared.table.Table.TheVariants.{Court, ShortDays, LocalRules}

-- sets the number of the version, which is one digit
abbrev pub version_text : List ℕ
version_text = codes "UPDATE court SET version = " ++ (48 + version_number Second) ∷ codes " WHERE id = 1"

-- the same rows, and nothing in the tables that the first version lacks
abbrev pub grown : Rows → Rows
grown rows ShortDays = []
grown rows LocalRules = []
grown rows table = rows table

-- and the court's row is of the second version
abbrev pub moved : CourtSettings → ℕ → Rows → Rows
moved court next rows = with_rows Court (court_cells court next ∷ []) (grown rows)
