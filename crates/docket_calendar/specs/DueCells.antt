-- Deadlines whose time runs in columns: day, moment, case, deadline, party, rule.
use Rattle.std.specs.Prelude.{◌≡◌, pos, [], ◌∷◌}
use Rattle.std.specs.Str.{IsUtf8}
use Rattle.sqlite_value.specs.declared.value.Value.TheVariants.{Int, Text}
use Rattle.sqlite_value.specs.Order.{Row}
use Rattle.court_days.specs.Calendar.{Entered}
use Rattle.court_days.specs.Court.{CourtSettings, zone_of}
use Rattle.docket_columns.specs.Cells.{moment_cell}
use Rattle.docket_columns.specs.Fits.{IsCount}
use Rattle.docket_decisions.specs.EndRows.{time_of, IsDueEnd}
use Rattle.docket_history.specs.Records.{close_of_end}
use Rattle.docket_history.specs.declared.record.DueRow.{DueRow}

abbrev pub due_cells : CourtSettings → DueRow → Row
due_cells court d =
    Int (pos (time_of (zone_of court) d.end).day) ∷ Int (moment_cell (time_of (zone_of court) d.end).moment)
    ∷ Int (pos d.case) ∷ Int (pos d.number) ∷ Int (pos d.party) ∷ Text d.rule ∷ []

-- a deadline that its columns determine, with the calendar, which gives when the clerk's office closes
abbrev pub IsDue : CourtSettings → Entered → DueRow → Type 0
IsDue court entered d =
    IsDueEnd d.end × IsCount d.case × IsCount d.number × IsCount d.party × IsUtf8 d.rule
    × (d.close ≡ close_of_end court entered d.end)
