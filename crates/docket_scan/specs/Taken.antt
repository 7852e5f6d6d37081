-- What the checks of tables have taken, as rows of SQL, and what they refer to.
use Rattle.std.specs.Prelude.{◌≡◌, ◌↔◌, ℕ, Bool, IsTrue, List, [], ◌∷◌, map, Option, Some, None, Result, Ok, Err}
use Rattle.sqlite.specs.Order.{Row}
use Rattle.court_days.specs.Calendar.{Entered}
use Rattle.court_days.specs.Court.{CourtSettings}
use Rattle.docket_decisions.specs.declared.end_row.StoredEnd.{StoredEnd}
use Rattle.docket_columns.specs.Cells.{HasWord, IsOfVersion, court_cells_of}
use Rattle.docket_columns.specs.Fits.{IsCourtRow}
use Rattle.docket_columns.specs.declared.version.Version.{Version}
use Rattle.docket_sound.specs.Counted.{cases_of, counts_of}
use Rattle.docket_sound.specs.Deadlines.{deadlines_checked, parties_of, rules_standing}
use Rattle.docket_sound.specs.Receipts.{HasTakenReceipts}
use Rattle.docket_sound.specs.declared.act.ActCheck.{ActCheck}
use Rattle.docket_sound.specs.declared.calendar.CalendarCheck.{CalendarCheck}
use Rattle.docket_sound.specs.declared.court.CourtRecord.{CourtRecord}
use Rattle.docket_sound.specs.declared.deadline.DeadlineCheck.{DeadlineCheck}
use Rattle.docket_sound.specs.declared.due.DueCheck.{DueCheck}
use Rattle.docket_sound.specs.declared.receipt.ReceiptCheck.{ReceiptCheck}
use Rattle.docket_sound.specs.declared.short_day.ShortDayCheck.{ShortDayCheck}
use Rattle.docket_scan.specs.Courts.{AreMarked, record_of}
use Rattle.docket_scan.specs.Records.{AreRecords}
use Rattle.docket_scan.specs.declared.court.CourtCheck.{CourtCheck}
use Rattle.docket_scan.specs.declared.court.SeenRow.{SeenRow}
use Rattle.docket_scan.specs.declared.fault.AdoptFault.{AdoptFault}
use Rattle.docket_scan.specs.declared.fault.AdoptFault.TheVariants.{NotADocket, OtherVersion, Damaged}
use Rattle.docket_scan.specs.declared.receipt.StoredReceipt.{StoredReceipt}
use Rattle.docket_tables.specs.declared.table.Table.TheVariants.{Court}

-- the rows were read as records, which alone have these cells, and of which this holds
pub record IsRead {R : Type 0} (Is : R → Type 0) (cells : R → Row) (Holds : List R → Type 0) (rows : List Row) : Type 0 where
  pub records : List R
  pub are : AreRecords Is cells records rows
  pub only : (others : List R) → AreRecords Is cells others rows → others ≡ records
  pub taken : Holds records

-- the court, and the number of the next calendar row
abbrev pub CalendarContext : Type 0
CalendarContext = CourtSettings × ℕ

abbrev pub calendar_context : CalendarCheck → CalendarContext
calendar_context check = (check.court, check.next_row)

-- how many cases there are, how many parties each has, and which local rules stand
abbrev pub DeadlineContext : Type 0
DeadlineContext = ℕ × (ℕ → ℕ) × (List ℕ → Bool)

abbrev pub deadline_context : DeadlineCheck → DeadlineContext
deadline_context check = (deadlines_checked check, parties_of check.parties, rules_standing check)

-- the court, how many cases there are, how many deadlines each has, and the calendar
abbrev pub ActContext : Type 0
ActContext = CourtSettings × ℕ × (ℕ → ℕ) × Entered

abbrev pub act_context : ActCheck → ActContext
act_context check = (check.court, cases_of check.deadlines, counts_of check.deadlines, check.calendar)

-- when the office closes on other days, the number of the next calendar row, and those of the rows in the table of the calendar
abbrev pub ShortDayContext : Type 0
ShortDayContext = ℕ × ℕ × List ℕ

abbrev pub short_day_context : ShortDayCheck → ShortDayContext
short_day_context check = (check.close, check.next_row, check.calendar.items)

abbrev pub ends_expected : DueCheck → List StoredEnd
ends_expected check = check.expected.items

abbrev pub HasTakenStored : ReceiptCheck → List StoredReceipt → Type 0
HasTakenStored check records = HasTakenReceipts check (map (λ (r : StoredReceipt). r.receipt) records)

-- no court has this row in the version
abbrev pub IsNoCourts : Version → Row → Type 0
IsNoCourts v row = (court : CourtSettings) (next : ℕ) → IsCourtRow court next → row ≡ court_cells_of v court next → ⊥

-- what is kept of a row of a court
abbrev pub SaysCourtOf : Version → Option CourtRecord → Row → Type 0
SaysCourtOf v (Some r) row =
    (court : CourtSettings) × (row ≡ court_cells_of v court r.next_row) × IsCourtRow court r.next_row × (r ≡ record_of court r.next_row)
SaysCourtOf v None row = IsNoCourts v row

pub record Sees (v : Version) (seen : SeenRow) (row : Row) : Type 0 where
  pub word : IsTrue seen.has_word ↔ HasWord row
  pub version : IsTrue seen.is_of_version ↔ IsOfVersion v row
  pub court : SaysCourtOf v seen.court row

abbrev pub HasSeen : Version → Option SeenRow → List Row → Type 0
HasSeen v None rows = rows ≡ []
HasSeen v (Some seen) rows = (row : Row) × (rows ≡ row ∷ []) × Sees v seen row

abbrev pub HasTakenCourt : CourtCheck → List Row → Type 0
HasTakenCourt check = HasSeen check.version check.seen

-- the result of reading the rows of the table of the court
abbrev pub Finishes : Version → List Row → Result CourtRecord AdoptFault → Type 0
Finishes v rows (Ok r) =
    (court : CourtSettings) × (rows ≡ court_cells_of v court r.next_row ∷ []) × IsCourtRow court r.next_row × (r ≡ record_of court r.next_row)
Finishes v rows (Err NotADocket) = AreMarked rows → ⊥
Finishes v rows (Err OtherVersion) = (row : Row) × (rows ≡ row ∷ []) × HasWord row × (IsOfVersion v row → ⊥)
Finishes v rows (Err (Damaged Court)) = (row : Row) × (rows ≡ row ∷ []) × HasWord row × IsOfVersion v row × IsNoCourts v row
Finishes v rows (Err _) = ⊥
