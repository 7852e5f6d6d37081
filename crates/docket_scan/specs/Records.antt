-- The rows of each table as typed records, and when they are sound by the tables before theirs.
use Rattle.std.specs.Prelude.{◌≡◌, ℕ, Bool, List, length, map}
use Rattle.std.specs.List.{AllByRecursion}
use Rattle.std.specs.Str.{IsUtf8}
use Rattle.sqlite.specs.Order.{Row}
use Rattle.court_days.specs.Court.{CourtSettings}
use Rattle.docket_decisions.specs.declared.end_row.StoredEnd.{StoredEnd}
use Rattle.docket_columns.specs.Cells.{calendar_cells, short_day_cells, case_cells, party_cells, entry_cells, deadline_cells, act_cells, end_cells, local_rule_cells, stored_cells}
use Rattle.docket_columns.specs.Fits.{IsCount, IsCalendarRow, IsShortDayRow, IsCaseRow, IsPartyRow, IsEntryRow, IsDeadlineRow, IsActRow, IsEndRow, IsLocalRuleRow}
use Rattle.docket_sound.specs.Acts.{AreSoundActs}
use Rattle.docket_sound.specs.Calendars.{AreSoundCalendarRows}
use Rattle.docket_sound.specs.Cases.{AreSoundCases}
use Rattle.docket_sound.specs.Deadlines.{AreSoundDeadlines}
use Rattle.docket_sound.specs.Entries.{AreSoundEntries}
use Rattle.docket_sound.specs.LocalRules.{AreSoundLocalRules}
use Rattle.docket_sound.specs.Numbers.{numbers_in}
use Rattle.docket_sound.specs.Parties.{AreSoundParties}
use Rattle.docket_sound.specs.Receipts.{AreSoundReceipts}
use Rattle.docket_sound.specs.ShortDays.{AreSoundShortDays}
use Rattle.docket_sound.specs.declared.numbering.Key.{Key}
use Rattle.docket_scan.specs.declared.receipt.StoredReceipt.{StoredReceipt}

abbrev pub receipt_cells : StoredReceipt → Row
receipt_cells r = stored_cells r.receipt.key r.receipt.body r.reply.number

abbrev pub IsStoredReceipt : StoredReceipt → Type 0
IsStoredReceipt r = IsUtf8 r.receipt.key × IsUtf8 r.receipt.body × IsCount r.reply.number

-- the rows hold these records, each of which its type holds
pub record AreRecords {R : Type 0} (Is : R → Type 0) (cells : R → Row) (records : List R) (rows : List Row) : Type 0 where
  pub held : AllByRecursion Is records
  pub same : rows ≡ map cells records

-- the rows of the table are records of which this holds
pub record IsTable {R : Type 0} (Is : R → Type 0) (cells : R → Row) (Holds : List R → Type 0) (rows : List Row) : Type 0 where
  pub records : List R
  pub are : AreRecords Is cells records rows
  pub sound : Holds records

-- how many of the keys are of a case
abbrev pub count_in : List Key → ℕ → ℕ
count_in keys k = length (numbers_in k keys)

abbrev pub AreCalendarRows : CourtSettings → ℕ → List Row → Type 0
AreCalendarRows court next_row = IsTable IsCalendarRow calendar_cells (AreSoundCalendarRows court next_row)

abbrev pub AreCaseRows : List Row → Type 0
AreCaseRows = IsTable IsCaseRow case_cells AreSoundCases

abbrev pub ArePartyRows : ℕ → List Row → Type 0
ArePartyRows cases = IsTable IsPartyRow party_cells (AreSoundParties cases)

abbrev pub AreEntryRows : ℕ → List Row → Type 0
AreEntryRows cases = IsTable IsEntryRow entry_cells (AreSoundEntries cases)

abbrev pub AreDeadlineRows : ℕ → (ℕ → ℕ) → (List ℕ → Bool) → List Row → Type 0
AreDeadlineRows cases parties stands = IsTable IsDeadlineRow deadline_cells (AreSoundDeadlines cases parties stands)

abbrev pub AreActRows : CourtSettings → ℕ → (ℕ → ℕ) → List Row → Type 0
AreActRows court cases deadlines = IsTable IsActRow act_cells (AreSoundActs court cases deadlines)

-- by whether the later kinds of commands are known; the replies are not looked at
abbrev pub AreSoundStored : Bool → List StoredReceipt → Type 0
AreSoundStored later records = AreSoundReceipts later (map (λ (r : StoredReceipt). r.receipt) records)

abbrev pub AreReceiptRows : Bool → List Row → Type 0
AreReceiptRows later = IsTable IsStoredReceipt receipt_cells (AreSoundStored later)

-- the numbers are those of the rows in the table of the calendar
abbrev pub AreShortDayRows : CourtSettings → ℕ → List ℕ → List Row → Type 0
AreShortDayRows court next_row calendar =
    IsTable IsShortDayRow short_day_cells (AreSoundShortDays court.close_minute next_row calendar)

-- the ends are these, in this order
abbrev pub AreEndRows : List StoredEnd → List Row → Type 0
AreEndRows expected = IsTable IsEndRow end_cells (λ records. records ≡ expected)

abbrev pub AreLocalRuleRows : List Row → Type 0
AreLocalRuleRows = IsTable IsLocalRuleRow local_rule_cells AreSoundLocalRules
