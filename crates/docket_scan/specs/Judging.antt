-- What the check reports of the tables of any database, in their order.
use Rattle.std.specs.Prelude.{◌≡◌, ◌⊎◌, ℕ, Bool, false, true, IsTrue, List, [], ◌++◌, length, map, take, drop, Result, Ok, Err}
use Rattle.std.specs.List.{AllByRecursion}
use Rattle.sqlite.specs.Order.{Row}
use Rattle.sqlite.specs.State.{State, IsUnchanged}
use Rattle.sqlite.specs.declared.error.Error.{Error}
use Rattle.sqlite.specs.declared.error.Error.TheVariants.{SqliteFailure, SqlInputError}
use Rattle.sqlite.specs.declared.error.ErrorCode.TheVariants.{TypeMismatch, IntegerOverflow, OutOfMemory}
use Rattle.court_days.specs.Court.{CourtSettings, zone_of}
use Rattle.docket_history.specs.CalendarItems.{calendar_of}
use Rattle.docket_history.specs.Histories.{items_of}
use Rattle.docket_decisions.specs.declared.end_row.StoredEnd.{StoredEnd}
use Rattle.docket_history.specs.declared.row.ActRow.{ActRow}
use Rattle.docket_history.specs.declared.row.CalendarRow.{CalendarRow}
use Rattle.docket_history.specs.declared.row.CaseRow.{CaseRow}
use Rattle.docket_history.specs.declared.row.DeadlineRow.{DeadlineRow}
use Rattle.docket_history.specs.declared.row.EntryRow.{EntryRow}
use Rattle.docket_history.specs.declared.row.LocalRuleRow.{LocalRuleRow}
use Rattle.docket_history.specs.declared.row.PartyRow.{PartyRow}
use Rattle.docket_history.specs.declared.row.ShortDayRow.{ShortDayRow}
use Rattle.docket_columns.specs.Cells.{calendar_cells, short_day_cells, case_cells, party_cells, entry_cells, deadline_cells, act_cells, end_cells, local_rule_cells}
use Rattle.docket_columns.specs.declared.version.Version.{Version}
use Rattle.docket_columns.specs.declared.version.Version.TheVariants.{First, Second}
use Rattle.docket_sound.specs.Deadlines.{deadline_key}
use Rattle.docket_sound.specs.Dues.{dues_of}
use Rattle.docket_sound.specs.KnownTexts.{is_one_of}
use Rattle.docket_sound.specs.Parties.{party_key}
use Rattle.docket_scan.specs.Names.{AreNamesFor}
use Rattle.docket_scan.specs.Records.{count_in, receipt_cells, AreCalendarRows, AreShortDayRows, AreCaseRows, ArePartyRows, AreEntryRows, AreDeadlineRows, AreActRows, AreReceiptRows, AreEndRows, AreLocalRuleRows}
use Rattle.docket_scan.specs.Scans.{IsUnreadable, AreRowsOf, AreFirstRowsOf, StaysOrRollsBack}
use Rattle.docket_scan.specs.Shapes.{has_table}
use Rattle.docket_scan.specs.declared.fault.AdoptFault.{AdoptFault}
use Rattle.docket_scan.specs.declared.fault.AdoptFault.TheVariants.{Damaged, NoMemory, StoreFailed}
use Rattle.docket_scan.specs.declared.receipt.StoredReceipt.{StoredReceipt}
use Rattle.docket_tables.specs.Tables.{IsTableOf, layout_of, tables, tables_of}
use Rattle.docket_tables.specs.declared.table.Table.{Table}
use Rattle.docket_tables.specs.declared.table.Table.TheVariants.{Court, Calendar, Cases, Parties, Entries, Deadlines, Acts, Receipts, Due, ShortDays, LocalRules}

abbrev pub fault_in : Table → Error → AdoptFault
fault_in t (SqlInputError why) = Damaged t
fault_in t (SqliteFailure TypeMismatch) = Damaged t
fault_in t (SqliteFailure IntegerOverflow) = Damaged t
fault_in t (SqliteFailure OutOfMemory) = NoMemory
fault_in t _ = StoreFailed

-- one table

-- the table exists with its columns, and this holds of its rows
abbrev pub IsSoundIn : Table → State → (List Row → Type 0) → Type 0
IsSoundIn t s Holds = (has_table s.now.schema t ≡ true) × (rows : List Row) × AreRowsOf t s rows × Holds rows

-- its rows are unsound, or its first rows are, however they go on
abbrev pub HasUnsoundRows : Table → State → (List Row → Type 0) → Type 0
HasUnsoundRows t s AreSound =
    ((first : List Row) × AreFirstRowsOf t s first × ((more : List Row) → AreSound (first ++ more) → ⊥))
    ⊎ ((rows : List Row) × AreRowsOf t s rows × (AreSound rows → ⊥))

-- it is missing, lacks a column, can't be read, or its rows are unsound
abbrev pub IsUnsoundIn : Table → State → (List Row → Type 0) → Type 0
IsUnsoundIn t s AreSound = (has_table s.now.schema t ≡ false) ⊎ (IsUnreadable t s ⊎ HasUnsoundRows t s AreSound)

-- a connection that is open stays so, and sees the same
abbrev pub StaysOpen : State → State → Type 0
StaysOpen old new = IsTrue old.is_open → IsUnchanged old new

-- a fault in reading one table: a table that is reported unsound is unsound
abbrev pub IsTold : Table → State → State → (List Row → Type 0) → AdoptFault → Type 0
IsTold t old new AreSound (Damaged at) = (at ≡ t) × StaysOpen old new × IsUnsoundIn t old AreSound
IsTold t old new AreSound NoMemory = StaysOrRollsBack old new
IsTold t old new AreSound StoreFailed = StaysOrRollsBack old new
IsTold t old new AreSound _ = ⊥

-- the reading of one table
abbrev pub IsJudged : {X : Type 0} → Table → State → State → (X → Type 0) → (List Row → Type 0) → Result X AdoptFault → Type 0
IsJudged t old new found AreSound (Ok x) = IsUnchanged old new × found x
IsJudged t old new found AreSound (Err fault) = IsTold t old new AreSound fault

-- all tables

-- what stands in the tables, but for the court; and the local names in the table of local rules, be it sound or not
pub record Rows : Type 0 where
  pub calendar : List CalendarRow
  pub cases : List CaseRow
  pub parties : List PartyRow
  pub entries : List EntryRow
  pub deadlines : List DeadlineRow
  pub acts : List ActRow
  pub receipts : List StoredReceipt
  pub ends : List StoredEnd
  pub short_days : List ShortDayRow
  pub local_rules : List LocalRuleRow
  pub names : List (List ℕ)

-- nothing stands in them
abbrev pub no_rows : Rows
no_rows = record {
  calendar = [];
  cases = [];
  parties = [];
  entries = [];
  deadlines = [];
  acts = [];
  receipts = [];
  ends = [];
  short_days = [];
  local_rules = [];
  names = [];
}

abbrev pub cells_in : Table → Rows → List Row
cells_in Court r = []
cells_in Calendar r = map calendar_cells r.calendar
cells_in Cases r = map case_cells r.cases
cells_in Parties r = map party_cells r.parties
cells_in Entries r = map entry_cells r.entries
cells_in Deadlines r = map deadline_cells r.deadlines
cells_in Acts r = map act_cells r.acts
cells_in Receipts r = map receipt_cells r.receipts
cells_in Due r = map end_cells r.ends
cells_in ShortDays r = map short_day_cells r.short_days
cells_in LocalRules r = map local_rule_cells r.local_rules

-- the first version was written before the last three kinds of commands came
abbrev pub knows_later_kinds : Version → Bool
knows_later_kinds First = false
knows_later_kinds Second = true

-- rows of SQL are those of a sound table of the version, by what stands in the tables before it; the local rule of a deadline is one
-- of the names; the ends are those of the running deadlines by the table of the calendar alone, since short days move none
abbrev pub AreSoundBy : Version → Table → CourtSettings → ℕ → Rows → List Row → Type 0
AreSoundBy v Court court next r = λ rows. Unit {0}
AreSoundBy v Calendar court next r = AreCalendarRows court next
AreSoundBy v Cases court next r = AreCaseRows
AreSoundBy v Parties court next r = ArePartyRows (length r.cases)
AreSoundBy v Entries court next r = AreEntryRows (length r.cases)
AreSoundBy v Deadlines court next r = AreDeadlineRows (length r.cases) (count_in (map party_key r.parties)) (is_one_of r.names)
AreSoundBy v Acts court next r = AreActRows court (length r.cases) (count_in (map deadline_key r.deadlines))
AreSoundBy v Receipts court next r = AreReceiptRows (knows_later_kinds v)
AreSoundBy v Due court next r = AreEndRows (dues_of (zone_of court) (calendar_of (items_of r.calendar)) r.acts)
AreSoundBy v ShortDays court next r = AreShortDayRows court next (map (λ row. row.number) r.calendar)
AreSoundBy v LocalRules court next r = AreLocalRuleRows

-- the table is there and holds these rows, which are sound
abbrev pub Holds : Version → State → CourtSettings → ℕ → Rows → Table → Type 0
Holds v s court next r t =
    (has_table s.now.schema t ≡ true) × AreRowsOf t s (cells_in t r) × AreSoundBy v t court next r (cells_in t r)

-- the tables before one, in their order; that of the court is read before them all
abbrev pub before : Table → List Table
before t = drop 1 (take (layout_of t).at tables)

-- it is a table of the version, and not the court's
abbrev pub IsBehindCourt : Version → Table → Type 0
IsBehindCourt v Court = ⊥
IsBehindCourt v t = IsTableOf v t

-- the first unsound table of the version is reported, after those before it that hold these rows
abbrev pub FailsAt : Version → CourtSettings → ℕ → State → State → AdoptFault → Type 0
FailsAt v court next old new (Damaged t) =
    IsBehindCourt v t × StaysOpen old new × (r : Rows) × AreNamesFor v old r.names × AllByRecursion (Holds v old court next r) (before t)
    × IsUnsoundIn t old (AreSoundBy v t court next r)
FailsAt v court next old new NoMemory = StaysOrRollsBack old new
FailsAt v court next old new StoreFailed = StaysOrRollsBack old new
FailsAt v court next old new _ = ⊥

-- the tables of the version behind the court's, in their order
abbrev pub behind_court : Version → List Table
behind_court v = drop 1 (tables_of v)

-- rows that the tables of the version can hold: the first has none for short days, nor for local rules
abbrev pub AreRowsFor : Version → Rows → Type 0
AreRowsFor First r = (r.short_days ≡ []) × (r.local_rules ≡ [])
AreRowsFor Second r = Unit {0}

-- all of them are sound and hold these rows, or the first unsound one is reported
abbrev pub AreJudged : {X : Type 0} → Version → CourtSettings → ℕ → State → State → (Rows → X → Type 0) → Result X AdoptFault → Type 0
AreJudged v court next old new says (Ok x) =
    IsUnchanged old new × (r : Rows) × AreRowsFor v r × AreNamesFor v old r.names × AllByRecursion (Holds v old court next r) (behind_court v) × says r x
AreJudged v court next old new says (Err fault) = FailsAt v court next old new fault
