-- What the changes of a transaction make of the rows that it sees, and why they fail.
use Rattle.std.specs.Prelude.{◌≤◌, ◌<◌, ◌+◌, ◌^◌, ℕ, true, List, length, IfErr, OnOk, Result, Ok}
use Rattle.std.specs.List.{AllByRecursion}
use Rattle.sqlite.specs.Order.{Row}
use Rattle.sqlite.specs.State.{State, Executes, Shows as Turns}
use Rattle.sqlite.specs.declared.error.Error.{Error}
use Rattle.court_days.specs.Court.{CourtSettings}
use Rattle.docket_columns.specs.Cells.{receipt_cells}
use Rattle.docket_command.specs.declared.command.Command.{Command}
use Rattle.docket_decisions.specs.Additions.{AddsAmong, AddsOnce}
use Rattle.docket_decisions.specs.Tables.{Tables, all_changed, with_receipt}
use Rattle.docket_decisions.specs.declared.decision.Changes.{Changes}
use Rattle.docket_decisions.specs.declared.end_row.EndChange.{EndChange}
use Rattle.docket_decisions.specs.declared.end_row.StoredEnd.{StoredEnd}
use Rattle.docket_history.specs.declared.row.Change.{Change}
use Rattle.docket_orderly.specs.Additions.{HasDeadline, MayAdd, MayAddAll, MayReceive}
use Rattle.docket_tables.specs.Additions.{AreStorable, values_added}
use Rattle.docket_tables.specs.AnyRows.{recorded}
use Rattle.docket_tables.specs.Causes.{HasChangeCause, IsChangeFault}
use Rattle.docket_tables.specs.Layouts.{Rows}
use Rattle.docket_tables.specs.Stands.{Sees}
use Rattle.docket_tables.specs.declared.fault.ReadFault.{ReadFault}

-- a statement ran, and what it did is seen and not committed
abbrev pub Ran : List ℕ → Row → State → State → Type 0
Ran sql params old new = (count : ℕ) × Executes sql params old new (Ok count) × Turns old new new.now old.committed true

-- the tables with what a command changes, and its receipt
abbrev pub with_changes : Command → Changes → Tables → Tables
with_changes c changes t = with_receipt c changes.reply (all_changed changes.rows.items t)

-- and any rows with it
abbrev pub rows_changed : CourtSettings → ℕ → Command → Changes → Rows → Rows
rows_changed court next c changes rows = recorded court next c changes.reply changes.rows.items rows

-- each row that it adds gets a number, where the next one is this
abbrev pub AreNumbered : ℕ → Changes → Type 0
AreNumbered next changes = next + length changes.rows.items < 2 ^ 63

-- if the transaction saw these rows and goes on, it sees the next ones
abbrev pub Makes : {X E : Type 0} → State → State → Rows → Rows → Result X E → Type 0
Makes old new rows next result = Sees old rows → OnOk result (Sees new next)

-- this holds if the rows that are added get numbers, and the text of the zone is short, with which the court's row is written anew
abbrev pub IfCounted : CourtSettings → ℕ → ℕ → Type 0 → Type 0
IfCounted court next more P = next + more < 2 ^ 63 → length court.zone_text ≤ 31 → P

-- if the transaction sees these rows, a change that may be made fails only for a cause
abbrev pub FailsForChange : Change → Tables → Rows → State → State → Result (Unit {0}) Error → Type 0
FailsForChange x t rows old new result = Sees old rows → MayAdd x t → AreStorable (values_added x) → IfErr result (HasChangeCause old new)

-- and so do changes
abbrev pub FailsForChanges : List Change → Tables → Rows → State → State → Result (Unit {0}) Error → Type 0
FailsForChanges xs t rows old new result =
    Sees old rows → MayAddAll xs t → AllByRecursion (λ x. AreStorable (values_added x)) xs → IfErr result (HasChangeCause old new)

-- and those of a command, with its receipt
abbrev pub FailsForCommand : Command → Changes → Tables → Rows → State → State → Result (Unit {0}) Error → Type 0
FailsForCommand c changes t rows old new result =
    Sees old rows → MayAddAll changes.rows.items t → MayReceive c t → AllByRecursion (λ x. AreStorable (values_added x)) changes.rows.items
    → AreStorable (receipt_cells (record { command = c; reply = changes.reply })) → IfErr result (HasChangeCause old new)

-- and changes of ends, each of a deadline that stands, which add none beside another
abbrev pub FailsForEnds : List EndChange → Tables → List StoredEnd → Rows → State → State → Result (Unit {0}) ReadFault → Type 0
FailsForEnds xs t ends rows old new result = Sees old rows → AddsOnce xs ends → AddsAmong (HasDeadline t) xs → IfErr result (IsChangeFault old new)
