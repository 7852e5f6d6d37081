-- What a command may write, in one transaction.
use Rattle.std.specs.Prelude.{ℕ, List, MatchResult, Result}
use Rattle.std.specs.List.{AllByRecursion}
use Rattle.sqlite.specs.Held.{Held, state}
use Rattle.sqlite.specs.State.{HasCleanDisk}
use Rattle.sqlite.specs.Store.{Ghosts}
use Rattle.court_days.specs.Court.{CourtSettings}
use Rattle.docket_columns.specs.Cells.{receipt_cells}
use Rattle.docket_command.specs.declared.command.Command.{Command}
use Rattle.docket_decisions.specs.Additions.{AddsOnce, AddsAmong}
use Rattle.docket_decisions.specs.Tables.{Tables}
use Rattle.docket_decisions.specs.declared.decision.Changes.{Changes}
use Rattle.docket_decisions.specs.declared.end_row.StoredEnd.{StoredEnd}
use Rattle.docket_orderly.specs.Additions.{HasDeadline, MayAddAll, MayReceive}
use Rattle.docket_tables.specs.Additions.{AreStorable, values_added}
use Rattle.docket_tables.specs.AnyRows.{with_stored}
use Rattle.docket_tables.specs.Changing.{rows_changed, with_changes}
use Rattle.docket_tables.specs.Contents.{rows_with}
use Rattle.docket_tables.specs.Layouts.{Rows}
use Rattle.docket_tables.specs.Stands.{HoldsRows, LastsAsEither}
use Rattle.docket_applying.specs.Settling.{IsUpdate, updated_ends}
use Rattle.docket_applying.specs.Sound.{AreSound}
use Rattle.docket_decisions.specs.declared.moving.EndUpdate.{EndUpdate}
use Rattle.docket_decisions.specs.declared.moving.EndUpdate.TheVariants.{Moves, Calendar}

-- the rows of the tables with what a command changes, and with the stored ends brought up to date by them
abbrev pub written : CourtSettings → Command → Changes → Tables → List StoredEnd → Rows
written court c changes t ends = rows_with court (with_changes c changes t) (updated_ends court changes.ends (with_changes c changes t) ends)

-- what the changes do about the stored ends is right for the write of them
abbrev pub UpdatesEnds : CourtSettings → Command → Changes → Tables → Type 0
UpdatesEnds court c changes t = IsUpdate court changes.ends t (with_changes c changes t)

-- any rows with the same changes, and with these ends
abbrev pub recorded_with : CourtSettings → ℕ → Command → Changes → List StoredEnd → Rows → Rows
recorded_with court next c changes ends rows = with_stored ends (rows_changed court next c changes rows)

-- this holds unless the disk was not honest
abbrev pub IfClean : {S : Type 0} → Ghosts S → Held S → Type 0 → Type 0
IfClean g conn P = HasCleanDisk (state g conn) → P

-- the rows were written; or they were not, and a power failure may leave either
abbrev pub Writes : {S E : Type 0} → Ghosts S → Held S → Rows → Rows → Result (Unit {0}) E → Type 0
Writes g conn rows next result = MatchResult result (λ _. HoldsRows g conn next) (λ _. LastsAsEither g conn rows next)

-- if the changes of ends are given, each added end is of a deadline that stands and has none then; if they follow from the calendar,
-- nothing is required
abbrev pub MayAddEnds : EndUpdate → Tables → List StoredEnd → Type 0
MayAddEnds (Moves moves) t ends = AddsOnce moves.items ends × AddsAmong (HasDeadline t) moves.items
MayAddEnds (Calendar cases) t ends = Unit {0}

-- The rows that a command adds may stand, with its receipt and the ends that are added then, and all can be stored; the tables that
-- it leaves are sound.
pub record MayWrite (court : CourtSettings) (c : Command) (changes : Changes) (t : Tables) (stored : List StoredEnd) : Type 0 where
  pub added : MayAddAll changes.rows.items t
  pub received : MayReceive c t
  pub storable : AllByRecursion (λ x. AreStorable (values_added x)) changes.rows.items
  pub kept : AreStorable (receipt_cells (record { command = c; reply = changes.reply }))
  pub ends : MayAddEnds changes.ends (with_changes c changes t) stored
  pub sound : AreSound court (with_changes c changes t)
