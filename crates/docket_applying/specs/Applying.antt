-- What a command, and what a question, leaves of a docket in a database.
use Rattle.std.specs.Prelude.{◌≡◌, ◌⊎◌, false, List, Option, Some, None, IsSome, Result, Ok, Err}
use Rattle.std.specs.List.{AllByRecursion}
use Rattle.sqlite.specs.Store.{Ghosts}
use Rattle.sqlite.specs.State.{HasCleanDisk}
use Rattle.sqlite.specs.Held.{Held, state}
use Rattle.civil_time.specs.ZoneText.{zone_at}
use Rattle.court_days.specs.Court.{CourtSettings}
use Rattle.docket_command.specs.declared.command.Command.{Command}
use Rattle.docket_command.specs.declared.refusal.Reply.{Reply}
use Rattle.docket_decisions.specs.Decisions.{IsAnswer, IsChange, LeadsTo, MovesEnds}
use Rattle.docket_history.specs.Histories.{History, standing_rows, items_of}
use Rattle.docket_decisions.specs.Outcomes.{IsHistory, shown, outcome, after, repeated, refused, accepted}
use Rattle.docket_decisions.specs.Tables.{action_changes}
use Rattle.docket_decisions.specs.declared.decision.Changes.{Changes}
use Rattle.docket_decisions.specs.declared.decision.Decision.{Decision}
use Rattle.docket_decisions.specs.declared.decision.Decision.TheVariants.{Change}
use Rattle.docket_history.specs.declared.item.CalendarItem.{CalendarItem}
use Rattle.docket_history.specs.declared.view.View.{View}
use Rattle.docket_wire.specs.Valid.{IsCommand}
use Rattle.docket_tables.specs.Layouts.{Rows}
use Rattle.docket_orderly.specs.Orderly.{IsCourtSettings}
use Rattle.docket_tables.specs.Stands.{HoldsRows, Lasts, LastsAsEither}
pub use Rattle.docket_calendar.specs.Telling.{docket_rows}
use Rattle.docket_applying.specs.Dockets.{Docket}
use Rattle.docket_applying.specs.declared.fault.Fault.{Fault}
use Rattle.docket_applying.specs.declared.fault.Fault.TheVariants.{Refused, NoMemory, StoreFailed, Damaged}

-- a history of the court, of commands whose texts can be written; the text of the court's zone spells one
pub record IsDocket (court : CourtSettings) (h : History) : Type 0 where
  pub settings : IsCourtSettings court
  pub zone : IsSome (zone_at court.zone_text)
  pub history : IsHistory court h
  pub commands : AllByRecursion IsCommand h

-- what is kept of the calendar beside the connection, if anything, is the calendar of the history
abbrev pub Keeps : Option (List CalendarItem) → History → Type 0
Keeps None h = Unit {0}
Keeps (Some items) h = items ≡ items_of (standing_rows h)

-- the decision is the answer to the command. If it is accepted, the changes are those of its action. With its receipt they lead to the next
-- tables, and with the update of the stored ends to the next ends
abbrev pub IsDecided : CourtSettings → History → Command → Decision → Type 0
IsDecided court h c decision =
    IsAnswer (Ok decision) (outcome court h c)
    × LeadsTo court h c decision
    × IsChange (action_changes (shown court h c) c.action) decision
    × MovesEnds court h c decision

-- the command is accepted, with these changes
abbrev pub IsAccepted : CourtSettings → History → Command → Changes → Type 0
IsAccepted court h c changes = IsDecided court h c (Change changes)

-- the decision about a command, by the view that the docket gives: a sound docket gives all that a decision needs
abbrev pub Decides : CourtSettings → History → Command → Result Decision Fault → Type 0
Decides court h c (Ok decision) = IsDecided court h c decision
Decides court h c (Err (Refused r)) = outcome court h c ≡ refused r
Decides court h c (Err NoMemory) = Unit {0}
Decides court h c (Err _) = ⊥

-- the database did not fail
abbrev pub IsNoFailure : Fault → Type 0
IsNoFailure (Refused r) = Unit {0}
IsNoFailure NoMemory = Unit {0}
IsNoFailure Damaged = Unit {0}
IsNoFailure _ = ⊥

module _ {S : Type 0} (g : Ghosts S) where
  -- the connection holds the rows of the docket, and so does each database that a power failure may leave
  abbrev pub StandsFor : Held S → CourtSettings → History → Type 0
  StandsFor conn court h = HoldsRows g conn (docket_rows court h)

  -- the docket is that of the history, and it is not closed
  pub record Stands (d : Docket S) (h : History) : Type 0 where
    pub docket : IsDocket d.court h
    pub serves : d.closed ≡ false
    pub rows : StandsFor d.conn d.court h
    pub calendar : HasCleanDisk (state g d.conn) → Keeps d.calendar h

  -- the command is accepted with these changes, unless the disk was not honest
  abbrev pub IsJudged : Held S → CourtSettings → History → Command → Changes → Type 0
  IsJudged conn court h c changes = HasCleanDisk (state g conn) → IsAccepted court h c changes

  -- the fault that an error of the database becomes, if the rows were these or, with a write under way, the next
  abbrev pub FailsAs : Held S → Rows → Rows → Fault → Type 0
  FailsAs conn rows next NoMemory = HoldsRows g conn rows
  FailsAs conn rows next StoreFailed = LastsAsEither g conn rows next
  FailsAs conn rows next Damaged = HasCleanDisk (state g conn) → ⊥
  FailsAs conn rows next _ = ⊥

  -- what a command that got no reply leaves, and why it got none: a refusal and out of memory leave the docket as it was. If the database
  -- failed, a power failure leaves the docket without the command or with it, and the connection may be shut
  abbrev pub Faults : Docket S → History → Command → Fault → Type 0
  Faults d h c (Refused r) = Stands d h × (HasCleanDisk (state g d.conn) → outcome d.court h c ≡ refused r)
  Faults d h c NoMemory = Stands d h
  Faults d h c StoreFailed = LastsAsEither g d.conn (docket_rows d.court h) (docket_rows d.court (after d.court h c))
  Faults d h c Damaged = HasCleanDisk (state g d.conn) → ⊥
  Faults d h c _ = ⊥

  -- what a command leaves: if it is answered, the docket after it
  abbrev pub Applies : Docket S → History → Command → Result Reply Fault → Type 0
  Applies d h c (Ok reply) =
      Stands d (after d.court h c)
      × (HasCleanDisk (state g d.conn) → (outcome d.court h c ≡ accepted reply) ⊎ (outcome d.court h c ≡ repeated reply))
  Applies d h c (Err fault) = Faults d h c fault

  -- the result of viewing the docket
  abbrev pub Shows : Docket S → History → Command → Result View Fault → Type 0
  Shows d h c (Ok view) = Stands d h × (HasCleanDisk (state g d.conn) → view ≡ shown d.court h c)
  Shows d h c (Err fault) = Faults d h c fault

  -- what judging the command gives: nothing is written yet
  abbrev pub Judges : Docket S → History → Command → Result Decision Fault → Type 0
  Judges d h c (Ok decision) = Stands d h × (HasCleanDisk (state g d.conn) → IsDecided d.court h c decision)
  Judges d h c (Err fault) = Faults d h c fault

  -- a question's result: the docket stays, and so does what a power failure may leave; if the database failed, the connection may be shut
  abbrev pub Asks : {X : Type 0} → Docket S → History → (X → Type 0) → Result X Fault → Type 0
  Asks d h answer (Ok x) = Stands d h × (HasCleanDisk (state g d.conn) → answer x)
  Asks d h answer (Err NoMemory) = Stands d h
  Asks d h answer (Err StoreFailed) = Lasts g d.conn (docket_rows d.court h)
  Asks d h answer (Err Damaged) = HasCleanDisk (state g d.conn) → ⊥
  Asks d h answer (Err _) = ⊥
