-- What a question and a command leave of any docket: of the rows that its connection holds, whatever they are. `adopt` accepts all sound
-- tables, even those that no history leads to.
use Rattle.std.specs.Prelude.{◌≡◌, ◌⊎◌, ◌<◌, ◌^◌, ℕ, List, Result, Ok, Err}
use Rattle.sqlite.specs.Store.{Ghosts}
use Rattle.sqlite.specs.Held.{Held, state}
use Rattle.sqlite.specs.State.{HasCleanDisk}
use Rattle.court_days.specs.Court.{CourtSettings}
use Rattle.docket_command.specs.declared.command.Command.{Command}
use Rattle.docket_command.specs.declared.refusal.Refusal.{Refusal}
use Rattle.docket_command.specs.declared.refusal.Reply.{Reply}
use Rattle.docket_decisions.specs.declared.decision.Decision.{Decision}
use Rattle.docket_decisions.specs.declared.decision.Decision.TheVariants.{Change as Changed, Repeat}
use Rattle.docket_decisions.specs.declared.end_row.StoredEnd.{StoredEnd}
use Rattle.docket_history.specs.declared.row.Change.{Change}
use Rattle.docket_history.specs.declared.view.Kept.TheVariants.{Same}
use Rattle.docket_history.specs.declared.view.View.{View}
use Rattle.docket_tables.specs.AnyRows.{AreDocketRows, HasReceipt, recorded, with_stored}
use Rattle.docket_tables.specs.Layouts.{Rows}
use Rattle.docket_tables.specs.Stands.{HoldsRows, Lasts, LastsAsEither}
use Rattle.docket_applying.specs.Dockets.{Docket}
use Rattle.docket_applying.specs.declared.fault.Fault.{Fault}
use Rattle.docket_applying.specs.declared.fault.Fault.TheVariants.{StoreFailed}
use Rattle.docket_applying.specs.declared.listing.CalendarEnd.{CalendarEnd}
use Rattle.docket_applying.specs.declared.listing.CalendarEnd.TheVariants as calendar_end
use Rattle.docket_applying.specs.declared.listing.ListingEnd.{ListingEnd}
use Rattle.docket_applying.specs.declared.listing.ListingEnd.TheVariants as listing_end

-- the rows after a command that is accepted with this reply: some changes are made, its receipt stands behind the others, and the stored
-- ends are brought up to date
pub record IsNext (court : CourtSettings) (next_row : ℕ) (rows : Rows) (c : Command) (reply : Reply) (next : Rows) : Type 0 where
  pub changes : List Change
  pub stored : List StoredEnd
  pub is : next ≡ with_stored stored (recorded court next_row c reply changes rows)

-- a receipt that the view shows under the command's key stands among the rows
abbrev pub ShowsReceipt : Rows → Command → View → Type 0
ShowsReceipt rows c v = (reply : Reply) → v.under_key ≡ Same reply → HasReceipt c reply rows

-- a repeat's reply stands among the rows
abbrev pub RepeatsReceipt : Rows → Command → Decision → Type 0
RepeatsReceipt rows c (Repeat reply) = HasReceipt c reply rows
RepeatsReceipt rows c (Changed changes) = Unit {0}

module _ {S : Type 0} (g : Ghosts S) where
  -- without an answer the rows stay; if the database failed, a power failure leaves them, and the connection may be shut
  abbrev pub PreservesAt : Held S → Rows → Fault → Type 0
  PreservesAt conn rows StoreFailed = Lasts g conn rows
  PreservesAt conn rows _ = HoldsRows g conn rows

  -- a question changes nothing
  abbrev pub Preserves : {X : Type 0} → Held S → Rows → Result X Fault → Type 0
  Preserves conn rows (Ok x) = HoldsRows g conn rows
  Preserves conn rows (Err fault) = PreservesAt conn rows fault

  -- nor does the writing of a calendar
  abbrev pub PreservesListing : Held S → Rows → Result ℕ ListingEnd → Type 0
  PreservesListing conn rows (Err (listing_end.NotBegun fault)) = PreservesAt conn rows fault
  PreservesListing conn rows (Err (listing_end.Broken fault)) = PreservesAt conn rows fault
  PreservesListing conn rows _ = HoldsRows g conn rows

  abbrev pub PreservesCalendar : Held S → Rows → Result ℕ CalendarEnd → Type 0
  PreservesCalendar conn rows (Err (calendar_end.Store fault)) = PreservesAt conn rows fault
  PreservesCalendar conn rows _ = HoldsRows g conn rows

  -- a command led to the next rows: the connection holds them, or, if the database failed, a power failure leaves them or those before
  pub record WritesOne (conn : Held S) (court : CourtSettings) (next_row : ℕ) (rows : Rows) : Type 0 where
    pub command : Command
    pub reply : Reply
    pub next : Rows
    pub is : IsNext court next_row rows command reply next
    pub left : HoldsRows g conn next ⊎ LastsAsEither g conn rows next

  -- any request to a docket whose connection held rows of a docket's tables wrote nothing, or one command, whole, with its receipt. If the
  -- database failed, the connection may be shut
  abbrev pub WritesAtMostOne : Docket S → Docket S → Type 0
  WritesAtMostOne old new =
      (rows : Rows) (n : ℕ) (stored : List StoredEnd) → AreDocketRows old.court n stored rows → n < 2 ^ 62 → HoldsRows g old.conn rows
      → Lasts g new.conn rows ⊎ WritesOne new.conn new.court n rows

  -- a command is written whole, with its receipt, or not at all. With a reply, its receipt stands among the rows that are held then. Without
  -- a reply the rows stay; if the database failed, a power failure leaves them or the next ones
  abbrev pub WritesWhole : Held S → CourtSettings → ℕ → Rows → Command → Result Reply Fault → Type 0
  WritesWhole conn court next_row rows c (Ok reply) =
      (HoldsRows g conn rows × (HasCleanDisk (state g conn) → HasReceipt c reply rows)) ⊎ ((next : Rows) × IsNext court next_row rows c reply next × HoldsRows g conn next)
  WritesWhole conn court next_row rows c (Err StoreFailed) =
      Lasts g conn rows ⊎ ((next : Rows) × (reply : Reply) × IsNext court next_row rows c reply next × LastsAsEither g conn rows next)
  WritesWhole conn court next_row rows c (Err _) = HoldsRows g conn rows

  -- the same, with a refusal as an answer
  abbrev pub AnswersWhole : Held S → CourtSettings → ℕ → Rows → Command → Result (Result Reply Refusal) Fault → Type 0
  AnswersWhole conn court next_row rows c (Ok (Ok reply)) = WritesWhole conn court next_row rows c (Ok reply)
  AnswersWhole conn court next_row rows c (Ok (Err r)) = HoldsRows g conn rows
  AnswersWhole conn court next_row rows c (Err fault) = WritesWhole conn court next_row rows c (Err fault)

  -- the connection of the docket holds rows of a docket's tables
  pub record HoldsDocketRows (d : Docket S) : Type 0 where
    pub rows : Rows
    pub next_row : ℕ
    pub stored : List StoredEnd
    pub are : AreDocketRows d.court next_row stored rows
    pub few : next_row < 2 ^ 62
    pub holds : HoldsRows g d.conn rows

  -- a receipt of the command, with that reply, stands among the rows that the docket's connection holds
  abbrev pub IsRecorded : Docket S → Command → Reply → Type 0
  IsRecorded d c reply = (rows : Rows) × HoldsRows g d.conn rows × (HasCleanDisk (state g d.conn) → HasReceipt c reply rows)
