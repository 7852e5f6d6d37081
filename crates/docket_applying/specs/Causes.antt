-- Why a docket's database failed.
use Rattle.std.specs.Prelude.{◌≡◌, ◌⊎◌, ℕ, Option, Some, IsSome, Result, Err, ◌<◌, ◌^◌, length}
use Rattle.sqlite.specs.Held.{state}
use Rattle.sqlite.specs.State.{State}
use Rattle.sqlite.specs.Store.{Ghosts}
use Rattle.sqlite.specs.declared.error.Error.{Error}
use Rattle.court_days.specs.Court.{CourtSettings}
use Rattle.docket_command.specs.declared.command.Command.{Command}
use Rattle.docket_command.specs.declared.refusal.Reply.{Reply}
use Rattle.docket_history.specs.Histories.{History}
use Rattle.docket_decisions.specs.Outcomes.{accepted, outcome}
use Rattle.docket_tables.specs.Causes.{HasChangeCause, IsCaused}
use Rattle.docket_wire.specs.Writing.{canonical}
use Rattle.docket_applying.specs.Dockets.{Docket}
use Rattle.docket_applying.specs.declared.fault.Fault.{Fault}
use Rattle.docket_applying.specs.declared.fault.Fault.TheVariants.{StoreFailed}
use Rattle.docket_applying.specs.declared.listing.ListingEnd.{ListingEnd}
use Rattle.docket_applying.specs.declared.listing.ListingEnd.TheVariants.{NotBegun, Broken, WriteFailed}

-- if the database failed, its error is known
abbrev pub IsNamed : Option Error → Fault → Type 0
IsNamed failure StoreFailed = IsSome failure
IsNamed failure _ = Unit {0}

abbrev pub IsNamedEnd : Option Error → Result ℕ ListingEnd → Type 0
IsNamedEnd failure (Err (NotBegun fault)) = IsNamed failure fault
IsNamedEnd failure (Err (Broken fault)) = IsNamed failure fault
IsNamedEnd failure _ = Unit {0}

-- if the database failed, its error is known and has a cause
abbrev pub IsCausedBy : State → State → Option Error → Fault → Type 0
IsCausedBy old new failure StoreFailed = (e : Error) × (failure ≡ Some e) × IsCaused old new e
IsCausedBy old new failure _ = Unit {0}

-- the same for a calendar that was not written whole
abbrev pub IsCausedEnd : State → State → Option Error → ListingEnd → Type 0
IsCausedEnd old new failure (NotBegun fault) = IsCausedBy old new failure fault
IsCausedEnd old new failure (Broken fault) = IsCausedBy old new failure fault
IsCausedEnd old new failure WriteFailed = Unit {0}

-- the docket keeps the error of the database that closed it, and this has a cause
abbrev pub IsClosedForCause : {S : Type 0} → Ghosts S → Docket S → Docket S → Type 0
IsClosedForCause g old new = (e : Error) × (new.closed_by ≡ Some e) × IsCaused (state g old.conn) (state g new.conn) e

-- the command is refused or a repeat, so that nothing is written for it
abbrev pub IsNotAccepted : CourtSettings → History → Command → Type 0
IsNotAccepted court h c = (reply : Reply) → outcome court h c ≡ accepted reply → ⊥

-- the error of a write has a cause, or the text of the command is over ten million bytes
abbrev pub HasWriteCause : Command → State → State → Error → Type 0
HasWriteCause c old new e = HasChangeCause old new e ⊎ (10 ^ 7 < length (canonical c))

-- if the database failed while a command was applied, its error is known and has a cause
abbrev pub IsCausedWrite : Command → State → State → Option Error → Fault → Type 0
IsCausedWrite c old new failure StoreFailed = (e : Error) × (failure ≡ Some e) × HasWriteCause c old new e
IsCausedWrite c old new failure _ = Unit {0}

-- the docket keeps the error of the database that closed it, and this has a cause that a write may have
abbrev pub IsClosedByWrite : {S : Type 0} → Ghosts S → Command → Docket S → Docket S → Type 0
IsClosedByWrite g c old new = (e : Error) × (new.closed_by ≡ Some e) × HasWriteCause c (state g old.conn) (state g new.conn) e
