-- What becomes of an entry: of a line that is prepared by the docket, and then answered by it.
use Rattle.std.specs.Prelude.{◌≡◌, ℕ, List, [], Option, Result, Ok, Err, IfErr, string_bytes}
use Rattle.sqlite.specs.Held.{Held, state}
use Rattle.sqlite.specs.State.{HasCleanDisk}
use Rattle.sqlite.specs.Store.{Ghosts}
use Rattle.sqlite.specs.declared.error.Error.{Error}
use Rattle.docket_scan.specs.declared.fault.AdoptFault.{AdoptFault}
use Rattle.docket_tables.specs.Layouts.{Rows}
use Rattle.docket_applying.specs.Applying.{IsDocket, StandsFor}
use Rattle.docket_applying.specs.CourtDockets.{CourtDocket as Docket}
use Rattle.docket_applying.specs.declared.fault.Fault.{Fault}
use Rattle.docket_applying.specs.declared.fault.Fault.TheVariants.{NoMemory, StoreFailed}
use Rattle.entry_lines.specs.Preparing.{IsPrepared}
use Rattle.entry_lines.specs.declared.entry.Entry.{Entry}
use Rattle.entry_lines.specs.declared.entry.Prepared.{Prepared}
use Rattle.entry_lines.specs.declared.entry.Prepared.TheVariants.{Unnamed, Line}
use Rattle.file_dockets.specs.Adopting.{AdoptsOver}
use Rattle.file_dockets.specs.Keeping.{HoldsBetween, Keeps, rows_told}
use Rattle.file_dockets.specs.Works.{WorksTo}
use Rattle.file_changes.specs.Runs.{Answers, LeavesPrefix}
use Rattle.file_changes.specs.declared.entering.Entered.{Entered}

-- the line of a prepared entry, and nothing where a name in it fits none or several
abbrev pub line_prepared : Prepared → List ℕ
line_prepared (Unnamed why) = []
line_prepared (Line line would) = string_bytes line

-- whatever is left, `Left` says that it has the rows or the next ones
module _ (Left : Rows → Rows → Type 0) where
  -- the entry was prepared by the docket, and a run over its line had this end
  pub record IsEntered (docket : Docket) (entry : Entry) (before after : Option (List ℕ)) (it : Entered) : Type 0 where
    pub prepared : IsPrepared docket.court docket.history entry it.prepared
    pub answers : Answers Left docket (line_prepared it.prepared) before after it.end
    pub prefix : LeavesPrefix Left docket (line_prepared it.prepared) before after

  -- or the docket could not be asked, since memory ran out or the database failed: nothing went out, and the docket is left as it was
  abbrev pub Enters : Docket → Entry → Option (List ℕ) → Option (List ℕ) → Result Entered Fault → Type 0
  Enters docket entry before after (Ok it) = IsEntered docket entry before after it
  Enters docket entry before after (Err NoMemory) = (after ≡ before) × Keeps Left docket
  Enters docket entry before after (Err StoreFailed) = (after ≡ before) × Keeps Left docket
  Enters docket entry before after (Err _) = ⊥

-- the outcome of an entry over a connection, by what it held, `old`, and as it comes back, `new`
pub record EntersOver {S : Type 0} (g : Ghosts S) (old new : Held S) (entry : Entry) (before after : Option (List ℕ)) (failure : Option Error)
    (outcome : Result (Result Entered Fault) AdoptFault) : Type 0 where
  pub adopts : AdoptsOver g old new failure outcome
  pub enters : (told : Docket) → IsDocket told.court told.history → StandsFor g old told.court told.history → HasCleanDisk (state g new)
      → WorksTo (Enters (HoldsBetween g new) told entry before after) outcome
  pub stays : (told : Docket) → IsDocket told.court told.history → StandsFor g old told.court told.history
      → IfErr outcome (λ _. HoldsBetween g new (rows_told told) (rows_told told))
