-- What a fault at a line leaves of a docket in a database.
use Rattle.std.specs.Prelude.{◌⊎◌}
use Rattle.sqlite.specs.Store.{Ghosts}
use Rattle.docket_tables.specs.Stands.{LastsAsEither}
use Rattle.docket_applying.specs.Applying.{docket_rows}
use Rattle.docket_applying.specs.Dockets.{Docket as Stored}
use Rattle.docket_applying.specs.declared.fault.Fault.{Fault}
use Rattle.docket_applying.specs.declared.fault.Fault.TheVariants.{NoMemory, StoreFailed}
use Rattle.line_io.specs.declared.ending.LineFault.{LineFault}
use Rattle.line_io.specs.declared.ending.LineFault.TheVariants as line
use Rattle.docket_applying.specs.CourtDockets.{CourtDocket as Docket, StandsAs}
use Rattle.command_lines.specs.declared.fault.RunFault.{RunFault}
use Rattle.command_lines.specs.declared.fault.RunFault.TheVariants as run

-- why a run ended early, by the fault of its lines
abbrev pub run_fault : LineFault Fault → RunFault
run_fault line.ReadFailed = run.ReadFailed
run_fault line.WriteFailed = run.WriteFailed
run_fault line.NoMemory = run.NoMemory
run_fault (line.Unanswered NoMemory) = run.NoMemory
run_fault (line.Unanswered fault) = run.Store fault

module _ {S : Type 0} (g : Ghosts S) where
  -- what remains if a line was not answered, by the docket before the line and the next after it. If memory ran out, even for the
  -- reply, the docket is one of them. If the database failed, a power failure leaves one of them
  abbrev pub FailsAt : Stored S → Fault → Docket → Docket → Type 0
  FailsAt stored NoMemory before next = StandsAs g stored before ⊎ StandsAs g stored next
  FailsAt stored StoreFailed before next =
      LastsAsEither g stored.conn (docket_rows before.court before.history) (docket_rows next.court next.history)
  FailsAt stored _ before next = ⊥

  -- what remains if a run ended early, by the docket that the answered lines left and the next after at most one line more
  abbrev pub Leaves : Stored S → RunFault → Docket → Docket → Type 0
  Leaves stored run.ReadFailed before next = StandsAs g stored before
  Leaves stored run.WriteFailed before next = StandsAs g stored next
  Leaves stored run.NoMemory before next = StandsAs g stored before ⊎ StandsAs g stored next
  Leaves stored (run.Store StoreFailed) before next = FailsAt stored StoreFailed before next
  Leaves stored (run.Store _) before next = ⊥
