-- How a job that serves a docket ends, and what it leaves.
use Rattle.std.specs.Prelude.{◌⊎◌, ℕ, List, Bool, if◌then◌else◌, Option, Ok, Err, unwrap_or}
use Rattle.std.specs.Borrow.{Bor}
use Rattle.sqlite_disk.specs.declared.Disk.{Ghosts}
use Rattle.sqlite.specs.declared.file.Leftover.{Leftover}
use Rattle.patient_stream.specs.declared.place.Place.{Place}
use Rattle.docket_applying.specs.CourtDockets.{CourtDocket as Docket}
use Rattle.docket_serving.specs.declared.serving.ServingFault.{ServingFault}
use Rattle.docket_store.specs.Left.{LeavesRows}
use Rattle.file_dockets.specs.Keeping.{rows_told}
use Rattle.file_serving.specs.Left.{LeavesLed}
use Rattle.file_serving.specs.declared.serving.Service.{Service}
use Rattle.file_serving.specs.declared.serving.Shown.{Shown}
use Rattle.file_serving.specs.declared.serving.Shown.TheVariants.{NoPages, Guarded, Pages}
use Rattle.job_ends.specs.declared.status.Status.{Status}
use Rattle.job_ends.specs.declared.status.Status.TheVariants.{Done, Failed}

-- whether pages are shown, and who is answered
abbrev pub shown : Bool → Bool → Option (Bor (List ℕ)) → Shown
shown pages guard origin = if pages then Pages origin else if guard then Guarded origin else NoPages

-- the service that the words ask for; where they give no count of connections, all that come are served
abbrev pub service_of : Place → Option ℕ → Bool → Bool → Option (Bor (List ℕ)) → Service
service_of place count pages guard origin = record { place = place; count = unwrap_or count 18_446_744_073_709_551_615; shown = shown pages guard origin }

module _ {D : Type 0} {g : Ghosts D} where
  -- The job is done where as many connections as were asked for led the docket, and the docket reported no failure. It failed where it took no
  -- connection, and the docket is as it was; or where a fault ended the service.
  abbrev pub EndsServing : Docket → Service → Leftover D g → Status → Type 0
  EndsServing docket service left Done = LeavesLed (LeavesRows left) docket service (Ok tt)
  EndsServing docket service left Failed =
      LeavesRows left (rows_told docket) (rows_told docket) ⊎ ((fault : ServingFault) × LeavesLed (LeavesRows left) docket service (Err fault))
  EndsServing docket service left _ = ⊥
