-- A question to the docket in files, as it ended.
use Rattle.std.specs.Prelude.{List, ℕ, Option, Result, Ok, Err, IfErr, MatchResult}
use Rattle.std.specs.Io.KnownBytes.{Appends}
use Rattle.sqlite_disk.specs.declared.Disk.{Ghosts}
use Rattle.sqlite.specs.Files.{IsCleanLeft}
use Rattle.sqlite.specs.declared.file.Leftover.{Leftover}
use Rattle.docket_applying.specs.CourtDockets.{CourtDocket as Docket}
use Rattle.docket_applying.specs.declared.listing.CalendarEnd.{CalendarEnd}
use Rattle.docket_scan.specs.declared.fault.AdoptFault.{AdoptFault}
use Rattle.docket_store.specs.Left.{LeavesRows}
use Rattle.file_dockets.specs.Keeping.{rows_told}
use Rattle.file_dockets.specs.declared.ended.Ended.{Ended}
use Rattle.line_io.specs.Output.{HasFront}
use Rattle.job_ends.specs.Ends.{TellsNothing}
use Rattle.job_ends.specs.declared.end.JobEnd.{JobEnd}
use Rattle.job_runs.specs.Jobs.{TellsOf}

module _ {D : Type 0} {g : Ghosts D} {T : Type 0} where
  -- where the files were closed clean this holds of the answer; or the job failed; and the docket is left as it was
  abbrev pub IsAnswered : Docket → (T → Type 0) → Result (T × Leftover D g) (JobEnd D g) → Type 0
  IsAnswered docket P (Ok found) = IsCleanLeft found.1 → P found.0 × LeavesRows found.1 (rows_told docket) (rows_told docket)
  IsAnswered docket P (Err end) = TellsOf docket TellsNothing end

  -- this holds where the files were not opened, or the docket was not asked
  abbrev pub IfUnasked : {Y : Type 0} → Type 0 → Result (Ended D T AdoptFault g) Y → Type 0
  IfUnasked P ended = MatchResult ended (λ it. IfErr it.outcome (λ _. P)) (λ _. P)

-- a calendar went out, or a prefix of it, where the docket or the writer failed
abbrev pub GoesOut : List ℕ → Option (List ℕ) → Option (List ℕ) → Result ℕ CalendarEnd → Type 0
GoesOut wanted before after end = MatchResult end (λ _. Appends before after wanted) (λ _. HasFront before after wanted)
