-- How a job that served a docket ends.
use Rattle.std.proofs.Common.{◌≡◌, inl, inr, Option, Some, None, Result, Ok, Err, IfErr, IfOk, IsErr, IsOkAnd, MatchOption, MatchResult, sym, subst}
use Rattle.std.proofs.lemmas.Bool.{false≢true}
use Rattle.sqlite_disk.specs.declared.Disk.{Ghosts}
use Rattle.sqlite.specs.Files.{IsCleanLeft}
use Rattle.sqlite.specs.declared.file.Leftover.{Leftover}
use Rattle.docket_applying.specs.CourtDockets.{CourtDocket as Docket}
use Rattle.docket_scan.specs.declared.fault.AdoptFault.{AdoptFault}
use Rattle.docket_store.specs.Left.{LeavesRows}
use Rattle.file_dockets.specs.Keeping.{rows_told}
use Rattle.file_dockets.specs.Works.{WorksTo}
use Rattle.file_dockets.specs.declared.ended.Ended.{Ended}
use Rattle.file_serving.specs.Left.{LeavesServed}
use Rattle.file_serving.specs.Serves.{IfUnserved}
use Rattle.file_serving.specs.declared.serving.ServeEnd.{ServeEnd}
use Rattle.file_serving.specs.declared.serving.ServeEnd.TheVariants.{NotAnnounced, NotListening, Stopped}
use Rattle.file_serving.specs.declared.serving.Service.{Service}
use Rattle.job_ends.specs.declared.status.Status.{Status}
use Rattle.job_ends.specs.declared.status.Status.TheVariants.{Done, Failed}
use Rattle.job_runs.specs.Serving.{EndsServing}
use Rattle.job_runs.proofs.EndLemmas.{gives, some_left}

-- for a service on files that were opened, with its outcome and what is left of them
abbrev Opened : {D : Type 0} → Ghosts D → Type 0 → Type 0
Opened {D} g Y = Result (Ended D (Result (Unit {0}) ServeEnd) AdoptFault g) Y

module _ {D : Type 0} {g : Ghosts D} (docket : Docket) (service : Service) where
  -- the status shows how it ended
  ended_so : (left : Leftover D g) (end : Result (Unit {0}) ServeEnd) (status : Status) → LeavesServed (LeavesRows left) docket service end
      → MatchResult end (λ _. status ≡ Done) (λ _. status ≡ Failed) → EndsServing docket service left status
  ended_so left (Ok done) status leaves is = subst (EndsServing docket service left) (sym is) leaves
  ended_so left (Err (Stopped fault)) status leaves is = subst (EndsServing docket service left) (sym is) (inr (fault, leaves))
  ended_so left (Err (NotListening kind)) status leaves is = subst (EndsServing docket service left) (sym is) (inl leaves)
  ended_so left (Err (NotAnnounced kind)) status leaves is = subst (EndsServing docket service left) (sym is) (inl leaves)

  -- it was not begun, and the docket is as it was
  not_begun : (left : Leftover D g) (outcome : Result (Result (Unit {0}) ServeEnd) AdoptFault) (status : Status)
      → IfUnserved outcome (LeavesRows left (rows_told docket) (rows_told docket)) → IsErr outcome → status ≡ Failed → EndsServing docket service left status
  not_begun left (Ok end) status stays is failed = absurd (false≢true is)
  not_begun left (Err fault) status stays is failed = subst (EndsServing docket service left) (sym failed) (inl stays)

  pub served : {Y : Type 0} (ended : Opened g Y) (end : Result (Unit {0}) ServeEnd) (left : Leftover D g) (o : Option (Leftover D g)) (N : Type 0) (told status : Status)
      → IfOk ended (λ it. IsCleanLeft it.left → WorksTo (LeavesServed (LeavesRows it.left) docket service) it.outcome)
      → IsOkAnd ended (λ it. (it.outcome ≡ Ok end) × (it.left ≡ left)) → MatchResult end (λ _. told ≡ Done) (λ _. told ≡ Failed) → status ≡ told
      → o ≡ Some left → MatchOption o N (λ rest. IsCleanLeft rest → EndsServing docket service rest status)
  served ended end left o N told status works is tells same some =
      some_left o left N _ some (λ clean. subst (EndsServing docket service left) (sym same)
      (ended_so left end told (gives ended (λ it. it.left) IsCleanLeft (λ it. it.outcome) (λ rest outcome. WorksTo (LeavesServed (LeavesRows rest) docket service) outcome) (Ok end) left works is clean) tells))

  pub unserved : {Y : Type 0} (ended : Opened g Y) (o : Option (Leftover D g)) (N : Type 0) (status : Status)
      → IfOk ended (λ it. IsCleanLeft it.left → IfUnserved it.outcome (LeavesRows it.left (rows_told docket) (rows_told docket)))
      → MatchResult ended (λ it. (o ≡ Some it.left) × IsErr it.outcome) (λ _. o ≡ None) → N → status ≡ Failed
      → MatchOption o N (λ rest. IsCleanLeft rest → EndsServing docket service rest status)
  unserved (Ok it) o N status stays is none failed =
      some_left o it.left N _ is.0 (λ clean. not_begun it.left it.outcome status (stays clean) is.1 failed)
  unserved (Err y) o N status stays is none failed = subst (λ o. MatchOption o N (λ rest. IsCleanLeft rest → EndsServing docket service rest status)) (sym is) none

-- what is said of a fault, where nothing went out before on this error or on the output
said_of : {T : Type 0} (outcome : Result T AdoptFault) (P V : Type 0) {X : Type 0} (Says : X → AdoptFault → Type 0) (old mid : X) (W : Type 0) → (W → V) → P
    → IfErr outcome (Says mid) → IfErr outcome (λ _. W × (mid ≡ old)) → IfErr outcome (λ fault. (P × Says old fault) × V)
said_of (Ok x) P V Says old mid W then p said same = tt
said_of (Err fault) P V Says old mid W then p said same = ((p, subst (λ m. Says m fault) same.1 said), then same.0)

pub said_unserved : {D : Type 0} {g : Ghosts D} {Y : Type 0} (ended : Opened g Y) (P V : Type 0) {X : Type 0} (Says : X → AdoptFault → Type 0) (old mid : X) (W : Type 0) → (W → V) → P
    → IfOk ended (λ it. IfErr it.outcome (Says mid)) → MatchResult ended (λ it. IfErr it.outcome (λ _. W × (mid ≡ old))) (λ _. W × (mid ≡ old))
    → IfOk ended (λ it. IfErr it.outcome (λ fault. (P × Says old fault) × V))
said_unserved (Ok it) P V Says old mid W then p said same = said_of it.outcome P V Says old mid W then p said same
said_unserved (Err y) P V Says old mid W then p said same = tt
