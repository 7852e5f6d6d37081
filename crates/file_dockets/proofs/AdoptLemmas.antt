-- The outcome of a work that first adopts a docket, over any database, and from there on the files.
use Rattle.std.proofs.Common.{◌≤◌, ◌⊎◌, inl, inr, Option, Result, Ok, Err, IfErr, arith}
use Rattle.std.proofs.lemmas.Result.{IfErr-weaker, IfOk-weaker}
use Rattle.sqlite_disk.specs.declared.Disk.{Ghosts as Disk}
use Rattle.sqlite_wal.specs.Recovery.{Image}
use Rattle.sqlite_store.specs.declared.store.FileStore.{FileStore}
use Rattle.sqlite.specs.Files.{IsCleanLeft, over_files}
use Rattle.sqlite.specs.Held.{Held, state}
use Rattle.sqlite.specs.State.{HasCleanDisk, Survives}
use Rattle.sqlite.specs.Store.{Ghosts}
use Rattle.sqlite.specs.View.{doubt}
use Rattle.sqlite.specs.declared.error.Error.{Error}
use Rattle.sqlite.specs.declared.file.Leftover.{Leftover}
use Rattle.docket_columns.specs.declared.version.Version.{Version}
use Rattle.docket_scan.specs.declared.fault.AdoptFault.{AdoptFault}
use Rattle.docket_scan.specs.declared.holdings.Holdings.{Holdings}
use Rattle.docket_applying.specs.Dockets.{Docket}
use Rattle.docket_store.specs.Causes.{IsCausedOpening}
use Rattle.docket_store.specs.Left.{Leaves}
use Rattle.docket_store.specs.Opening.{IsRejected, IsSoundWith}
use Rattle.docket_tables.specs.Layouts.{Rows}
use Rattle.docket_tables.specs.Stands.{HoldsRowsIn, IsImageIn}
use Rattle.file_dockets.specs.Adopting.{AdoptsOver, IsJudged}
use Rattle.file_dockets.specs.Working.{IsDoneOn}
use Rattle.file_dockets.proofs.KeepLemmas.{leaves_map}

module _ {S : Type 0} (g : Ghosts S) (old : Held S) where
  -- a docket was adopted, and a work done on it
  pub adopted : {T : Type 0} (d : Docket S) (held : Holdings) (new : Held S) (failure : Option Error) (done : T) → IsSoundWith g old d held
      → doubt (state g old).is_clean ≤ doubt (state g d.conn).is_clean → (HasCleanDisk (state g new) → HasCleanDisk (state g d.conn))
      → AdoptsOver g old new failure (Ok done)
  adopted d held new failure done sound first then = record {
    sound = λ clean. let found = sound (then clean) in (d.court, found.0, found.1.1);
    rejected = tt;
    caused = tt;
    kept = tt;
    trust = λ clean. let kept : HasCleanDisk (state g d.conn) = then clean in omega (arith, first, kept);
  }

  -- the same for a work that is always done
  pub adopted_all : {T : Type 0} (d : Docket S) (held : Holdings) (new : Held S) (failure : Option Error) (outcome : Result T AdoptFault) → IsSoundWith g old d held
      → doubt (state g old).is_clean ≤ doubt (state g d.conn).is_clean → (HasCleanDisk (state g new) → HasCleanDisk (state g d.conn))
      → IfErr outcome (λ _. ⊥) → AdoptsOver g old new failure outcome
  adopted_all d held new failure (Ok done) sound first then never = adopted d held new failure done sound first then
  adopted_all d held new failure (Err fault) sound first then never = absurd never

  -- none was adopted
  pub rejected : {T : Type 0} (new : Held S) (failure : Option Error) (fault : AdoptFault) → IsRejected g old new fault
      → (HasCleanDisk (state g new) → IsCausedOpening (state g old) (state g new) failure fault) → Survives (state g old) (state g new) (λ _. ⊥)
      → AdoptsOver g old new failure {T = T} (Err fault)
  rejected new failure fault is caused kept = record { sound = tt; rejected = is; caused = caused; kept = kept; trust = λ clean. omega (arith, kept.clean, clean) }

first_of : {A : Type 0} → A ⊎ ⊥ → A
first_of (inl a) = a
first_of (inr none) = absurd none

-- where it was not, the files that are left hold what they held
spared : {S D T : Type 0} {d : Disk D} (g : Ghosts S) (v : Version) (rows : Rows) (old new : Held S) (outcome : Result T AdoptFault) (rest : Leftover D d)
    → HoldsRowsIn g v old rows → HasCleanDisk (state g new) → IfErr outcome (λ _. Survives (state g old) (state g new) (λ _. ⊥))
    → IfErr outcome (λ _. Leaves rest (state g new).may_leave) → IfErr outcome (λ _. Leaves rest (IsImageIn v rows))
spared g v rows old new (Ok done) rest holds clean kept images = tt
spared g v rows old new (Err fault) rest holds clean kept images =
    let was : HasCleanDisk (state g old) = omega (arith, kept.clean, clean) in
    leaves_map rest (state g new).may_leave (IsImageIn v rows) (λ db may. (holds.1 was).images db (first_of (kept.crash clean db may))) images

-- from a connection to the files that it leaves
pub judged_on : {D : Type 0} {g : Disk D} {T : Type 0} (start : Image) (Comes : Held (FileStore D g) → Held (FileStore D g) → Result T AdoptFault → Type 0)
    (failure : Option Error) (outcome : Result T AdoptFault) (rest : Leftover D g) (done : IsDoneOn start Comes outcome rest)
    → AdoptsOver over_files done.opened done.back failure outcome → IsCleanLeft rest → IsJudged start rest failure outcome
judged_on start Comes failure outcome rest done adopts left =
    let clean = done.trust left in
    record {
      opened = done.opened;
      back = done.back;
      shows = λ v rows files. ((done.holds v rows files).1 (adopts.trust clean)).shows;
      sound = IfOk-weaker outcome _ _ (λ it sound. sound clean) adopts.sound;
      found = IfErr-weaker outcome _ _ (λ fault is. (is clean).1) adopts.rejected;
      caused = IfErr-weaker outcome _ _ (λ fault is. is clean) adopts.caused;
      spared = λ v rows files. spared over_files v rows done.opened done.back outcome rest (done.holds v rows files) clean adopts.kept done.images;
    }
