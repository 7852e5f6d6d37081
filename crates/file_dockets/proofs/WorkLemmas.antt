-- The outcome of a job on a docket, and what its connection holds.
use Rattle.std.proofs.Common.{◌≡◌, Result, Ok, Err, subst, sym}
use Rattle.sqlite.specs.Store.{Ghosts}
use Rattle.sqlite.specs.Held.{Held, state}
use Rattle.sqlite.specs.State.{HasCleanDisk}
use Rattle.docket_scan.specs.declared.fault.AdoptFault.{AdoptFault}
use Rattle.docket_scan.specs.declared.fault.AdoptFault.TheVariants as adopt
use Rattle.docket_tables.specs.Layouts.{Rows}
use Rattle.docket_store.specs.Opening.{PreservesRejected}
use Rattle.docket_store.specs.Opening.{IsNotAdopted}
use Rattle.file_dockets.specs.Keeping.{HoldsBetween}
use Rattle.file_dockets.specs.Works.{WorksTo}
use Rattle.file_dockets.proofs.KeepLemmas.{held, lasting}

pub works_map : {T : Type 0} (P Q : T → Type 0) → ((done : T) → P done → Q done) → (outcome : Result T AdoptFault) → WorksTo P outcome → WorksTo Q outcome
works_map P Q then (Ok done) is = then done is
works_map P Q then (Err adopt.NoMemory) is = tt
works_map P Q then (Err adopt.StoreFailed) is = tt
works_map P Q then (Err adopt.Empty) is = is
works_map P Q then (Err adopt.NotADocket) is = is
works_map P Q then (Err adopt.OtherVersion) is = is
works_map P Q then (Err (adopt.Damaged table)) is = is

module _ {S : Type 0} (g : Ghosts S) where
  -- what a connection holds is held by the one that comes back
  pub held_closed : (now conn : Held S) (rows : Rows) → now ≡ conn → HoldsBetween g conn rows rows → HoldsBetween g now rows rows
  held_closed now conn rows same = subst (λ (c : Held S). HoldsBetween g c rows rows) (sym same)

  module _ (conn : Held S) (rows : Rows) where
    pub kept_rejected : (fault : AdoptFault) → PreservesRejected g conn rows fault → HoldsBetween g conn rows rows
    kept_rejected adopt.NoMemory holds = held g conn rows holds
    kept_rejected adopt.StoreFailed lasts = lasting g conn rows lasts
    kept_rejected adopt.Empty holds = held g conn rows holds
    kept_rejected adopt.NotADocket holds = held g conn rows holds
    kept_rejected adopt.OtherVersion holds = held g conn rows holds
    kept_rejected (adopt.Damaged table) holds = held g conn rows holds

    pub unadopted_keeps : (fault : AdoptFault) → IsNotAdopted g conn rows fault → HoldsBetween g conn rows rows
    unadopted_keeps adopt.NoMemory is = held g conn rows is
    unadopted_keeps adopt.StoreFailed is = lasting g conn rows is
    unadopted_keeps adopt.Empty is = λ clean. absurd (is clean)
    unadopted_keeps adopt.NotADocket is = λ clean. absurd (is clean)
    unadopted_keeps adopt.OtherVersion is = λ clean. absurd (is clean)
    unadopted_keeps (adopt.Damaged table) is = λ clean. absurd (is clean)

    -- a sound docket is not adopted only for the causes that a work may report
    pub unadopted_works : {T : Type 0} (P : T → Type 0) (fault : AdoptFault) → IsNotAdopted g conn rows fault → HasCleanDisk (state g conn) → WorksTo P (Err fault)
    unadopted_works P adopt.NoMemory is clean = tt
    unadopted_works P adopt.StoreFailed is clean = tt
    unadopted_works P adopt.Empty is clean = is clean
    unadopted_works P adopt.NotADocket is clean = is clean
    unadopted_works P adopt.OtherVersion is clean = is clean
    unadopted_works P (adopt.Damaged table) is clean = is clean
