-- The outcome of a question over a connection, and from there on the files.
use Rattle.std.proofs.Common.{◌≡◌, Option, Result, Err, subst, sym}
use Rattle.sqlite_disk.specs.declared.Disk.{Ghosts as Disk}
use Rattle.sqlite_wal.specs.Recovery.{Image}
use Rattle.sqlite.specs.Files.{IsCleanLeft, over_files}
use Rattle.sqlite.specs.Held.{Held}
use Rattle.sqlite.specs.Store.{Ghosts}
use Rattle.sqlite.specs.declared.error.Error.{Error}
use Rattle.sqlite.specs.declared.file.Leftover.{Leftover}
use Rattle.court_days.specs.Court.{CourtSettings}
use Rattle.docket_columns.specs.declared.version.Version.TheVariants.{Second}
use Rattle.docket_history.specs.Histories.{History}
use Rattle.docket_scan.specs.declared.fault.AdoptFault.{AdoptFault}
use Rattle.docket_tables.specs.Layouts.{Rows}
use Rattle.docket_tables.specs.Stands.{HoldsRows}
use Rattle.docket_applying.specs.Applying.{IsDocket, StandsFor}
use Rattle.docket_applying.specs.CourtDockets.{CourtDocket as Docket}
use Rattle.docket_store.specs.Left.{LeavesRows}
use Rattle.docket_store.specs.Opening.{IsNotAdopted, PreservesRejected}
use Rattle.docket_store.specs.Reopening.{HoldDocket, HoldRows}
use Rattle.file_dockets.specs.Adopting.{AdoptsOver}
use Rattle.file_dockets.specs.Keeping.{rows_told}
use Rattle.file_dockets.specs.Working.{IsDoneOn}
use Rattle.file_dockets.specs.Works.{WorksTo}
use Rattle.file_dockets.proofs.WorkLemmas.{kept_rejected, unadopted_works}
use Rattle.file_questions.specs.Asking.{AsksOver}

-- a docket that was not adopted stays, by the connection that comes back
pub unasked : {S : Type 0} (g : Ghosts S) (old new : Held S) {T : Type 0} (Tells : CourtSettings → History → T → Type 0) (failure : Option Error) (fault : AdoptFault) (now : Held S)
    (told : Option Error) (outcome : Result T AdoptFault) → now ≡ new → told ≡ failure → outcome ≡ Err fault → AdoptsOver g old new failure {T = T} (Err fault)
    → ((told : Docket) → IsDocket told.court told.history → StandsFor g old told.court told.history → IsNotAdopted g new (rows_told told) fault)
    → ((rows : Rows) → HoldsRows g old rows → PreservesRejected g new rows fault)
    → AsksOver g old now Tells told outcome
unasked {S} g old new {T} Tells failure fault now told outcome same error is adopts unadopted stays =
    let Over : Held S → Option Error → Result T AdoptFault → Type 0 = λ conn error outcome. AsksOver g old conn Tells error outcome in
    subst (Over now told) (sym is) (subst (λ (e : Option Error). Over now e (Err fault)) (sym error) (subst (λ (conn : Held S). Over conn failure (Err fault)) (sym same) (record {
      adopts = adopts;
      told = λ told stands holds clean. unadopted_works g new (rows_told told) (Tells told.court told.history) fault (unadopted told stands holds) clean;
      stays = λ rows holds. kept_rejected g new rows fault (stays rows holds);
    })))

-- from a connection to the files that it leaves
module _ {D : Type 0} {g : Disk D} {T : Type 0} (start : Image) (Tells : CourtSettings → History → T → Type 0) (failure : Option Error) (outcome : Result T AdoptFault) (rest : Leftover D g)
    (done : IsDoneOn start (λ old new. AsksOver over_files old new Tells failure) outcome rest) (clean : IsCleanLeft rest) where
  pub told_on : (told : Docket) → IsDocket told.court told.history → HoldDocket start told.court told.history → WorksTo (Tells told.court told.history) outcome
  told_on told is files = done.comes.told told is (done.holds Second (rows_told told) files) (done.trust clean)

  pub stays_on : (rows : Rows) → HoldRows Second start rows → LeavesRows rest rows rows
  stays_on rows files = done.left rows rows (done.comes.stays rows (done.holds Second rows files)) clean
