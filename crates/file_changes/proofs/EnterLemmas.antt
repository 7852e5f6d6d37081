-- The outcome of an entry, from a docket to its connection, and from there to the files.
use Rattle.std.proofs.Common.{◌≡◌, ◌∙◌, List, ℕ, Option, Result, Ok, Err, IfErr, refl, sym, subst, subst₂}
use Rattle.std.proofs.lemmas.Result.{IfErr-weaker}
use Rattle.sqlite_disk.specs.declared.Disk.{Ghosts as Disk}
use Rattle.sqlite_wal.specs.Recovery.{Image}
use Rattle.sqlite.specs.Store.{Ghosts}
use Rattle.sqlite.specs.Files.{IsCleanLeft, over_files}
use Rattle.sqlite.specs.Held.{Held, state}
use Rattle.sqlite.specs.State.{HasCleanDisk}
use Rattle.sqlite.specs.declared.error.Error.{Error}
use Rattle.sqlite.specs.declared.file.Leftover.{Leftover}
use Rattle.court_days.specs.Court.{CourtSettings}
use Rattle.docket_columns.specs.declared.version.Version.TheVariants.{Second}
use Rattle.docket_scan.specs.declared.fault.AdoptFault.{AdoptFault}
use Rattle.docket_tables.specs.Layouts.{Rows}
use Rattle.docket_applying.specs.Applying.{Asks, IsDocket, Stands, StandsFor, docket_rows}
use Rattle.docket_applying.specs.Dockets.{Docket as Stored}
use Rattle.docket_applying.specs.declared.fault.Fault.{Fault}
use Rattle.docket_applying.specs.declared.fault.Fault.TheVariants.{Refused, NoMemory, StoreFailed, Closed, Damaged}
use Rattle.docket_applying.specs.CourtDockets.{CourtDocket as Docket, StandsAs}
use Rattle.docket_store.specs.Left.{LeavesRows}
use Rattle.docket_store.specs.Opening.{IsNotAdopted}
use Rattle.docket_store.specs.Reopening.{HoldDocket}
use Rattle.command_lines.specs.declared.fault.RunFault.{RunFault}
use Rattle.line_io.specs.declared.ending.CountEnd.{CountEnd}
use Rattle.entry_lines.specs.Preparing.{IsPrepared}
use Rattle.entry_lines.specs.declared.entry.Entry.{Entry}
use Rattle.entry_lines.specs.declared.entry.Prepared.{Prepared}
use Rattle.file_dockets.specs.Adopting.{AdoptsOver}
use Rattle.file_dockets.specs.Keeping.{HoldsBetween, rows_told}
use Rattle.file_dockets.specs.Working.{IsDoneOn}
use Rattle.file_dockets.specs.Works.{WorksTo}
use Rattle.file_changes.specs.Entering.{Enters, EntersOver, IsEntered, line_prepared}
use Rattle.file_changes.specs.Runs.{Answers}
use Rattle.file_changes.specs.declared.entering.Entered.{Entered}
use Rattle.file_dockets.proofs.KeepLemmas.{lasting}
use Rattle.file_dockets.proofs.WorkLemmas.{unadopted_keeps, unadopted_works, works_map}
use Rattle.file_changes.proofs.RunLemmas.{answers_map, keeps_map, prefix_done, prefix_map}
use Rattle.file_changes.proofs.StandLemmas.{keeps_closed}

-- by a docket before it is asked, and after
module _ {S : Type 0} (g : Ghosts S) (old new : Stored S) (told : Docket) (stands : StandsAs g old told) (same : new.court ≡ old.court) where
  pub asked_still : Stands g new told.history → StandsAs g new told
  asked_still is = record { court = same ∙ stands.court; stands = is }

  module _ (entry : Entry) (conn : Held S) (before : Option (List ℕ)) where
    -- the entry was prepared, and its line answered
    pub entered : (after : Option (List ℕ)) (prepared : Prepared) (end : Result CountEnd RunFault) → IsPrepared old.court told.history entry prepared
        → Answers (HoldsBetween g conn) told (line_prepared prepared) before after end
        → IsEntered (HoldsBetween g conn) told entry before after (record { prepared = prepared; end = end })
    entered after prepared end is answers = record {
      prepared = subst (λ (court : CourtSettings). IsPrepared court told.history entry prepared) stands.court is;
      answers = answers;
      prefix = prefix_done g conn told (line_prepared prepared) before after (Ok end) answers;
    }

    -- or the docket could not be asked
    pub not_asked : (fault : Fault) → conn ≡ new.conn → Asks g new told.history (IsPrepared old.court told.history entry) (Err fault) → HasCleanDisk (state g conn)
        → Enters (HoldsBetween g conn) told entry before before (Err fault)
    not_asked (Refused r) shut asks clean = absurd asks
    not_asked NoMemory shut asks clean = (refl, keeps_closed g new conn told shut (asked_still asks))
    not_asked StoreFailed shut asks clean =
        let is : IsDocket told.court told.history = subst (λ (court : CourtSettings). IsDocket court told.history) stands.court stands.stands.docket in (
          refl,
          (
            is,
            subst₂ (λ (c : Held S) (court : CourtSettings). HoldsBetween g c (docket_rows court told.history) (docket_rows court told.history)) (sym shut) (same ∙ stands.court)
                (lasting g new.conn _ asks),
          ),
        )
    not_asked Closed shut asks clean = absurd asks
    not_asked Damaged shut asks clean = absurd (asks (subst (λ (c : Held S). HasCleanDisk (state g c)) shut clean))

-- a docket that was not adopted stays, by the connection that comes back
pub unentered : {S : Type 0} (g : Ghosts S) (old new : Held S) (entry : Entry) (before after : Option (List ℕ)) (failure : Option Error) (fault : AdoptFault) (now : Held S) (told : Option Error)
    (outcome : Result (Result Entered Fault) AdoptFault) → now ≡ new → told ≡ failure → outcome ≡ Err fault → AdoptsOver g old new failure {T = Result Entered Fault} (Err fault)
    → ((told : Docket) → IsDocket told.court told.history → StandsFor g old told.court told.history → IsNotAdopted g new (rows_told told) fault)
    → EntersOver g old now entry before after told outcome
unentered {S} g old new entry before after failure fault now told outcome same error is adopts unadopted =
    let Over : Held S → Option Error → Result (Result Entered Fault) AdoptFault → Type 0 = λ conn error outcome. EntersOver g old conn entry before after error outcome in
    subst (Over now told) (sym is) (subst (λ (e : Option Error). Over now e (Err fault)) (sym error) (subst (λ (conn : Held S). Over conn failure (Err fault)) (sym same) (record {
      adopts = adopts;
      enters = λ told stands holds clean. unadopted_works g new (rows_told told) (Enters (HoldsBetween g new) told entry before after) fault (unadopted told stands holds) clean;
      stays = λ told stands holds. unadopted_keeps g new (rows_told told) fault (unadopted told stands holds);
    })))

-- the same of whatever else is left by that
module _ (L M : Rows → Rows → Type 0) (more : (rows next : Rows) → L rows next → M rows next) (docket : Docket) (entry : Entry) (before after : Option (List ℕ)) where
  pub enters_map : (r : Result Entered Fault) → Enters L docket entry before after r → Enters M docket entry before after r
  enters_map (Ok it) is = record {
    prepared = is.prepared;
    answers = answers_map L M more docket (line_prepared it.prepared) before after it.end is.answers;
    prefix = prefix_map L M more docket (line_prepared it.prepared) before after is.prefix;
  }
  enters_map (Err (Refused r)) is = is
  enters_map (Err NoMemory) is = (is.0, keeps_map L M more docket is.1)
  enters_map (Err StoreFailed) is = (is.0, keeps_map L M more docket is.1)
  enters_map (Err Closed) is = is
  enters_map (Err Damaged) is = is

module _ {D : Type 0} {g : Disk D} (start : Image) (entry : Entry) (before after : Option (List ℕ)) (failure : Option Error) (outcome : Result (Result Entered Fault) AdoptFault)
    (rest : Leftover D g) (told : Docket) (done : IsDoneOn start (λ old new. EntersOver over_files old new entry before after failure) outcome rest)
    (is : IsDocket told.court told.history) (files : HoldDocket start told.court told.history) (clean : IsCleanLeft rest) where
  left_of : (rows next : Rows) → HoldsBetween over_files done.back rows next → LeavesRows rest rows next
  left_of rows next holds = done.left rows next holds clean

  -- from a connection to the files that it leaves
  pub enters_on : WorksTo (Enters (LeavesRows rest) told entry before after) outcome
  enters_on =
      works_map _ _ (enters_map (HoldsBetween over_files done.back) (LeavesRows rest) left_of told entry before after) outcome
      (done.comes.enters told is (done.holds Second (rows_told told) files) (done.trust clean))

  pub unentered_on : IfErr outcome (λ _. LeavesRows rest (rows_told told) (rows_told told))
  unentered_on =
      IfErr-weaker outcome _ _ (λ fault holds. left_of (rows_told told) (rows_told told) holds)
      (done.comes.stays told is (done.holds Second (rows_told told) files))
