-- The outcome of one command, from a docket to its connection, and from there to the files.
use Rattle.std.proofs.Common.{◌≡◌, ◌⊎◌, ◌<◌, ◌^◌, inl, inr, ℕ, List, Option, Result, Ok, Err, IfErr, IfOk, subst, sym}
use Rattle.std.proofs.lemmas.Result.{IfErr-weaker, IfOk-weaker}
use Rattle.sqlite_disk.specs.declared.Disk.{Ghosts as Disk}
use Rattle.sqlite_wal.specs.Recovery.{Image}
use Rattle.sqlite.specs.Store.{Ghosts}
use Rattle.sqlite.specs.Files.{IsCleanLeft, over_files}
use Rattle.sqlite.specs.Held.{Held, state}
use Rattle.sqlite.specs.State.{HasCleanDisk}
use Rattle.sqlite.specs.declared.error.Error.{Error}
use Rattle.sqlite.specs.declared.file.Leftover.{Leftover}
use Rattle.court_days.specs.Court.{CourtSettings}
use Rattle.docket_command.specs.declared.command.Command.{Command}
use Rattle.docket_command.specs.declared.refusal.Reply.{Reply}
use Rattle.docket_columns.specs.declared.version.Version.TheVariants.{Second}
use Rattle.docket_decisions.specs.Outcomes.{accepted, after, outcome, refused, repeated}
use Rattle.docket_decisions.specs.declared.end_row.StoredEnd.{StoredEnd}
use Rattle.docket_scan.specs.declared.holdings.Holdings.{Holdings}
use Rattle.docket_scan.specs.declared.fault.AdoptFault.{AdoptFault}
use Rattle.docket_tables.specs.AnyRows.{AreDocketRows}
use Rattle.docket_tables.specs.Layouts.{Rows}
use Rattle.docket_tables.specs.Stands.{HoldsRows}
use Rattle.docket_applying.specs.AnyRows.{WritesWhole}
use Rattle.docket_applying.specs.Applying.{Applies, IsDocket, Stands, StandsFor}
use Rattle.docket_applying.specs.Dockets.{Docket as Stored}
use Rattle.docket_applying.specs.declared.fault.Fault.{Fault}
use Rattle.docket_applying.specs.declared.fault.Fault.TheVariants.{Refused, NoMemory, StoreFailed, Closed, Damaged}
use Rattle.docket_applying.specs.CourtDockets.{CourtDocket as Docket}
use Rattle.docket_store.specs.Left.{LeavesRows}
use Rattle.docket_store.specs.Opening.{IsNotAdopted, IsSoundWith}
use Rattle.docket_store.specs.Reopening.{HoldDocket}
use Rattle.command_lines.specs.Lines.{docket_with}
use Rattle.file_dockets.specs.Adopting.{AdoptsOver}
use Rattle.file_dockets.specs.Keeping.{HoldsBetween, Keeps, rows_told}
use Rattle.file_dockets.specs.Working.{IsDoneOn}
use Rattle.file_dockets.specs.Works.{WorksTo}
use Rattle.file_changes.specs.Commands.{AppliesTo, IsWritten, IsWrittenOn, LeavesWhole}
use Rattle.file_changes.specs.Works.{AppliesOver}
use Rattle.file_dockets.proofs.KeepLemmas.{either, held, lasting}
use Rattle.file_dockets.proofs.WorkLemmas.{unadopted_keeps, unadopted_works, works_map}

module _ (L M : Rows → Rows → Type 0) (more : (rows next : Rows) → L rows next → M rows next) (docket : Docket) (c : Command) where
  pub applies_map : (answer : Result Reply Fault) → AppliesTo L docket c answer → AppliesTo M docket c answer
  applies_map (Ok reply) is = (is.0, (is.1.0, more _ _ is.1.1))
  applies_map (Err (Refused r)) is = (is.0, (is.1.0, more _ _ is.1.1))
  applies_map (Err NoMemory) is = (is.0, more _ _ is.1)
  applies_map (Err StoreFailed) is = more _ _ is
  applies_map (Err Closed) is = is
  applies_map (Err Damaged) is = is

module _ {S : Type 0} (g : Ghosts S) (stored : Stored S) (docket : Docket) (c : Command) (same : stored.court ≡ docket.court) where
  kept : Stands g stored docket.history → Keeps (HoldsBetween g stored.conn) docket
  kept stands = subst (λ court. Keeps (HoldsBetween g stored.conn) (record { court = court; history = docket.history })) same (stands.docket, held g stored.conn _ stands.rows)

  -- a command to a docket whose connection is left
  pub applied : (answer : Result Reply Fault) → Applies g stored docket.history c answer → HasCleanDisk (state g stored.conn)
      → AppliesTo (HoldsBetween g stored.conn) docket c answer
  applied (Ok reply) is clean =
      let P : CourtSettings → Type 0 = λ court. ((outcome court docket.history c ≡ accepted reply) ⊎ (outcome court docket.history c ≡ repeated reply))
      × Keeps (HoldsBetween g stored.conn) (record { court = court; history = after court docket.history c }) in
      subst P same (is.1 clean, (is.0.docket, held g stored.conn _ is.0.rows))
  applied (Err (Refused r)) is clean = (subst (λ (court : CourtSettings). outcome court docket.history c ≡ refused r) same (is.1 clean), kept is.0)
  applied (Err NoMemory) is clean = kept is
  applied (Err StoreFailed) is clean = subst (λ (court : CourtSettings). HoldsBetween g stored.conn (rows_told (record { court = court; history = docket.history })) (rows_told (docket_with (record { court = court; history = docket.history }) c))) same (either g stored.conn _ _ is)
  applied (Err Closed) is clean = absurd is
  applied (Err Damaged) is clean = absurd (is clean)

-- a command to any rows
whole_left : {S : Type 0} (g : Ghosts S) (conn : Held S) (court : CourtSettings) (n : ℕ) (rows : Rows) (c : Command) (answer : Result Reply Fault)
    → WritesWhole g conn court n rows c answer → HasCleanDisk (state g conn) → LeavesWhole (HoldsBetween g conn) court n rows c answer
whole_left g conn court n rows c (Ok reply) (inl is) clean = inl (held g conn rows is.0, is.1 clean)
whole_left g conn court n rows c (Ok reply) (inr is) clean = inr (is.0, is.1, held g conn is.0 is.2)
whole_left g conn court n rows c (Err StoreFailed) (inl is) clean = inl (lasting g conn rows is)
whole_left g conn court n rows c (Err StoreFailed) (inr is) clean = inr (is.0, is.1, is.2, either g conn rows is.0 is.3)
whole_left g conn court n rows c (Err (Refused r)) is clean = held g conn rows is
whole_left g conn court n rows c (Err NoMemory) is clean = held g conn rows is
whole_left g conn court n rows c (Err Closed) is clean = held g conn rows is
whole_left g conn court n rows c (Err Damaged) is clean = held g conn rows is

-- by the docket that was adopted, `d`, as the command leaves it, `next`
pub written : {S : Type 0} (g : Ghosts S) (old : Held S) (d next : Stored S) (holdings : Holdings) (c : Command) (answer : Result Reply Fault) → IsSoundWith g old d holdings
    → ((rows : Rows) → HoldsRows g old rows → HoldsRows g d.conn rows) → next.court ≡ d.court
    → ((rows : Rows) (n : ℕ) (stored : List StoredEnd) → AreDocketRows d.court n stored rows → n < 2 ^ 62 → HoldsRows g d.conn rows → WritesWhole g next.conn next.court n rows c answer)
    → (HasCleanDisk (state g next.conn) → HasCleanDisk (state g d.conn)) → HasCleanDisk (state g next.conn)
    → IsWritten (state g old) (HoldsRows g old) (HoldsBetween g next.conn) c answer
written g old d next holdings c answer sound stays same any trust clean =
    let found = sound (trust clean) in
    record {
      court = d.court;
      found = found.0;
      sound = found.1.1;
      left = λ rows n stored are few holds.
          subst (λ (court : CourtSettings). LeavesWhole (HoldsBetween g next.conn) court n rows c answer) same
          (whole_left g next.conn next.court n rows c answer (any rows n stored are few (stays rows holds)) clean);
    }

-- whatever else is left by that
whole_map : (L M : Rows → Rows → Type 0) → ((rows next : Rows) → L rows next → M rows next) → (court : CourtSettings) (n : ℕ) (rows : Rows) (c : Command) (answer : Result Reply Fault)
    → LeavesWhole L court n rows c answer → LeavesWhole M court n rows c answer
whole_map L M more court n rows c (Ok reply) (inl is) = inl (more _ _ is.0, is.1)
whole_map L M more court n rows c (Ok reply) (inr is) = inr (is.0, is.1, more _ _ is.2)
whole_map L M more court n rows c (Err StoreFailed) (inl is) = inl (more _ _ is)
whole_map L M more court n rows c (Err StoreFailed) (inr is) = inr (is.0, is.1, is.2, more _ _ is.3)
whole_map L M more court n rows c (Err (Refused r)) is = more _ _ is
whole_map L M more court n rows c (Err NoMemory) is = more _ _ is
whole_map L M more court n rows c (Err Closed) is = more _ _ is
whole_map L M more court n rows c (Err Damaged) is = more _ _ is

-- a docket that was not adopted stays, by the connection that comes back
pub unapplied : {S : Type 0} (g : Ghosts S) (old new : Held S) (c : Command) (failure : Option Error) (fault : AdoptFault) (now : Held S) (told : Option Error)
    (outcome : Result (Result Reply Fault) AdoptFault) → now ≡ new → told ≡ failure → outcome ≡ Err fault → AdoptsOver g old new failure {T = Result Reply Fault} (Err fault)
    → ((told : Docket) → IsDocket told.court told.history → StandsFor g old told.court told.history → IsNotAdopted g new (rows_told told) fault)
    → AppliesOver g old now c told outcome
unapplied {S} g old new c failure fault now told outcome same error is adopts unadopted =
    let Over : Held S → Option Error → Result (Result Reply Fault) AdoptFault → Type 0 = λ conn error outcome. AppliesOver g old conn c error outcome in
    subst (Over now told) (sym is) (subst (λ (e : Option Error). Over now e (Err fault)) (sym error) (subst (λ (conn : Held S). Over conn failure (Err fault)) (sym same) (record {
      adopts = adopts;
      applies = λ told stands holds clean. unadopted_works g new (rows_told told) (AppliesTo (HoldsBetween g new) told c) fault (unadopted told stands holds) clean;
      whole = λ clean. tt;
      stays = λ told stands holds. unadopted_keeps g new (rows_told told) fault (unadopted told stands holds);
    })))

module _ {D : Type 0} {g : Disk D} (start : Image) (c : Command) (failure : Option Error) (outcome : Result (Result Reply Fault) AdoptFault) (rest : Leftover D g) (told : Docket)
    (done : IsDoneOn start (λ old new. AppliesOver over_files old new c failure) outcome rest) (is : IsDocket told.court told.history)
    (files : HoldDocket start told.court told.history) (clean : IsCleanLeft rest) where
  left_of : (rows next : Rows) → HoldsBetween over_files done.back rows next → LeavesRows rest rows next
  left_of rows next holds = done.left rows next holds clean

  -- from a connection to the files that it leaves
  pub applied_on : WorksTo (AppliesTo (LeavesRows rest) told c) outcome
  applied_on =
      works_map _ _ (applies_map (HoldsBetween over_files done.back) (LeavesRows rest) left_of told c) outcome
      (done.comes.applies told is (done.holds Second (rows_told told) files) (done.trust clean))

  pub stays_on : IfErr outcome (λ _. LeavesRows rest (rows_told told) (rows_told told))
  stays_on =
      IfErr-weaker outcome _ _ (λ fault holds. left_of (rows_told told) (rows_told told) holds)
      (done.comes.stays told is (done.holds Second (rows_told told) files))

-- any sound tables, from a connection to the files that it leaves
pub written_on : {D : Type 0} {g : Disk D} (start : Image) (c : Command) (failure : Option Error) (outcome : Result (Result Reply Fault) AdoptFault) (rest : Leftover D g)
    → IsDoneOn start (λ old new. AppliesOver over_files old new c failure) outcome rest → IsCleanLeft rest → IfOk outcome (IsWrittenOn start rest c)
written_on start c failure outcome rest done left =
    let clean = done.trust left in
    IfOk-weaker outcome _ _ (λ answer is. record {
      opened = done.opened;
      shows = λ rows files. ((done.holds Second rows files).1 (done.comes.adopts.trust clean)).shows;
      written = record {
        court = is.court;
        found = is.found;
        sound = is.sound;
        left = λ rows n stored are few files.
            whole_map (HoldsBetween over_files done.back) (LeavesRows rest) (λ rows next holds. done.left rows next holds left) is.court n rows c answer
            (is.left rows n stored are few (done.holds Second rows files));
      };
    }) (done.comes.whole clean)
