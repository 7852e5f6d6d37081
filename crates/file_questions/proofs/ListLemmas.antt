-- What the list of the cases of a docket leaves of it.
use Rattle.std.proofs.Common.{ℕ, Option, List, [], Result, Ok, Err, IfErr}
use Rattle.sqlite.specs.Store.{Ghosts}
use Rattle.sqlite.specs.Held.{Held, state}
use Rattle.sqlite.specs.State.{HasCleanDisk}
use Rattle.docket_history.specs.Histories.{History}
use Rattle.docket_history.specs.declared.row.CaseRow.{CaseRow}
use Rattle.docket_tables.specs.Layouts.{Rows}
use Rattle.docket_tables.specs.Stands.{HoldsRows}
use Rattle.docket_applying.specs.AnyRows.{PreservesCalendar}
use Rattle.docket_applying.specs.Applying.{Asks}
use Rattle.docket_applying.specs.Dockets.{Docket}
use Rattle.docket_applying.specs.declared.fault.Fault.{Fault}
use Rattle.docket_applying.specs.declared.fault.Fault.TheVariants.{Refused, NoMemory, StoreFailed, Closed, Damaged}
use Rattle.docket_applying.specs.declared.listing.CalendarEnd.{CalendarEnd}
use Rattle.docket_applying.specs.declared.listing.CalendarEnd.TheVariants.{Store, WriteFailed}
use Rattle.file_questions.proofs.CaseLemmas.{front_out, nothing_out}
use Rattle.file_questions.specs.CaseLists.{IsAsked, IsEarlyEnd, IsEarlyWrite, Lists, ListsCases}

module _ {S : Type 0} (g : Ghosts S) (d : Docket S) (h : History) where
  -- a question that has no answer ends the list
  pub unanswered : {X : Type 0} (P : X → Type 0) (fault : Fault) → Asks g d h P (Err fault) → IsAsked g d h (Err (Store fault))
  unanswered P (Refused r) asks = asks
  unanswered P NoMemory asks = asks
  unanswered P StoreFailed asks = asks
  unanswered P Closed asks = asks
  unanswered P Damaged asks = asks

  pub unlisted : {X : Type 0} (P : X → Type 0) (rows : List CaseRow) (known : Option (List ℕ)) (fault : Fault) → Asks g d h P (Err fault) → Lists g d h rows known known (Err (Store fault))
  unlisted P rows known fault asks = (unanswered P fault asks, λ clean. front_out known known [] 0 (nothing_out known) rows (Store fault))

  early : (result : Result ℕ CalendarEnd) → IsAsked g d h result → HasCleanDisk (state g d.conn) → IfErr result IsEarlyEnd
  early (Ok lines) asked clean = tt
  early (Err (Store (Refused r))) asked clean = asked
  early (Err (Store NoMemory)) asked clean = tt
  early (Err (Store StoreFailed)) asked clean = tt
  early (Err (Store Closed)) asked clean = asked
  early (Err (Store Damaged)) asked clean = asked clean
  early (Err WriteFailed) asked clean = tt

  -- the list of a docket whose disk is clean
  pub listed_cases : (rows : List CaseRow) (before after : Option (List ℕ)) (result : Result ℕ CalendarEnd) → Lists g d h rows before after result
      → HasCleanDisk (state g d.conn) → ListsCases rows before after result
  listed_cases rows before after result lists clean = (lists.1 clean, early result lists.0 clean)

-- a failed write leaves the rows
pub write_keeps : {S : Type 0} (g : Ghosts S) (conn : Held S) (rows : Rows) (result : Result ℕ CalendarEnd) → HoldsRows g conn rows → IfErr result IsEarlyWrite
    → PreservesCalendar g conn rows result
write_keeps g conn rows (Ok lines) holds end = holds
write_keeps g conn rows (Err (Store (Refused r))) holds end = absurd end
write_keeps g conn rows (Err (Store NoMemory)) holds end = holds
write_keeps g conn rows (Err (Store StoreFailed)) holds end = absurd end
write_keeps g conn rows (Err (Store Closed)) holds end = absurd end
write_keeps g conn rows (Err (Store Damaged)) holds end = absurd end
write_keeps g conn rows (Err WriteFailed) holds end = holds
