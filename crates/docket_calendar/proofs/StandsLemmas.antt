-- What a calendar leaves of a connection that holds a docket's rows.
use Rattle.std.proofs.Common.{◌≡◌, ◌⊎◌, ℕ, List, false, Option, Result, Ok, Err, sym, subst}
use Rattle.sqlite.specs.Given.{IsPlain}
use Rattle.sqlite.specs.Listing.{understood}
use Rattle.sqlite.specs.Schema.{Schema}
use Rattle.sqlite.specs.Store.{Ghosts}
use Rattle.sqlite.specs.State.{HasCleanDisk, Survives, IsUnchanged, IsRolledBack}
use Rattle.sqlite.specs.Held.{Held, state}
use Rattle.court_days.specs.Court.{CourtSettings}
use Rattle.docket_decisions.specs.EndRows.{calendar_in}
use Rattle.docket_history.specs.Histories.{History}
use Rattle.docket_decisions.specs.Tables.{rows_of}
use Rattle.docket_tables.specs.Layouts.{Rows}
use Rattle.docket_tables.specs.Readings.{Fails, Gives, StaysAt, Stays as FoundStays}
use Rattle.docket_tables.specs.Stands.{HoldsRows, IsSettled, IsLasting}
use Rattle.docket_tables.specs.declared.fault.ReadFault.{ReadFault}
use Rattle.docket_tables.specs.declared.fault.ReadFault.TheVariants.{Store, NoMemory, Damaged}
use Rattle.docket_tables.proofs.NothingLemmas.{clean_before}
use Rattle.docket_tables.proofs.StandsLemmas.{unchanged_settled, undone_lasting}
use Rattle.docket_calendar.specs.Asked.{Lists, RemainsAfter, RemainsAt}
use Rattle.docket_calendar.specs.Calendar.{calendar_rows}
use Rattle.docket_calendar.specs.Gathering.{ComesTo}
use Rattle.docket_calendar.specs.Question.{question, days_asked}
use Rattle.docket_calendar.specs.Sending.{LeavesAt, Remains, SendsAll}
use Rattle.docket_calendar.specs.Telling.{IsHistoryOf, Stays, Tells, docket_rows}
use Rattle.docket_calendar.specs.declared.stop.Stop.{Stop}
use Rattle.docket_calendar.specs.declared.stop.Stop.TheVariants.{NotBegun, Broken, WriteFailed}
use Rattle.docket_calendar.proofs.HistoryLemmas.{listable, is_calendar}
use Rattle.docket_calendar.proofs.JoinMeans.{asks_plainly}
use Rattle.docket_calendar.proofs.ListsLemmas.{lists}

-- a question that is plain for the tables of a docket leaves any rows as they were
module _ {S : Type 0} (g : Ghosts S) (rows : Rows) (old new : Held S) (was : HoldsRows g old rows) (mode : old.in_transaction ≡ false → new.in_transaction ≡ false)
    (nothing : Survives (state g old) (state g new) (λ _. ⊥)) where
  before : HasCleanDisk (state g new) → HasCleanDisk (state g old)
  before = clean_before nothing

  plainly : HasCleanDisk (state g new) → IsPlain (understood old.schema question)
  plainly clean = subst (λ (s : Schema). IsPlain (understood s question)) (sym (was.1 (before clean)).shows.schema) asks_plainly

  settled : HasCleanDisk (state g new) → IsUnchanged (state g old) (state g new) → IsSettled (state g new) rows
  settled clean same = unchanged_settled (state g old) (state g new) rows nothing clean (was.1 (before clean)) same

  lasting : HasCleanDisk (state g new) → IsUnchanged (state g old) (state g new) ⊎ IsRolledBack (state g old) (state g new) → IsLasting (state g new) rows
  lasting clean left = undone_lasting (state g old) (state g new) rows nothing clean (was.1 (before clean)) left

  fails : (fault : ReadFault) → (HasCleanDisk (state g new) → LeavesAt g old new fault) → Fails g new rows fault
  fails (Store e) left = (mode was.0, λ clean. lasting clean (left clean))
  fails NoMemory left = (mode was.0, λ clean. settled clean (left clean))
  fails Damaged left = left

  stays_at : (fault : ReadFault) → (HasCleanDisk (state g new) → RemainsAt g old new fault) → StaysAt g new rows fault
  stays_at (Store e) left = (mode was.0, λ clean. lasting clean (left clean))
  stays_at NoMemory left = (mode was.0, λ clean. settled clean (left clean))
  stays_at Damaged left = (mode was.0, λ clean. settled clean (left clean))

  pub stays : (res : Result ℕ Stop) → (IsPlain (understood old.schema question) → HasCleanDisk (state g new) → Remains g old new res) → Stays g new rows res
  stays (Ok n) left = (mode was.0, λ clean. settled clean (left (plainly clean) clean))
  stays (Err (NotBegun fault)) left = stays_at fault (λ clean. left (plainly clean) clean)
  stays (Err (Broken fault)) left = stays_at fault (λ clean. left (plainly clean) clean)
  stays (Err WriteFailed) left = (mode was.0, λ clean. settled clean (left (plainly clean) clean))

  -- the same, where the deadlines come as a list
  pub found_stays : {X : Type 0} (res : Result X ReadFault) → (IsPlain (understood old.schema question) → HasCleanDisk (state g new) → RemainsAfter g old new res) → FoundStays g new rows res
  found_stays (Ok x) left = (mode was.0, λ clean. settled clean (left (plainly clean) clean))
  found_stays (Err fault) left = stays_at fault (λ clean. left (plainly clean) clean)

module _ {S : Type 0} (g : Ghosts S) (court : CourtSettings) (h : History) (old new : Held S) (is : IsHistoryOf court h) (was : HoldsRows g old (docket_rows court h))
    (mode : old.in_transaction ≡ false → new.in_transaction ≡ false)
    (nothing : Survives (state g old) (state g new) (λ _. ⊥)) where
  -- the result of the question as a result of the tables
  pub gives : {X : Type 0} (answer : X → Type 0) (res : Result X ReadFault) → (HasCleanDisk (state g new) → ComesTo g old new answer res) → Gives g new (docket_rows court h) answer res
  gives answer (Ok x) comes = ((mode was.0, λ clean. settled g (docket_rows court h) old new was mode nothing clean (comes clean).0), λ clean. (comes clean).1)
  gives answer (Err fault) comes = fails g (docket_rows court h) old new was mode nothing fault comes

module _ {S : Type 0} (g : Ghosts S) (court : CourtSettings) (h : History) (from to : ℕ) (front : List ℕ) (u v : Option (List ℕ)) (old new : Held S) (is : IsHistoryOf court h) (was : HoldsRows g old (docket_rows court h))
    (mode : old.in_transaction ≡ false → new.in_transaction ≡ false)
    (nothing : Survives (state g old) (state g new) (λ _. ⊥)) where
  as_settled : HasCleanDisk (state g new) → IsUnchanged (state g old) (state g new) → IsSettled (state g new) (docket_rows court h)
  as_settled = settled g (docket_rows court h) old new was mode nothing

  failing : (fault : ReadFault) → (HasCleanDisk (state g new) → LeavesAt g old new fault) → Fails g new (docket_rows court h) fault
  failing = fails g (docket_rows court h) old new was mode nothing

  pub tells : (res : Result ℕ Stop) → (HasCleanDisk (state g new) → SendsAll g court (calendar_rows court h from to) front u v old new res) → Tells g court h from to front u v new res
  tells (Ok n) sends = ((mode was.0, λ clean. as_settled clean (sends clean).0), λ clean. ((sends clean).1, (sends clean).2))
  tells (Err (NotBegun fault)) sends = (failing fault (λ clean. (sends clean).1), λ clean. (sends clean).0)
  tells (Err (Broken fault)) sends = (failing fault (λ clean. (sends clean).1), λ clean. (sends clean).0)
  tells (Err WriteFailed) sends = ((mode was.0, λ clean. as_settled clean (sends clean).1), λ clean. (sends clean).0)

-- a connection that holds the rows answers by the calendar of the history
pub lists_of : {S : Type 0} (g : Ghosts S) (court : CourtSettings) (h : History) (from to : ℕ) (old : Held S) → IsHistoryOf court h → HoldsRows g old (docket_rows court h) → HasCleanDisk (state g old)
    → Lists question (days_asked from to) court (calendar_in (rows_of court h)) (state g old).now (calendar_rows court h from to)
lists_of g court h from to old is was clean =
    let held = was.1 clean in
    lists court from to (rows_of court h) (calendar_rows court h from to) (state g old).now (listable court h is.settings is.history is.commands) held.shows.schema held.shows.holds (is_calendar court h from to)
