-- From the result of a question to the tables to that of a question to the docket.
use Rattle.std.proofs.Common.{◌≡◌, ◌∙◌, ◌≤◌, ◌↔◌, true, List, Option, Some, None, Result, Ok, Err, IsErrAnd, refl, sym, ap, subst, arith}
use Rattle.std.specs.Prelude.{is_some}
use Rattle.sqlite.specs.Store.{Ghosts}
use Rattle.sqlite.specs.State.{HasCleanDisk}
use Rattle.sqlite.specs.Held.{Held, state}
use Rattle.sqlite.specs.View.{doubt}
use Rattle.sqlite.specs.declared.error.Error.{Error}
use Rattle.court_days.specs.Court.{CourtSettings}
use Rattle.docket_command.specs.declared.command.Command.{Command}
use Rattle.docket_decisions.specs.declared.decision.Decision.{Decision}
use Rattle.docket_history.specs.Histories.{History}
use Rattle.docket_history.specs.declared.item.CalendarItem.{CalendarItem}
use Rattle.docket_tables.specs.Layouts.{Rows}
use Rattle.docket_tables.specs.Readings.{Fails, Gives}
use Rattle.docket_tables.specs.declared.fault.ReadFault.{ReadFault}
use Rattle.docket_applying.specs.Applying.{Asks, FailsAs, IsDocket, Judges, Keeps, docket_rows}
use Rattle.docket_applying.specs.Dockets.{Docket, serving}
use Rattle.docket_applying.specs.declared.fault.Fault.{Fault}
use Rattle.docket_applying.specs.declared.fault.Fault.TheVariants.{StoreFailed}
use Rattle.docket_applying.proofs.AskLemmas.{asks_failed, asks_kept}

abbrev error_in : {X E : Type 0} → E → Result X E → E
error_in other (Ok x) = other
error_in other (Err e) = e

pub same_error : {X E : Type 0} (result : Result X E) (a b : E) → result ≡ Err a → result ≡ Err b → a ≡ b
same_error result a b one other = sym (ap (error_in a) one) ∙ ap (error_in a) other

module _ {S : Type 0} (g : Ghosts S) (court : CourtSettings) (kept : Option (List CalendarItem)) (h : History) where
  abbrev left : Held S → Option Error → Docket S
  left conn by = record { conn = conn; court = court; closed = is_some by; closed_by = by; calendar = kept }

  answered : {X : Type 0} (conn new : Held S) (P : X → Type 0) (x : X) (by : Option Error) (result : Result X Fault) → result ≡ Ok x → new ≡ conn → by ≡ None
      → Asks g (serving conn court kept) h P (Ok x) → Asks g (left new by) h P result
  answered conn new P x by result is same none asks =
      subst (λ r. Asks g (left new by) h P r) (sym is) (subst (λ n. Asks g (left n by) h P (Ok x)) (sym same) (subst (λ b. Asks g (left conn b) h P (Ok x)) (sym none) asks))

  unanswered : {X : Type 0} (new : Held S) (P : X → Type 0) (by : Option Error) (result : Result X Fault) → IsDocket court h → (HasCleanDisk (state g new) → Keeps kept h)
      → (is_some by ≡ true → result ≡ Err StoreFailed) → IsErrAnd result (FailsAs g new (docket_rows court h) (docket_rows court h)) → Asks g (left new by) h P result
  unanswered new P by (Ok x) is keeps closes fails = absurd fails
  unanswered new P by (Err f) is keeps closes fails = asks_kept g new court kept h P by (Err f) closes (asks_failed g new court kept h P f is keeps fails)

  -- what a question returns: conn is the connection after it, and new the one that is left
  pub question_asks : {X : Type 0} (conn new : Held S) (P : X → Type 0) (answer : Result X ReadFault) (by : Option Error) (result : Result X Fault) → IsDocket court h
      → (HasCleanDisk (state g conn) → Keeps kept h) → doubt (state g conn).is_clean ≤ doubt (state g new).is_clean → Gives g conn (docket_rows court h) P answer
      → ((x : X) → answer ≡ Ok x → (result ≡ Ok x) × (new ≡ conn) × (by ≡ None))
      → ((why : ReadFault) (rows next : Rows) → answer ≡ Err why → Fails g conn rows why → IsErrAnd result (FailsAs g new rows next))
      → ((is_some by ≡ true) ↔ (result ≡ Err StoreFailed)) → Asks g (left new by) h P result
  question_asks conn new P (Ok x) by result is keeps clean gives ok err closes =
      let it = ok x refl in
      answered conn new P x by result it.0 it.1 it.2 (record { docket = is; serves = refl; rows = gives.0; calendar = keeps }, gives.1)
  question_asks conn new P (Err why) by result is keeps clean gives ok err closes =
      unanswered new P by result is (λ now. keeps (omega (arith, clean, now))) closes.0 (err why (docket_rows court h) (docket_rows court h) refl gives)

  -- what deciding a command returns: a docket is closed exactly if its database failed
  pub judges_kept : (c : Command) (conn : Held S) (by : Option Error) (result : Result Decision Fault) → (is_some by ≡ true → result ≡ Err StoreFailed)
      → Judges g (serving conn court kept) h c result → Judges g (left conn by) h c result
  judges_kept c conn None result failed judges = judges
  judges_kept c conn (Some e) result failed judges =
      subst (λ r. Judges g (left conn (Some e)) h c r) (sym (failed refl)) (subst (λ r. Judges g (serving conn court kept) h c r) (failed refl) judges)
