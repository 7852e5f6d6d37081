-- What is left of a docket behind a question, where the answer is a fault that the database did not cause, or a refusal.
use Rattle.std.proofs.Common.{◌≡◌, ◌∙◌, Result, Ok, Err, IsErrAnd, sym, subst}
use Rattle.sqlite.specs.Held.{state}
use Rattle.sqlite.specs.State.{HasCleanDisk}
use Rattle.sqlite.specs.Store.{Ghosts}
use Rattle.docket_command.specs.declared.refusal.Refusal.{Refusal}
use Rattle.docket_history.specs.Histories.{History}
use Rattle.docket_tables.specs.Stands.{Lasts}
use Rattle.docket_applying.specs.Applying.{Asks, Stands, docket_rows}
use Rattle.docket_applying.specs.Dockets.{Docket}
use Rattle.docket_applying.specs.Told.{IsNotTold}
use Rattle.docket_applying.specs.declared.fault.Fault.{Fault}
use Rattle.docket_applying.specs.declared.fault.Fault.TheVariants.{Refused, NoMemory, StoreFailed, Closed, Damaged}
use Rattle.docket_applying.proofs.AnyLemmas.{held_after}
use Rattle.docket_store.specs.Asking.{OnlyAnswers}
use Rattle.docket_questions.proofs.TellLemmas.{is_error, no_error}

no_failure : (Sound : Type 0) (f : Fault) → IsNotTold Sound f → f ≡ StoreFailed → ⊥
no_failure Sound f untold is = subst (IsNotTold Sound) is untold

failed_by : {Y : Type 0} (f : Fault) → ◌≡◌ {A = Result Y Fault} (Err f) (Err StoreFailed) → f ≡ StoreFailed
failed_by f is = cc

module _ {S : Type 0} (g : Ghosts S) (old new : Docket S) where
  -- a fault that the database did not cause, behind an answer
  pub untold_only : {X Y : Type 0} (Sound : Type 0) (x : X) (f : Fault) (r : Result Y Fault) → IsErrAnd r (λ e. e ≡ f) → IsNotTold Sound f → OnlyAnswers g old new (Ok x) → OnlyAnswers g old new r
  untold_only {X} {Y} Sound x f r told untold only =
      let fine : r ≡ Err StoreFailed → ⊥ = λ is. no_failure Sound f untold (failed_by f (sym (is_error r f told) ∙ is)) in record {
        court = only.court;
        closed = λ shut. no_error x Closed (only.closed shut).0;
        stays = λ rows holds. held_after g new.conn rows r (only.stays rows holds);
        writes_nothing = only.writes_nothing;
        clean = only.clean;
        closes = λ serves. (λ shut. no_error x StoreFailed ((only.closes serves).0 shut), λ is. absurd (fine is));
        cause = λ rows holds clean is. absurd (fine is);
      }

  -- a refusal is an answer
  pub refused_only : {X Y : Type 0} (f : Fault) (why : Refusal) (y : Y) → f ≡ Refused why → OnlyAnswers g {X = X} old new (Err f) → OnlyAnswers g old new (Ok y)
  refused_only {X} {Y} f why y is only = by_refusal (subst (λ e. OnlyAnswers g {X = X} old new (Err e)) is only)
    where
      by_refusal : OnlyAnswers g {X = X} old new (Err (Refused why)) → OnlyAnswers g old new (Ok y)
      by_refusal refused = record {
        court = refused.court;
        closed = λ shut. absurd (let no = (refused.closed shut).0 in cc);
        stays = refused.stays;
        writes_nothing = refused.writes_nothing;
        clean = refused.clean;
        closes = λ serves. (λ shut. absurd (let no = (refused.closes serves).0 shut in cc), λ is. no_error y StoreFailed is);
        cause = λ rows holds clean is. no_error y StoreFailed is;
      }

  -- where the database failed under it, a power failure leaves the rows of the docket
  pub failed_lasts : {X : Type 0} (h : History) (f : Fault) → f ≡ StoreFailed → Stands g old h → OnlyAnswers g {X = X} old new (Err f) → Lasts g new.conn (docket_rows new.court h)
  failed_lasts {X} h f is stands only =
      let failed = subst (λ e. OnlyAnswers g {X = X} old new (Err e)) is only in
      subst (λ court. Lasts g new.conn (docket_rows court h)) (sym failed.court) (failed.stays (docket_rows old.court h) stands.rows)

module _ {S : Type 0} (g : Ghosts S) (d : Docket S) (h : History) where
  -- the answer, where what holds of every history was tested
  untold_fault : {Y : Type 0} (P : Y → Type 0) (Sound : Type 0) (f : Fault) → IsNotTold Sound f → Stands g d h → (HasCleanDisk (state g d.conn) → Sound) → Asks g d h P (Err f)
  untold_fault P Sound NoMemory untold stands sound = stands
  untold_fault P Sound Damaged untold stands sound = λ clean. untold (sound clean)
  untold_fault P Sound (Refused why) untold stands sound = absurd untold
  untold_fault P Sound StoreFailed untold stands sound = absurd untold
  untold_fault P Sound Closed untold stands sound = absurd untold

  pub untold_asks : {Y : Type 0} (P : Y → Type 0) (Sound : Type 0) (f : Fault) (r : Result Y Fault) → IsErrAnd r (λ e. e ≡ f) → IsNotTold Sound f → Stands g d h → (HasCleanDisk (state g d.conn) → Sound) → Asks g d h P r
  untold_asks P Sound f r told untold stands sound = subst (λ e. Asks g d h P e) (sym (is_error r f told)) (untold_fault P Sound f untold stands sound)

  -- the same, where it is what holds of every history on a clean disk alone
  untold_clean : {Y : Type 0} (P : Y → Type 0) (Sound Other : Type 0) (f : Fault) → IsNotTold Other f → Stands g d h → (HasCleanDisk (state g d.conn) → IsNotTold Sound f × Sound) → Asks g d h P (Err f)
  untold_clean P Sound Other NoMemory other stands sound = stands
  untold_clean P Sound Other Damaged other stands sound = λ clean. (sound clean).0 (sound clean).1
  untold_clean P Sound Other (Refused why) other stands sound = absurd other
  untold_clean P Sound Other StoreFailed other stands sound = absurd other
  untold_clean P Sound Other Closed other stands sound = absurd other

  pub untold_if_clean : {Y : Type 0} (P : Y → Type 0) (Sound Other : Type 0) (f : Fault) (r : Result Y Fault) → IsErrAnd r (λ e. e ≡ f) → IsNotTold Other f → Stands g d h
      → (HasCleanDisk (state g d.conn) → IsNotTold Sound f × Sound) → Asks g d h P r
  untold_if_clean P Sound Other f r told other stands sound = subst (λ e. Asks g d h P e) (sym (is_error r f told)) (untold_clean P Sound Other f other stands sound)

  -- another answer, where it follows
  pub asks_as : {Y : Type 0} (P Q : Y → Type 0) (r : Result Y Fault) → (HasCleanDisk (state g d.conn) → (y : Y) → P y → Q y) → Asks g d h P r → Asks g d h Q r
  asks_as P Q (Ok y) step asked = (asked.0, λ clean. step clean y (asked.1 clean))
  asks_as P Q (Err NoMemory) step asked = asked
  asks_as P Q (Err StoreFailed) step asked = asked
  asks_as P Q (Err Damaged) step asked = asked
  asks_as P Q (Err (Refused why)) step asked = absurd asked
  asks_as P Q (Err Closed) step asked = absurd asked
