-- What a question leaves whose answer comes from several questions to the docket.
use Rattle.std.proofs.Common.{◌≡◌, ◌∙◌, ◌≤◌, ℕ, Bool, true, false, Result, Ok, Err, IsErrAnd, refl, sym, ap, subst, arith}
use Rattle.sqlite.specs.Held.{state}
use Rattle.sqlite.specs.State.{HasCleanDisk}
use Rattle.sqlite.specs.Store.{Ghosts}
use Rattle.docket_history.specs.Histories.{History}
use Rattle.docket_applying.specs.Applying.{Asks, Stands}
use Rattle.docket_applying.specs.Dockets.{Docket}
use Rattle.docket_applying.specs.declared.fault.Fault.{Fault}
use Rattle.docket_applying.specs.declared.fault.Fault.TheVariants.{Closed, Damaged, NoMemory, Refused, StoreFailed}
use Rattle.docket_tables.specs.declared.fault.ReadFault.TheVariants.{Store}
use Rattle.docket_tables.proofs.NothingLemmas.{nothing_called, nothing_then}
use Rattle.docket_tables.proofs.PassedCauses.{fault_after}
use Rattle.docket_applying.proofs.AnyLemmas.{held_after}
use Rattle.docket_store.specs.Asking.{OnlyAnswers}

-- what was clean after a question was so before it
pub clean_before : (before now : ℕ) → before ≤ now → now ≡ 0 → before ≡ 0
clean_before before now less clean = omega (arith, less, clean)

not_true : (b : Bool) → (b ≡ true → ⊥) → b ≡ false
not_true true never = absurd (never refl)
not_true false never = refl

-- an answer is no error
pub no_error : {X A : Type 0} (x : X) (f : Fault) → ◌≡◌ {A = Result X Fault} (Ok x) (Err f) → A
no_error x f is = absurd (cc)

-- an error that is passed on
pub is_error : {X : Type 0} (r : Result X Fault) (f : Fault) → IsErrAnd r (λ e. e ≡ f) → r ≡ Err f
is_error (Ok x) f told = absurd told
is_error (Err e) f told = ap Err told

same_error : {X Y : Type 0} (f e : Fault) → ◌≡◌ {A = Result X Fault} (Err f) (Err e) → ◌≡◌ {A = Result Y Fault} (Err f) (Err e)
same_error f e is = let same : f ≡ e = cc in ap Err same

-- neither a damaged docket nor running out of memory is a failure of the database
no_damage : {X : Type 0} → ◌≡◌ {A = Result X Fault} (Err Damaged) (Err StoreFailed) → ⊥
no_damage is = let same : Damaged ≡ StoreFailed = cc in absurd (cc)

pub short_fine : {X : Type 0} (r : Result X Fault) → IsErrAnd r (λ e. e ≡ NoMemory) → r ≡ Err StoreFailed → ⊥
short_fine (Ok x) told is = absurd told
short_fine (Err e) told is = let same : e ≡ StoreFailed = cc in let short : NoMemory ≡ StoreFailed = sym told ∙ same in absurd (cc)

module _ {S : Type 0} (g : Ghosts S) (old new : Docket S) where
  -- a docket that is not closed, and no question to it
  pub none_told : {X : Type 0} (x : X) → new ≡ old → old.closed ≡ false → OnlyAnswers g old new (Ok x)
  none_told x same serves =
      subst (λ (d : Docket S). OnlyAnswers g old d (Ok x)) (sym same) (record {
        court = refl;
        closed = λ shut. let never : true ≡ false = sym shut ∙ serves in absurd (cc);
        stays = λ rows holds. holds;
        writes_nothing = nothing_called;
        clean = omega arith;
        closes = λ _. (λ shut. let never : true ≡ false = sym shut ∙ serves in absurd (cc), λ is. no_error x StoreFailed is);
        cause = λ rows holds clean is. no_error x StoreFailed is;
      })

  -- an error that is passed on, whatever was asked for
  error_told : {X Y : Type 0} (f : Fault) → OnlyAnswers g {X = X} old new (Err f) → OnlyAnswers g {X = Y} old new (Err f)
  error_told {X} {Y} f only = record {
    court = only.court;
    closed = λ shut. let closed = only.closed shut in (same_error f Closed closed.0, closed.1);
    stays = only.stays;
    writes_nothing = only.writes_nothing;
    clean = only.clean;
    closes = λ serves. let closes = only.closes serves in (λ shut. same_error f StoreFailed (closes.0 shut), λ is. closes.1 (same_error f StoreFailed is));
    cause = λ rows holds clean is. only.cause rows holds clean (same_error f StoreFailed is);
  }

  pub passed_told : {X Y : Type 0} (f : Fault) (r : Result Y Fault) → IsErrAnd r (λ e. e ≡ f) → OnlyAnswers g {X = X} old new (Err f) → OnlyAnswers g old new r
  passed_told {X} {Y} f r told only = subst (λ (e : Result Y Fault). OnlyAnswers g old new e) (sym (is_error r f told)) (error_told f only)

  -- a docket that answered was not closed, and is not closed
  pub open_before : {X : Type 0} (x : X) → OnlyAnswers g old new (Ok x) → old.closed ≡ false
  open_before x only = not_true old.closed (λ shut. no_error x Closed (only.closed shut).0)

  pub open_after : {X : Type 0} (x : X) → OnlyAnswers g old new (Ok x) → new.closed ≡ false
  open_after x only = not_true new.closed (λ shut. no_error x StoreFailed ((only.closes (open_before x only)).0 shut))

  -- another result behind an answer, but that the database failed
  other_told : {X Y : Type 0} (x : X) (r : Result Y Fault) → (r ≡ Err StoreFailed → ⊥) → OnlyAnswers g old new (Ok x) → OnlyAnswers g old new r
  other_told x r fine only = record {
    court = only.court;
    closed = λ shut. no_error x Closed (only.closed shut).0;
    stays = λ rows holds. held_after g new.conn rows r (only.stays rows holds);
    writes_nothing = only.writes_nothing;
    clean = only.clean;
    closes = λ serves. (λ shut. no_error x StoreFailed ((only.closes serves).0 shut), λ is. absurd (fine is));
    cause = λ rows holds clean is. absurd (fine is);
  }

  -- another answer
  pub same_told : {X Y : Type 0} (x : X) (y : Y) → OnlyAnswers g old new (Ok x) → OnlyAnswers g old new (Ok y)
  same_told x y only = other_told x (Ok y) (λ is. no_error y StoreFailed is) only

  -- the docket proved damaged behind an answer
  pub damaged_told : {X Y : Type 0} (x : X) → OnlyAnswers g old new (Ok x) → OnlyAnswers g {X = Y} old new (Err Damaged)
  damaged_told {X} {Y} x only = other_told x (Err Damaged) (λ is. no_damage {X = Y} is) only

  -- memory ran out behind an answer
  pub short_told : {X Y : Type 0} (x : X) (r : Result Y Fault) → IsErrAnd r (λ e. e ≡ NoMemory) → OnlyAnswers g old new (Ok x) → OnlyAnswers g old new r
  short_told x r told only = other_told x r (short_fine r told) only

-- two questions in a row, the second to a docket that is not closed
pub then_told : {S : Type 0} (g : Ghosts S) (old mid new : Docket S) {X Y : Type 0} (x : X) (r : Result Y Fault) → OnlyAnswers g old mid (Ok x) → (mid.closed ≡ false → OnlyAnswers g mid new r)
    → OnlyAnswers g old new r
then_told g old mid new x r first second =
    let serves = open_after g old mid x first in
    let then = second serves in
    record {
      court = then.court ∙ first.court;
      closed = λ shut. no_error x Closed (first.closed shut).0;
      stays = λ rows holds. then.stays rows (first.stays rows holds);
      writes_nothing = nothing_then first.writes_nothing then.writes_nothing;
      clean = omega (arith, first.clean, then.clean);
      closes = λ _. then.closes serves;
      cause = λ rows holds clean is.
          let why = then.cause rows (first.stays rows holds) clean is in
          (why.0, why.1, fault_after (state g old.conn) (state g mid.conn) (state g new.conn) (Store why.0) first.writes_nothing.counts first.writes_nothing.limit why.2);
    }

module _ {S : Type 0} (g : Ghosts S) (d : Docket S) (h : History) where
  -- the answer of a docket, when an error is passed on
  pub passed_asks : {Y : Type 0} (P : Y → Type 0) (f : Fault) (r : Result Y Fault) → IsErrAnd r (λ e. e ≡ f) → Asks g d h P (Err f) → Asks g d h P r
  passed_asks {Y} P f r told left = subst (λ (e : Result Y Fault). Asks g d h P e) (sym (is_error r f told)) left

  -- and when memory ran out
  pub short_asks : {Y : Type 0} (P : Y → Type 0) (r : Result Y Fault) → IsErrAnd r (λ e. e ≡ NoMemory) → Stands g d h → Asks g d h P r
  short_asks P r told stands = passed_asks P NoMemory r told stands

  -- and what follows from an answer
  pub asks_more : {Y : Type 0} (P Q : Y → Type 0) (r : Result Y Fault) → (HasCleanDisk (state g d.conn) → (y : Y) → P y → Q y) → Asks g d h P r → Asks g d h Q r
  asks_more P Q (Ok y) so left = (left.0, λ clean. so clean y (left.1 clean))
  asks_more P Q (Err (Refused refusal)) so left = left
  asks_more P Q (Err NoMemory) so left = left
  asks_more P Q (Err StoreFailed) so left = left
  asks_more P Q (Err Closed) so left = left
  asks_more P Q (Err Damaged) so left = left
