-- From what the tables' questions give to what a question to a docket gives.
use Rattle.std.proofs.Common.{◌≡◌, ◌∙◌, ◌&&◌, ℕ, zero, suc, ◌∷◌, Bool, true, false, List, [], Option, Some, None, length, nat_le, unwrap_or, if◌then◌else◌, Result, Ok, Err, IsErrAnd, refl, sym, ap, subst, arith}
use Rattle.std.specs.Prelude.{MatchResult, is_some}
use Rattle.std.specs.Option.{option_map}
use Rattle.std.proofs.lemmas.List.{length-map}
use Rattle.std.proofs.lemmas.List.Elements.{All-cons, All-nil}
use Rattle.sqlite.specs.Store.{Ghosts}
use Rattle.sqlite.specs.State.{HasCleanDisk}
use Rattle.sqlite.specs.Held.{Held, state}
use Rattle.sqlite.specs.declared.error.Error.{Error}
use Rattle.court_days.specs.Court.{CourtSettings, zone_of}
use Rattle.docket_command.specs.declared.command.Command.{Command}
use Rattle.docket_command.specs.declared.refusal.Reply.{Reply}
use Rattle.docket_decisions.specs.EndRows.{end_rows, end_rows_of}
use Rattle.docket_history.specs.Histories.{History, items_of, standing_rows, case_rows, act_rows, deadline_rows, deadlines, deadlines_of_case}
use Rattle.court_rules.specs.Standings.{AreActs}
use Rattle.docket_history.specs.Records.{calendar, deadline_lines, lines_from}
use Rattle.docket_history.specs.Views.{deadline_at}
use Rattle.docket_decisions.specs.Tables.{case_deadlines, rows_of}
use Rattle.docket_decisions.specs.declared.end_row.StoredEnd.{StoredEnd}
use Rattle.docket_history.specs.declared.item.CalendarItem.{CalendarItem}
use Rattle.docket_history.specs.declared.row.CalendarRow.{CalendarRow}
use Rattle.docket_history.specs.declared.view.DeadlineView.{DeadlineView}
use Rattle.docket_decisions.proofs.Leading.{length-deadlines_from}
use Rattle.docket_decisions.proofs.LimitsKept.{within_limits, lawful_deadlines}
use Rattle.docket_decisions.proofs.Passed.{one_of_all}
use Rattle.docket_applying.specs.Applying.{IsDocket, Stands, Asks, Applies, FailsAs, Keeps, docket_rows}
use Rattle.docket_applying.specs.Dockets.{Docket, serving}
use Rattle.docket_tables.specs.Contents.{ends_of}
use Rattle.docket_applying.specs.Sound.{IsSoundCalendar, IsSoundCase}
use Rattle.docket_tables.proofs.StoredLemmas.{ends_of_all}
use Rattle.docket_applying.specs.Told.{AreEndsBy, IsNotTold}
use Rattle.docket_applying.specs.declared.fault.Fault.{Fault}
use Rattle.docket_applying.specs.declared.fault.Fault.TheVariants.{Refused, NoMemory, StoreFailed, Closed, Damaged}
use Rattle.docket_applying.proofs.ApplyLemmas.{docket_orderly, lasts_from_either}

module _ {S : Type 0} (g : Ghosts S) where
  -- a question that the database did not answer
  pub asks_failed : {X : Type 0} (conn : Held S) (court : CourtSettings) (kept : Option (List CalendarItem)) (h : History) (answer : X → Type 0) (f : Fault) → IsDocket court h
      → (HasCleanDisk (state g conn) → Keeps kept h) → FailsAs g conn (docket_rows court h) (docket_rows court h) f → Asks g (serving conn court kept) h answer (Err f)
  asks_failed conn court kept h answer (Refused r) is keeps fails = absurd fails
  asks_failed conn court kept h answer NoMemory is keeps fails = record { docket = is; serves = refl; rows = fails; calendar = keeps }
  asks_failed conn court kept h answer StoreFailed is keeps fails = lasts_from_either g conn (docket_rows court h) fails
  asks_failed conn court kept h answer Closed is keeps fails = absurd fails
  asks_failed conn court kept h answer Damaged is keeps fails = fails

  -- a docket is closed exactly if its database failed
  pub asks_kept : {X : Type 0} (conn : Held S) (court : CourtSettings) (kept : Option (List CalendarItem)) (h : History) (answer : X → Type 0) (by : Option Error) (result : Result X Fault) → (is_some by ≡ true → result ≡ Err StoreFailed)
      → Asks g (serving conn court kept) h answer result → Asks g (record { conn = conn; court = court; closed = is_some by; closed_by = by; calendar = kept }) h answer result
  asks_kept conn court kept h answer None result failed asks = asks
  asks_kept conn court kept h answer (Some e) result failed asks =
      subst (λ r. Asks g (record { conn = conn; court = court; closed = true; closed_by = Some e; calendar = kept }) h answer r) (sym (failed refl)) (subst (λ r. Asks g (serving conn court kept) h answer r) (failed refl) asks)

  -- the same after a command
  pub applies_kept : (conn : Held S) (court : CourtSettings) (kept : Option (List CalendarItem)) (h : History) (c : Command) (by : Option Error) (result : Result Reply Fault) → (is_some by ≡ true → result ≡ Err StoreFailed)
      → Applies g (serving conn court kept) h c result → Applies g (record { conn = conn; court = court; closed = is_some by; closed_by = by; calendar = kept }) h c result
  applies_kept conn court kept h c None result failed applies = applies
  applies_kept conn court kept h c (Some e) result failed applies =
      subst (λ r. Applies g (record { conn = conn; court = court; closed = true; closed_by = Some e; calendar = kept }) h c r) (sym (failed refl)) (subst (λ r. Applies g (serving conn court kept) h c r) (failed refl) applies)

  -- the same of another question
  pub fault_of_other : {X Y : Type 0} (d : Docket S) (h : History) (P : X → Type 0) (Q : Y → Type 0) (f : Fault) → Asks g d h P (Err f) → Asks g d h Q (Err f)
  fault_of_other d h P Q (Refused r) asks = absurd asks
  fault_of_other d h P Q NoMemory asks = asks
  fault_of_other d h P Q StoreFailed asks = asks
  fault_of_other d h P Q Closed asks = absurd asks
  fault_of_other d h P Q Damaged asks = asks

  -- a question whose part was not answered
  pub asks_err : {X Y : Type 0} (d : Docket S) (h : History) (P : X → Type 0) (Q : Y → Type 0) (f : Fault) (result : Result Y Fault) → IsErrAnd result (λ e. e ≡ f) → Asks g d h P (Err f) → Asks g d h Q result
  asks_err d h P Q f (Ok y) same asks = absurd same
  asks_err d h P Q f (Err e) same asks = subst (λ (k : Fault). Asks g d h Q (Err k)) (sym same) (fault_of_other d h P Q f asks)

  -- the answer, if the docket is sound; and otherwise why there is none
  pub asks_told : {X : Type 0} (d : Docket S) (h : History) (Sound : Type 0) (P answer : X → Type 0) (result : Result X Fault) → Stands g d h
      → (HasCleanDisk (state g d.conn) → Sound) → (HasCleanDisk (state g d.conn) → (x : X) → P x → answer x) → MatchResult result P (IsNotTold Sound) → Asks g d h answer result
  asks_told d h Sound P answer (Ok x) stands sound tells told = (stands, λ clean. tells clean x told)
  asks_told d h Sound P answer (Err (Refused r)) stands sound tells told = absurd told
  asks_told d h Sound P answer (Err NoMemory) stands sound tells told = stands
  asks_told d h Sound P answer (Err StoreFailed) stands sound tells told = absurd told
  asks_told d h Sound P answer (Err Closed) stands sound tells told = absurd told
  asks_told d h Sound P answer (Err Damaged) stands sound tells told = λ clean. told (sound clean)

-- every history shows deadlines of a case that are sound
pub sound_case : (court : CourtSettings) (h : History) (k : ℕ) → IsDocket court h → IsSoundCase court (deadlines k h)
sound_case court h k is =
    let within = within_limits court h is.history in record {
      few = omega (arith, length-deadlines_from k 1 (act_rows h) (deadlines_of_case k (deadline_rows h)), within.deadlines k);
      acts = lawful_deadlines court h within k;
    }

-- and a calendar that is
pub sound_calendar : (court : CourtSettings) (h : History) → IsDocket court h → IsSoundCalendar (items_of (standing_rows h))
sound_calendar court h is =
    let within = within_limits court h is.history in
    (within.items, omega (arith, length-map (standing_rows h) (λ (row : CalendarRow). row.item), within.rows))

-- the docket, with the calendar that stands kept beside its connection
pub keeping : {S : Type 0} (g : Ghosts S) (conn : Held S) (court : CourtSettings) (kept : Option (List CalendarItem)) (items : List CalendarItem) (h : History) → Stands g (serving conn court kept) h
    → (HasCleanDisk (state g conn) → items ≡ items_of (standing_rows h)) → Stands g (serving conn court (Some items)) h
keeping g conn court kept items h stands are = record { docket = stands.docket; serves = refl; rows = stands.rows; calendar = are }

-- and so is a deadline of a case alone
pub sound_deadline : (court : CourtSettings) (h : History) (k n : ℕ) (d : DeadlineView) → IsDocket court h → deadline_at (deadlines k h) n ≡ Some d → IsSoundCase court (d ∷ [])
sound_deadline court h k zero d is at = absurd (cc)
sound_deadline court h k (suc n) d is at =
    let P : DeadlineView → Type 0 = λ (other : DeadlineView). AreActs (zone_of court) other.acts in record {
      few = omega arith;
      acts = All-cons P d [] (one_of_all P (deadlines k h) n d (sound_case court h k is).acts at) (All-nil P);
    }

-- and so are its deadlines with the rows of their ends
pub sound_ends : (court : CourtSettings) (h : History) (k : ℕ) → IsDocket court h → AreEndsBy court (calendar h) k (deadlines k h) (end_rows_of (zone_of court) (calendar h) k (deadlines k h))
sound_ends court h k is = record { sound = sound_case court h k is; same = refl }

-- the rows of a case among those of all deadlines
pub ends_are : (court : CourtSettings) (h : History) (k : ℕ) (rows : List StoredEnd) → IsDocket court h → rows ≡ ends_of k (end_rows court (rows_of court h)) → rows ≡ end_rows_of (zone_of court) (calendar h) k (deadlines k h)
ends_are court h k rows is same = same ∙ ends_of_all court (rows_of court h) k (docket_orderly court h is)

if_mapped : {X Y : Type 0} (f : X → Y) (b : Bool) (x : X) → option_map f (if b then Some x else None) ≡ (if b then Some (f x) else None)
if_mapped f true x = refl
if_mapped f false x = refl

if_some : {X : Type 0} (b : Bool) (x y : X) → (if b then Some x else None) ≡ Some y → y ≡ x
if_some true x y e = ap (λ o. unwrap_or o y) (sym e)
if_some false x y e = absurd (cc)

-- the deadlines of the case that are shown are those of the answer
pub lines_shown : (court : CourtSettings) (h : History) (k : ℕ) → option_map (lines_from court (calendar h) 1) (case_deadlines (rows_of court h) k) ≡ deadline_lines court h k
lines_shown court h k = if_mapped (lines_from court (calendar h) 1) (nat_le 1 k && nat_le k (length (case_rows h))) _

pub deadlines_shown : (court : CourtSettings) (h : History) (k : ℕ) (ds : List DeadlineView) → case_deadlines (rows_of court h) k ≡ Some ds → ds ≡ deadlines k h
deadlines_shown court h k ds e = if_some (nat_le 1 k && nat_le k (length (case_rows h))) _ ds e
