-- The tables of a docket are sound, and a deadline that gets an act stands in them.
use Rattle.std.proofs.Common.{◌≡◌, ◌∙◌, ◌≤◌, ◌<◌, inl, inr, ◌==◌, ◌&&◌, ℕ, zero, suc, Bool, true, false, cond, nat_lt, List, [], ◌∷◌, length, refl, ap, arith, length-append}
use Rattle.std.proofs.lemmas.Bool.Decides.{nat_tests}
use Rattle.std.proofs.lemmas.List.{length-map}
use Rattle.court_days.specs.Court.{CourtSettings}
use Rattle.docket_command.specs.declared.command.Command.{Command}
use Rattle.docket_command.specs.declared.refusal.Reply.{Reply}
use Rattle.docket_decisions.specs.Additions.{GetsAct}
use Rattle.docket_decisions.specs.Outcomes.{IsHistory}
use Rattle.docket_decisions.specs.Tables.{Tables, rows_of, changed, all_changed, with_receipt}
use Rattle.docket_history.specs.Histories.{History, standing_rows, deadline_rows, act_rows, deadlines_of_case, acts_of_deadline}
use Rattle.docket_history.specs.declared.row.ActRow.{ActRow}
use Rattle.docket_history.specs.declared.row.CalendarRow.{CalendarRow}
use Rattle.docket_history.specs.declared.row.Change.{Change}
use Rattle.docket_history.specs.declared.row.Change.TheVariants.{AddAct}
use Rattle.docket_decisions.proofs.ActsKept.{acts_more}
use Rattle.docket_decisions.proofs.Leading.{length-deadlines_from}
use Rattle.docket_decisions.proofs.LimitsKept.{all_kept, within_limits, lawful_deadlines}
use Rattle.docket_orderly.proofs.ParentLemmas.{deadline_stands}
use Rattle.docket_orderly.specs.Additions.{HasDeadline}
use Rattle.docket_applying.specs.Sound.{AreSound}

-- the calendar of a history and the deadlines of its cases are sound
pub sound_docket : (court : CourtSettings) (h : History) → IsHistory court h → AreSound court (rows_of court h)
sound_docket court h is =
    let within = within_limits court h is in record {
      calendar = (within.items, omega (arith, length-map (standing_rows h) (λ (row : CalendarRow). row.item), within.rows));
      cases = λ k. record {
        few = omega (arith, length-deadlines_from k 1 (act_rows h) (deadlines_of_case k (deadline_rows h)), within.deadlines k);
        acts = lawful_deadlines court h within k;
      };
    }

-- each act of a history has its deadline there
pub acts_have_deadlines : (court : CourtSettings) (h : History) (k n : ℕ) → IsHistory court h → 1 ≤ length (acts_of_deadline k n (act_rows h)) → HasDeadline (rows_of court h) k n
acts_have_deadlines court h k zero is some = absurd (let none = ap length ((all_kept court h is k 0).absent (inl refl)) in omega (arith, some, none))
acts_have_deadlines court h k (suc m) is some = at (nat_lt (length (deadlines_of_case k (deadline_rows h))) (suc m)) refl
  where
    at : (b : Bool) → nat_lt (length (deadlines_of_case k (deadline_rows h))) (suc m) ≡ b → HasDeadline (rows_of court h) k (suc m)
    at true past =
        let above : length (deadlines_of_case k (deadline_rows h)) < suc m = grind (arith, nat_tests, past) in
        let none = ap length ((all_kept court h is k (suc m)).absent (inr above)) in
        absurd (omega (arith, some, none))
    at false among = deadline_stands court h k (suc m) (omega arith) (grind (arith, nat_tests, among))

-- an act that is there stays
act_kept : (x : Change) (t : Tables) (k n : ℕ) → 1 ≤ length (acts_of_deadline k n t.acts) → 1 ≤ length (acts_of_deadline k n (changed x t).acts)
act_kept (AddAct row) t k n some =
    let more = ap length (acts_more t.acts row k n) ∙ length-append (acts_of_deadline k n t.acts) (cond (row.case == k && row.deadline == n) (row.act ∷ []) []) in
    omega (arith, some, more)
act_kept _ t k n some = some

acts_kept : (xs : List Change) (t : Tables) (k n : ℕ) → 1 ≤ length (acts_of_deadline k n t.acts) → 1 ≤ length (acts_of_deadline k n (all_changed xs t).acts)
acts_kept [] t k n some = some
acts_kept (x ∷ xs) t k n some = acts_kept xs (changed x t) k n (act_kept x t k n some)

-- an act that is added is there
act_added : (t : Tables) (row : ActRow) (k n : ℕ) → (row.case ≡ k) × (row.deadline ≡ n) → 1 ≤ length (acts_of_deadline k n (changed (AddAct row) t).acts)
act_added t row k n is =
    let here : (row.case == k && row.deadline == n) ≡ true = grind (arith, nat_tests, is.0, is.1) in
    let one = ap (λ (b : Bool). length (cond b (row.act ∷ []) [])) here in
    let more = ap length (acts_more t.acts row k n) ∙ length-append (acts_of_deadline k n t.acts) (cond (row.case == k && row.deadline == n) (row.act ∷ []) []) in
    omega (arith, one, more)

gets_act : (xs : List Change) (t : Tables) (k n : ℕ) → GetsAct xs k n → 1 ≤ length (acts_of_deadline k n (all_changed xs t).acts)
gets_act [] t k n gets = absurd gets
gets_act (AddAct row ∷ xs) t k n gets = elim gets [
  | inl is ↦ acts_kept xs (changed (AddAct row) t) k n (act_added t row k n is)
  | inr later ↦ gets_act xs (changed (AddAct row) t) k n later
]
gets_act (x ∷ xs) t k n gets = gets_act xs (changed x t) k n gets

-- a deadline that gets an act stands after the command
pub gets_deadline : (court : CourtSettings) (h : History) (c : Command) (reply : Reply) (changes : List Change) → IsHistory court (c ∷ h)
    → with_receipt c reply (all_changed changes (rows_of court h)) ≡ rows_of court (c ∷ h) → (k n : ℕ) → GetsAct changes k n → HasDeadline (rows_of court (c ∷ h)) k n
gets_deadline court h c reply changes is leads k n gets =
    let same = ap (λ (t : Tables). length (acts_of_deadline k n t.acts)) leads in
    acts_have_deadlines court (c ∷ h) k n is (omega (arith, same, gets_act changes (rows_of court h) k n gets))
