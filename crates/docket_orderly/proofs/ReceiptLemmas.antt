-- The receipts of a docket.
use Rattle.std.proofs.Common.{◌≡◌, ℕ, ◌+◌, ◌≤◌, Bool, true, false, not, cond, Option, Some, None, List, [], ◌∷◌, ◌++◌, length, refl, sym, ap, subst, ◌∙◌, arith, append-nil}
use Rattle.std.proofs.lemmas.Bool.{or_parts}
use Rattle.std.specs.Prelude.{find, bytes_eq, if◌then◌else◌, nat_le, nat_lt, ◌&&◌}
use Rattle.std.specs.List.{AllByRecursion}
use Rattle.std.specs.Option.{option_and_then}
use Rattle.std.proofs.lemmas.Slice.Eq.{bytes_eq-Decides}
use Rattle.std.proofs.lemmas.List.Elements.{filter-append}
use Rattle.court_days.specs.Court.{CourtSettings}
use Rattle.docket_command.specs.Sameness.{is_same_command}
use Rattle.docket_command.specs.declared.command.Action.{Action}
use Rattle.docket_command.specs.declared.command.Action.TheVariants as action
use Rattle.docket_command.specs.declared.choice.Ruling.{Ruling}
use Rattle.docket_command.specs.declared.choice.Ruling.TheVariants.{Denied, Postponed, Statement}
use Rattle.docket_command.specs.declared.command.Command.{Command}
use Rattle.docket_command.specs.declared.refusal.Refusal.{Refusal}
use Rattle.docket_command.specs.declared.refusal.Refusal.TheVariants as refusal
use Rattle.docket_command.specs.declared.refusal.Reply.{Reply}
use Rattle.docket_history.specs.Actions.{enters, imports, shortens, withdraws, CaseReply, its_party, its_entry, its_first_deadline, this_deadline, whether_in_time, ruling_reply, Work, on_calendar, opens, enters_rule, in_case, work, case_named, asks_deadlines, if_asked}
use Rattle.docket_history.specs.CalendarItems.{fresh, calendar_of}
use Rattle.docket_history.specs.Histories.{History, case_rows, deadline_rows, act_rows, deadlines_of_case, deadlines}
use Rattle.docket_history.specs.Limits.{IsWithinLimits}
use Rattle.docket_decisions.specs.Outcomes.{IsHistory, accepted, answer_kept, answer_by, repeated, refused, case_of_number, under_key, kept_by, receipts, case_reply, reply_by, reply_to, replied, shown, shown_fresh}
use Rattle.docket_decisions.specs.Refusals.{on, on_value, first_some, is_reused, exists_by, exists_already, is_full_by, is_full, refusal_of, state_refusals}
use Rattle.docket_history.specs.Times.{standing_shown, is_in_time}
use Rattle.docket_history.specs.Views.{parties_in, entries_in, count_deadlines}
use Rattle.docket_decisions.specs.Values.{is_word, first_bad, bad_values}
use Rattle.docket_history.specs.declared.row.Receipt.{Receipt}
use Rattle.docket_history.specs.declared.view.Kept.{Kept}
use Rattle.docket_history.specs.declared.view.Kept.TheVariants.{Fresh, Same, Other}
use Rattle.docket_history.specs.declared.view.View.{View}
use Rattle.docket_decisions.proofs.Leading.{is_accepted, case_numbered, length-deadlines_from}
use Rattle.docket_decisions.proofs.LimitsKept.{within_limits}
use Rattle.docket_decisions.proofs.Passed.{is_free, row_fits, not_above, not_at}
use Rattle.docket_decisions.proofs.ListLemmas.{all_both}
use Rattle.docket_wire.specs.Valid.{IsAction, IsCommand}
use Rattle.docket_columns.specs.Fits.{IsCount, IsReceipt}
use Rattle.docket_orderly.specs.Orderly.{receipts_under}

-- what is accepted has a fresh key
not_reused : (b c : Bool) (r s : Refusal) (rest : List (Option Refusal)) → first_some (on b r ∷ on c s ∷ rest) ≡ None → c ≡ false
not_reused true c r s rest e = absurd (cc)
not_reused false true r s rest e = absurd (cc)
not_reused false false r s rest e = refl

accepts : (court : CourtSettings) (o : Option Refusal) (v : View) (c : Command) (reply : Reply) → answer_by court v c.action o ≡ accepted reply → o ≡ None
accepts court None v c reply e = refl
accepts court (Some r) v c reply e = absurd (let clash : refused r ≡ accepted reply = e in cc)

pub fresh_by : (court : CourtSettings) (k : Kept) (v : View) (c : Command) (reply : Reply) → v.under_key ≡ k → answer_kept court k v c ≡ accepted reply → k ≡ Fresh
fresh_by court Fresh v c reply is e = refl
fresh_by court (Same old) v c reply is e = absurd (let clash : repeated old ≡ accepted reply = e in cc)
fresh_by court Other v c reply is e =
    let off : is_reused v.under_key ≡ false = not_reused (not (is_word 64 c.key)) (is_reused v.under_key) refusal.BadKey refusal.KeyReused (on_value (first_bad (bad_values court c.action)) ∷ state_refusals court v c.action) (accepts court (refusal_of court v c) v c reply e) in
    absurd (let clash : true ≡ false = sym (ap is_reused is) ∙ off in cc)

pub none_found : (o : Option Receipt) (c : Command) → kept_by o c ≡ Fresh → o ≡ None
none_found None c e = refl
none_found (Some r) c e = absurd (by_test (is_same_command r.command c) e)
  where
    by_test : (b : Bool) → (if b then Same r.reply else Other) ≡ Fresh → ⊥
    by_test true e = cc
    by_test false e = cc

none_if : (b : Bool) (row : Receipt) (found : Option Receipt) (rest : List Receipt) → cond b (Some row) found ≡ None → (found ≡ None → rest ≡ []) → cond b (row ∷ rest) rest ≡ []
none_if true row found rest e none = absurd (cc)
none_if false row found rest e none = none e

none_under : (key : List ℕ) (rows : List Receipt) → find (λ r. bytes_eq r.command.key key) rows ≡ None → receipts_under key rows ≡ []
none_under key [] e = refl
none_under key (row ∷ rows) e = none_if (bytes_eq row.command.key key) row (find (λ r. bytes_eq r.command.key key) rows) (receipts_under key rows) e (none_under key rows)

one_if : (rows : List Receipt) (new : Receipt) (key : List ℕ) → receipts_under new.command.key rows ≡ [] → length (receipts_under key rows) ≤ 1 → length (receipts_under key (rows ++ new ∷ [])) ≤ 1
one_if rows new key none few = subst (λ (all : List Receipt). length all ≤ 1) (sym (filter-append (λ (row : Receipt). bytes_eq row.command.key key) rows (new ∷ []))) (at (bytes_eq new.command.key key) refl)
  where
    at : (b : Bool) → bytes_eq new.command.key key ≡ b → length (receipts_under key rows ++ cond b (new ∷ []) []) ≤ 1
    at true e =
        let gone : receipts_under key rows ≡ [] = subst (λ k. receipts_under k rows ≡ []) ((bytes_eq-Decides new.command.key key).0 e) none in
        subst (λ (all : List Receipt). length (all ++ new ∷ []) ≤ 1) (sym gone) (omega arith)
    at false e = subst (λ (all : List Receipt). length all ≤ 1) (sym (append-nil (receipts_under key rows))) few

pub one_receipt : (court : CourtSettings) (h : History) → IsHistory court h → (key : List ℕ) → length (receipts_under key (receipts court h)) ≤ 1
one_receipt court [] is key = omega arith
one_receipt court (c ∷ h) is key =
    let v = shown court h c in
    let fresh : under_key (receipts court h) c ≡ Fresh = fresh_by court v.under_key v c is.0.0 refl is.0.1 in
    one_if (receipts court h) (record { command = c; reply = replied (reply_to court (shown_fresh h c.action) c.action) }) key
    (none_under c.key (receipts court h) (none_found _ c fresh)) (one_receipt court h is.1 key)

-- replies are counts
few_asked : (asked : Bool) (count : ℕ) → count ≤ 1000 → if_asked asked count ≤ 1000
few_asked true count few = few
few_asked false count few = omega arith

some_deadlines : (h : History) (a : Action) (k : ℕ) (b : Bool) → length (deadlines_of_case k (deadline_rows h)) ≤ 1000 → count_deadlines (if b then Some (case_numbered h a k) else None) ≤ 1000
some_deadlines h a k true few = few_asked (asks_deadlines a) (length (deadlines k h)) (omega (arith, few, length-deadlines_from k 1 (act_rows h) (deadlines_of_case k (deadline_rows h))))
some_deadlines h a k false few = omega arith

few_deadlines : (h : History) (a : Action) (o : Option ℕ) → ((k : ℕ) → length (deadlines_of_case k (deadline_rows h)) ≤ 1000) → count_deadlines (option_and_then (case_of_number h a) o) ≤ 1000
few_deadlines h a None few = omega arith
few_deadlines h a (Some k) few = some_deadlines h a k (nat_le 1 k && nat_le k (length (case_rows h))) (few k)

-- of what is done to the calendar, that a case is opened or a local rule entered, the number of a row that is withdrawn apart; and of
-- what makes deadlines in a case, the number of the first
abbrev IsFirst : CaseReply → Type 0
IsFirst its_first_deadline = Unit {0}
IsFirst _ = ⊥

abbrev IsNumbered : Work → Type 0
IsNumbered (on_calendar (withdraws number)) = IsCount number
IsNumbered (on_calendar _) = Unit {0}
IsNumbered (opens case) = Unit {0}
IsNumbered (enters_rule rule) = Unit {0}
IsNumbered (in_case work) = IsFirst work.reply

module _ (court : CourtSettings) (v : View) (few : count_deadlines v.case ≤ 1000) where
  first_counts : (reply : CaseReply) → IsFirst reply → IsCount (case_reply court v reply)
  first_counts its_first_deadline is = omega (arith, few)
  first_counts its_party is = absurd is
  first_counts its_entry is = absurd is
  first_counts (this_deadline n) is = absurd is
  first_counts (whether_in_time at way) is = absurd is

  made_counts : (w : Work) (a : Action) → IsNumbered w → exists_by v w ≡ false → is_full_by v a w ≡ false → IsCount (reply_by court v w)
  made_counts (on_calendar (enters row)) a is new room = omega (arith, row_fits v (on_calendar (enters row)) refl new a room)
  made_counts (on_calendar (imports rows)) a is new room =
      let added = length (fresh v.calendar rows) in
      omega (arith, not_above 4000 (length v.calendar + added) (or_parts (nat_lt 4000 (length v.calendar + added)) (nat_lt 4_294_967_296 (v.next_row + added)) room).0)
  made_counts (on_calendar (shortens short)) a is new room = omega (arith, row_fits v (on_calendar (shortens short)) refl new a room)
  made_counts (on_calendar (withdraws number)) a is new room = is
  made_counts (opens case) a is new room = let few_cases = not_at 100_000 v.cases room in omega (arith, few_cases)
  made_counts (enters_rule rule) a is new room = let few_rules = not_at 1000 v.local_rules room in omega (arith, few_rules)
  made_counts (in_case work) a is new room = first_counts work.reply is

either : (b : Bool) (m n : ℕ) → IsCount m → IsCount n → IsCount (if b then m else n)
either true m n one other = one
either false m n one other = other

ruled_counts : (court : CourtSettings) (v : View) (outcome : Ruling) (n : ℕ) → count_deadlines v.case ≤ 1000 → IsCount n → IsCount (case_reply court v (ruling_reply outcome n))
ruled_counts court v Statement n few is = omega (arith, few)
ruled_counts court v Denied n few is = is
ruled_counts court v Postponed n few is = is

reply_counts : (court : CourtSettings) (h : History) (a : Action) → IsWithinLimits court h → IsAction a → exists_already (shown_fresh h a) a ≡ false → is_full (shown_fresh h a) a ≡ false → IsCount (reply_to court (shown_fresh h a) a)
unfolding IsAction
reply_counts court h (action.WithdrawCalendar a) within is new room = is.0
reply_counts court h (action.AddParty a) within is new room = let few = not_at 1000 (parties_in (shown_fresh h (action.AddParty a)).case) room in omega (arith, few)
reply_counts court h (action.FileEntry a) within is new room = let few = not_at 10_000 (entries_in (shown_fresh h (action.FileEntry a)).case) room in omega (arith, few)
reply_counts court h (action.RuleMotion a) within is new room = is.1.0
reply_counts court h (action.Dispose a) within is new room =
    ruled_counts court (shown_fresh h (action.Dispose a)) a.outcome a.deadline (few_deadlines h (action.Dispose a) (Some a.case) within.deadlines) is.1.0
reply_counts court h (action.StatementServed a) within is new room = is.1.0
reply_counts court h (action.Extend a) within is new room = is.1.0
reply_counts court h (action.Satisfy a) within is new room =
    either (is_in_time court (calendar_of (shown_fresh h (action.Satisfy a)).calendar) (standing_shown court (shown_fresh h (action.Satisfy a))) a.at a.way) 1 0 (omega arith) (omega arith)
reply_counts court h (action.Vacate a) within is new room = is.1.0
reply_counts court h a within is new room = made_counts court (shown_fresh h a) (few_deadlines h a (case_named a) within.deadlines) (work a) a tt new room

pub receipts_held : (court : CourtSettings) (h : History) → IsHistory court h → AllByRecursion IsCommand h → AllByRecursion IsReceipt (receipts court h)
receipts_held court [] is all = tt
receipts_held court (c ∷ h) is all =
    let free = is_free court (shown court h c) c (is_accepted court (shown court h c) c is.0.0 is.0.1).free in
    all_both IsReceipt (receipts court h) _ (receipts_held court h is.1 all.1)
    ((all.0, reply_counts court h c.action (within_limits court h is.1) all.0.1 free.new free.room), tt)
