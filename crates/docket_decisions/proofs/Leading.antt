-- The changes of a command lead from the tables of a history to those with the command.
use Rattle.std.proofs.Common.{◌≡◌, ℕ, suc, zero, ◌+◌, Bool, true, false, Option, Some, None, List, [], ◌∷◌, ◌++◌, map, length, refl, sym, ap, ◌∙◌, append_assoc, append-nil, add-zero, arith, inl, inr, ⊎_elim, subst}
use Rattle.std.specs.Prelude.{slice_get, unwrap_or, is_some, is_none, nat_le, ◌&&◌, ◌⊎◌, if◌then◌else◌, IfOk, Result, Ok, Err}
use Rattle.std.specs.Option.{option_and_then}
use Rattle.court_days.specs.Court.{CourtSettings}
use Rattle.docket_command.specs.declared.command.Command.{Command}
use Rattle.docket_command.specs.declared.command.Action.{Action}
use Rattle.docket_command.specs.declared.command.Action.TheVariants.{LocalPeriod}
use Rattle.docket_command.specs.declared.refusal.Refusal.{Refusal}
use Rattle.docket_command.specs.declared.refusal.Reply.{Reply}
use Rattle.docket_history.specs.Actions.{case_named, deadline_named, deadlines_made, row_withdrawn}
use Rattle.docket_decisions.specs.Decisions.{IsAnswer, IsChange, LeadsTo}
use Rattle.docket_history.specs.Histories.{History, standing_rows, next_row, items_of, numbered, rows_added, case_rows, party_rows, entry_rows, deadline_rows, act_rows, without_row, new_party, new_entry, later_acts, case_number, deadline_number, parties_of_case, entries_of_case, deadlines_of_case, acts_of_deadline, deadlines_from, deadlines, first_acts_from, act_rows_on, deadline_rows_from, local_rule_rows, rule_found}
use Rattle.docket_decisions.specs.Outcomes.{reply_to, replied, shown, shown_fresh, case_of_number, answer_kept, answer_by, answer_of, repeated, refused, accepted}
use Rattle.docket_decisions.specs.Refusals.{lacks_case, lacks_deadline, refusal_of}
use Rattle.docket_decisions.specs.Tables.{Tables, rows_of, changed, all_changed, withdrawal, action_changes, with_receipt}
use Rattle.docket_history.specs.Views.{parties_in, entries_in, count_deadlines, named_in, deadline_at, deadline_shown, acts_in, case_shown}
use Rattle.docket_history.specs.declared.row.NewDeadline.{NewDeadline}
use Rattle.docket_decisions.specs.declared.decision.Decision.{Decision}
use Rattle.docket_decisions.specs.declared.decision.Decision.TheVariants as decision
use Rattle.docket_decisions.specs.declared.decision.DecideFault.{DecideFault}
use Rattle.docket_history.specs.declared.item.NewRow.{NewRow}
use Rattle.docket_history.specs.declared.row.Change.{Change}
use Rattle.docket_history.specs.declared.row.Change.TheVariants as change
use Rattle.docket_history.specs.declared.row.CalendarRow.{CalendarRow}
use Rattle.docket_history.specs.declared.row.CaseRow.{CaseRow}
use Rattle.docket_history.specs.declared.row.PartyRow.{PartyRow}
use Rattle.docket_history.specs.declared.row.EntryRow.{EntryRow}
use Rattle.docket_history.specs.declared.row.DeadlineRow.{DeadlineRow}
use Rattle.docket_history.specs.declared.row.ActRow.{ActRow}
use Rattle.docket_history.specs.declared.row.LocalRuleRow.{LocalRuleRow}
use Rattle.docket_history.specs.declared.view.CaseView.{CaseView}
use Rattle.docket_history.specs.declared.view.DeadlineView.{DeadlineView}
use Rattle.docket_history.specs.declared.view.Kept.{Kept}
use Rattle.docket_history.specs.declared.view.Kept.TheVariants.{Fresh, Same, Other}
use Rattle.docket_history.specs.declared.view.View.{View}
use Rattle.docket_history.proofs.Asked.{no_party, no_entry, none_made, none_acted, none_acted_in, added_same, case_asked, party_asked, entry_asked, rule_asked, made_asked, next_asked}
use Rattle.docket_decisions.proofs.Passed.{is_free}

-- what changes of one kind do

pub all_changed-append : (xs ys : List Change) (t : Tables) → all_changed (xs ++ ys) t ≡ all_changed ys (all_changed xs t)
all_changed-append [] ys t = refl
all_changed-append (x ∷ xs) ys t = all_changed-append xs ys (changed x t)

withdrawn : (w : Option ℕ) (t : Tables) → all_changed (withdrawal w) t ≡ record t { calendar = without_row w t.calendar }
withdrawn None t = refl
withdrawn (Some n) t = refl

calendar_changed : (rows : List CalendarRow) (t : Tables) → all_changed (map change.AddCalendar rows) t ≡ record t { calendar = t.calendar ++ rows; next_row = t.next_row + length rows }
calendar_changed [] t = λ i. record t { calendar = sym (append-nil t.calendar) i; next_row = sym (add-zero t.next_row) i }
calendar_changed (row ∷ rows) t =
    calendar_changed rows (changed (change.AddCalendar row) t)
    ∙ (λ i. record t { calendar = append_assoc t.calendar (row ∷ []) rows i; next_row = let e : t.next_row + 1 + length rows ≡ t.next_row + length (row ∷ rows) = omega arith in e i })

cases_changed : (rows : List CaseRow) (t : Tables) → all_changed (map change.AddCase rows) t ≡ record t { cases = t.cases ++ rows }
cases_changed [] t = λ i. record t { cases = sym (append-nil t.cases) i }
cases_changed (row ∷ rows) t = cases_changed rows (changed (change.AddCase row) t) ∙ (λ i. record t { cases = append_assoc t.cases (row ∷ []) rows i })

parties_changed : (rows : List PartyRow) (t : Tables) → all_changed (map change.AddParty rows) t ≡ record t { parties = t.parties ++ rows }
parties_changed [] t = λ i. record t { parties = sym (append-nil t.parties) i }
parties_changed (row ∷ rows) t = parties_changed rows (changed (change.AddParty row) t) ∙ (λ i. record t { parties = append_assoc t.parties (row ∷ []) rows i })

entries_changed : (rows : List EntryRow) (t : Tables) → all_changed (map change.AddEntry rows) t ≡ record t { entries = t.entries ++ rows }
entries_changed [] t = λ i. record t { entries = sym (append-nil t.entries) i }
entries_changed (row ∷ rows) t = entries_changed rows (changed (change.AddEntry row) t) ∙ (λ i. record t { entries = append_assoc t.entries (row ∷ []) rows i })

deadlines_changed : (rows : List DeadlineRow) (t : Tables) → all_changed (map change.AddDeadline rows) t ≡ record t { deadlines = t.deadlines ++ rows }
deadlines_changed [] t = λ i. record t { deadlines = sym (append-nil t.deadlines) i }
deadlines_changed (row ∷ rows) t = deadlines_changed rows (changed (change.AddDeadline row) t) ∙ (λ i. record t { deadlines = append_assoc t.deadlines (row ∷ []) rows i })

acts_changed : (rows : List ActRow) (t : Tables) → all_changed (map change.AddAct rows) t ≡ record t { acts = t.acts ++ rows }
acts_changed [] t = λ i. record t { acts = sym (append-nil t.acts) i }
acts_changed (row ∷ rows) t = acts_changed rows (changed (change.AddAct row) t) ∙ (λ i. record t { acts = append_assoc t.acts (row ∷ []) rows i })

rules_changed : (rows : List LocalRuleRow) (t : Tables) → all_changed (map change.AddLocalRule rows) t ≡ record t { local_rules = t.local_rules ++ rows }
rules_changed [] t = λ i. record t { local_rules = sym (append-nil t.local_rules) i }
rules_changed (row ∷ rows) t = rules_changed rows (changed (change.AddLocalRule row) t) ∙ (λ i. record t { local_rules = append_assoc t.local_rules (row ∷ []) rows i })

-- all changes of a command, in one step
module _ (c : Command) (w : Option ℕ) (calendar : List CalendarRow) (cases : List CaseRow) (parties : List PartyRow) (entries : List EntryRow) (ds : List DeadlineRow) (firsts later : List ActRow) (rules : List LocalRuleRow) (n : Reply) (t : Tables) where
  all_in_one : with_receipt c n (all_changed (withdrawal w ++ map change.AddCalendar calendar ++ map change.AddCase cases ++ map change.AddParty parties ++ map change.AddEntry entries ++ map change.AddDeadline ds ++ map change.AddAct firsts ++ map change.AddAct later ++ map change.AddLocalRule rules) t)
      ≡ record {
        next_row = t.next_row + length calendar;
        calendar = without_row w t.calendar ++ calendar;
        cases = t.cases ++ cases;
        parties = t.parties ++ parties;
        entries = t.entries ++ entries;
        deadlines = t.deadlines ++ ds;
        acts = t.acts ++ (firsts ++ later);
        receipts = t.receipts ++ record { command = c; reply = n } ∷ [];
        local_rules = t.local_rules ++ rules;
      }
  all_in_one = simp (all_changed-append, withdrawn, calendar_changed, cases_changed, parties_changed, entries_changed, deadlines_changed, acts_changed, rules_changed, append_assoc)

pub length-deadlines_from : (k n : ℕ) (acts : List ActRow) (rows : List DeadlineRow) → length (deadlines_from k n acts rows) ≡ length rows
length-deadlines_from k n acts [] = refl
length-deadlines_from k n acts (row ∷ rows) = ap suc (length-deadlines_from k (n + 1) acts rows)

pub length-numbered : (number : ℕ) (rows : List NewRow) → length (numbered number rows) ≡ length rows
length-numbered number [] = refl
length-numbered number (row ∷ rows) = ap suc (length-numbered (number + 1) rows)

acts_at : (k m : ℕ) (acts : List ActRow) (rows : List DeadlineRow) (i : ℕ) (d : DeadlineView) → slice_get (deadlines_from k m acts rows) i ≡ Some d → d.acts ≡ acts_of_deadline k (m + i) acts
acts_at k m acts [] i d e = absurd (cc)
acts_at k m acts (row ∷ rows) zero d e = sym (ap acts_in e) ∙ ap (λ n. acts_of_deadline k n acts) (sym (add-zero m))
acts_at k m acts (row ∷ rows) (suc i) d e = let same : m + 1 + i ≡ m + suc i = omega arith in acts_at k (m + 1) acts rows i d e ∙ ap (λ n. acts_of_deadline k n acts) same

-- the case that is shown, where one is named
seen_if : {A : Type 0} (b : Bool) (x : A) → is_none (if b then Some x else None) ≡ false → (if b then Some x else None) ≡ Some x
seen_if true x e = refl
seen_if false x e = absurd (cc)

module _ (h : History) (a : Action) where
  abbrev pub case_numbered : ℕ → CaseView
  case_numbered k = case_shown k (length (parties_of_case k (party_rows h))) (length (entries_of_case k (entry_rows h))) (deadlines k h) a

  case_seen : (o : Option ℕ) → case_named a ≡ o → is_some o && is_none (option_and_then (case_of_number h a) o) ≡ false → (case_named a ≡ None) ⊎ (option_and_then (case_of_number h a) o ≡ Some (case_numbered (unwrap_or o 0)))
  case_seen None e free = inl e
  case_seen (Some k) e free = inr (seen_if (nat_le 1 k && nat_le k (length (case_rows h))) _ free)

abbrev pub seen_of : History → Action → CaseView
seen_of h a = case_numbered h a (case_number a)

pub seen : (h : History) (a : Action) → lacks_case (shown_fresh h a) a ≡ false → (case_named a ≡ None) ⊎ ((shown_fresh h a).case ≡ Some (seen_of h a))
seen h a free = case_seen h a (case_named a) refl free

party_same : (h : History) (a : Action) → lacks_case (shown_fresh h a) a ≡ false → new_party (parties_in (shown_fresh h a).case) a ≡ new_party (length (parties_of_case (case_number a) (party_rows h))) a
party_same h a free = ⊎_elim (λ e. no_party a _ _ e) (λ e. ap (λ o. new_party (parties_in o) a) e ∙ party_asked _ a) (seen h a free)

entry_same : (h : History) (a : Action) → lacks_case (shown_fresh h a) a ≡ false → new_entry (entries_in (shown_fresh h a).case) a ≡ new_entry (length (entries_of_case (case_number a) (entry_rows h))) a
entry_same h a free = ⊎_elim (λ e. no_entry a _ _ e) (λ e. ap (λ o. new_entry (entries_in o) a) e ∙ entry_asked _ a) (seen h a free)

-- the local rule that is shown is the one that is named, where deadlines are made
pub made_found : (h : History) (a : Action) → deadlines_made (shown_fresh h a).local a ≡ deadlines_made (rule_found h a) a
made_found h (LocalPeriod a) = refl
made_found h _ = refl

-- what is made of new deadlines, by how many there are
counted : {R : Type 0} (make : ℕ → List NewDeadline → List R) (h : History) (a : Action) → ((m n : ℕ) → make m [] ≡ make n []) → lacks_case (shown_fresh h a) a ≡ false → make (count_deadlines (shown_fresh h a).case) (deadlines_made (shown_fresh h a).local a) ≡ make (length (deadlines_of_case (case_number a) (deadline_rows h))) (deadlines_made (rule_found h a) a)
counted make h a none free =
    let l = rule_found h a in
    ap (make _) (made_found h a)
    ∙ ⊎_elim
    (λ e. ap (make _) (none_made l a e) ∙ none _ _ ∙ ap (make _) (sym (none_made l a e)))
    (λ e. ap (λ o. make (count_deadlines o) (deadlines_made l a)) e ∙ made_asked make (length (deadlines (case_number a) h)) l a none ∙ ap (λ n. make n (deadlines_made l a)) (length-deadlines_from (case_number a) 1 (act_rows h) (deadlines_of_case (case_number a) (deadline_rows h))))
    (seen h a free)

pub deadline_seen : (k n : ℕ) (h : History) → is_none (deadline_at (deadlines k h) n) ≡ false → acts_in (deadline_at (deadlines k h) n) ≡ acts_of_deadline k n (act_rows h)
deadline_seen k zero h free = absurd (cc)
deadline_seen k (suc n) h free = found (slice_get (deadlines k h) n) refl free
  where
    found : (o : Option DeadlineView) → slice_get (deadlines k h) n ≡ o → is_none o ≡ false → acts_in o ≡ acts_of_deadline k (suc n) (act_rows h)
    found None is no_none = absurd (cc)
    found (Some d) is no_none =
        acts_at k 1 (act_rows h) (deadlines_of_case k (deadline_rows h)) n d is
        ∙ (let same : 1 + n ≡ suc n = omega arith in ap (λ m. acts_of_deadline k m (act_rows h)) same)

later_from : (h : History) (a : Action) (o : Option ℕ) → deadline_named a ≡ o → is_some o && is_none (option_and_then (deadline_at (deadlines (case_number a) h)) o) ≡ false
    → later_acts (length (acts_in (option_and_then (deadline_at (deadlines (case_number a) h)) o))) a ≡ later_acts (length (acts_of_deadline (case_number a) (unwrap_or o 0) (act_rows h))) a
later_from h a None is free = ap (act_rows_on _ _ _) (none_acted a is) ∙ sym (ap (act_rows_on _ _ _) (none_acted a is))
later_from h a (Some n) is free = ap (λ acts. later_acts (length acts) a) (deadline_seen (case_number a) n h free)

later_same : (h : History) (a : Action) → lacks_case (shown_fresh h a) a ≡ false → lacks_deadline (shown_fresh h a) a ≡ false → later_acts (length (acts_in (deadline_shown (shown_fresh h a)))) a ≡ later_acts (length (acts_of_deadline (case_number a) (deadline_number a) (act_rows h))) a
later_same h a free there =
    ⊎_elim
    (λ e. ap (act_rows_on _ _ _) (none_acted_in a e) ∙ sym (ap (act_rows_on _ _ _) (none_acted_in a e)))
    (λ e.
    ap (λ c. later_acts (length (acts_in (named_in c))) a) e
    ∙ later_from h a (deadline_named a) refl (subst (λ c. is_some (deadline_named a) && is_none (named_in c) ≡ false) e there))
    (seen h a free)

calendar_same : (h : History) (a : Action) → numbered (shown_fresh h a).next_row (rows_added (shown_fresh h a).calendar a) ≡ numbered (next_row h) (rows_added (items_of (standing_rows h)) a)
calendar_same h a = ap (numbered _) (added_same (items_of (standing_rows h)) a) ∙ next_asked (next_row h) (items_of (standing_rows h)) a

-- the changes of a command lead to the tables with it
pub leads : (court : CourtSettings) (h : History) (c : Command) → lacks_case (shown court h c) c.action ≡ false → lacks_deadline (shown court h c) c.action ≡ false → with_receipt c (replied (reply_to court (shown court h c) c.action)) (all_changed (action_changes (shown court h c) c.action) (rows_of court h)) ≡ rows_of court (c ∷ h)
leads court h c free there =
    let a = c.action in
    let w = row_withdrawn a in
    let reply = replied (reply_to court (shown court h c) a) in
    let ds = counted (λ n made. deadline_rows_from (case_number a) (n + 1) made) h a (λ m n. refl) free in
    let firsts = counted (λ n made. first_acts_from (case_number a) (n + 1) made) h a (λ m n. refl) free in
    (λ i. with_receipt c reply (all_changed
    (withdrawal w
    ++ map change.AddCalendar (calendar_same h a i)
    ++ map change.AddCase (case_asked (length (case_rows h)) a i)
    ++ map change.AddParty (party_same h a free i)
    ++ map change.AddEntry (entry_same h a free i)
    ++ map change.AddDeadline (ds i)
    ++ map change.AddAct (firsts i)
    ++ map change.AddAct (later_same h a free there i)
    ++ map change.AddLocalRule (rule_asked (length (local_rule_rows h)) a i))
    (rows_of court h)))
    ∙ all_in_one c w (numbered (next_row h) (rows_added (items_of (standing_rows h)) a)) _ _ _ _ _ _ _ reply (rows_of court h)
    ∙ (λ i. record (rows_of court (c ∷ h)) { next_row = next_row h + length-numbered (next_row h) (rows_added (items_of (standing_rows h)) a) i })

-- where an answer accepts, no refusal applies
met_none : (court : CourtSettings) (kept : Kept) (r : Option Refusal) (v : View) (c : Command) (reply : Reply) → answer_kept court kept v c ≡ accepted reply → refusal_of court v c ≡ r → (r ≡ None) × (reply ≡ replied (reply_to court v c.action))
met_none court Fresh (Some r) v c n e is = absurd (let clash : refused r ≡ accepted n = ap (answer_by court v c.action) (sym is) ∙ e in cc)
met_none court Other (Some r) v c n e is = absurd (let clash : refused r ≡ accepted n = ap (answer_by court v c.action) (sym is) ∙ e in cc)
met_none court (Same m) r v c n e is = absurd (let clash : repeated m ≡ accepted n = e in cc)
met_none court Fresh None v c n e is = let same : accepted (replied (reply_to court v c.action)) ≡ accepted n = ap (answer_by court v c.action) (sym is) ∙ e in (refl, cc)
met_none court Other None v c n e is = let same : accepted (replied (reply_to court v c.action)) ≡ accepted n = ap (answer_by court v c.action) (sym is) ∙ e in (refl, cc)

-- what follows from an accepted answer
pub record IsAccepted (court : CourtSettings) (v : View) (c : Command) (reply : Reply) : Type 0 where
  pub free : refusal_of court v c ≡ None
  pub due : reply ≡ replied (reply_to court v c.action)

pub is_accepted : (court : CourtSettings) (v : View) (c : Command) (reply : Reply) → answer_of court v c ≡ accepted reply → IsAccepted court v c reply
is_accepted court v c reply e =
    let met = met_none court v.under_key (refusal_of court v c) v c reply e refl in
    record { free = met.0; due = met.1 }

pub leads_by : (court : CourtSettings) (h : History) (c : Command) (v : View) (r : Result Decision DecideFault) → v ≡ shown court h c → IsAnswer r (answer_of court v c) → IfOk r (IsChange (action_changes v c.action)) → IfOk r (LeadsTo court h c)
leads_by court h c v (Err fault) is answer change = tt
leads_by court h c v (Ok (decision.Repeat n)) is answer change = tt
leads_by court h c v (Ok (decision.Change changes)) is answer change =
    let said = is_accepted court v c changes.reply answer in
    let free = is_free court (shown court h c) c (ap (λ w. refusal_of court w c) (sym is) ∙ said.free) in
    let reply : changes.reply ≡ replied (reply_to court (shown court h c) c.action) = said.due ∙ ap (λ w. replied (reply_to court w c.action)) is in
    let rows : changes.rows.items ≡ action_changes (shown court h c) c.action = change ∙ ap (λ w. action_changes w c.action) is in
    (λ i. with_receipt c (reply i) (all_changed (rows i) (rows_of court h))) ∙ leads court h c free.case free.deadline
