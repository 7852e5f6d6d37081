-- What every history keeps to, by an induction on it.
use Rattle.std.proofs.Common.{◌≡◌, ◌≢◌, ℕ, zero, suc, ◌+◌, ◌≤◌, ◌<◌, Bool, true, false, ◌&&◌, ◌||◌, cond, Option, Some, None, List, [], ◌∷◌, ◌++◌, length, not, refl, sym, ap, subst, ◌∙◌, arith, length-append, append-nil, append_assoc, ⊎_elim}
use Rattle.std.specs.Prelude.{filter, ◌==◌, nat_lt, nat_le, slice_get, is_some, is_none, unwrap_or, if◌then◌else◌, IfSome}
use Rattle.std.specs.List.{All, find}
use Rattle.std.specs.Option.{option_map, option_map_or, option_and_then}
use Rattle.std.specs.Str.{bytes_eq}
use Rattle.std.proofs.lemmas.Bool.Decides.{nat_tests}
use Rattle.std.proofs.lemmas.Bool.{and_from, not-false, or_parts}
use Rattle.std.proofs.lemmas.List.{map-append, length-map}
use Rattle.std.proofs.lemmas.List.Elements.{filter-append, All-nil, All-cons, All-head, All-tail, All-append}
use Rattle.std.proofs.lemmas.Option.{slice_get_within}
use Rattle.civil_time.specs.Zone.{ZoneRules}
use Rattle.court_days.specs.Calendar.{Entered}
use Rattle.court_days.specs.Court.{CourtSettings, zone_of}
use Rattle.court_rules.specs.Acts.{is_forward}
use Rattle.court_rules.specs.LocalRules.{is_local_name, is_local_rule}
use Rattle.court_rules.specs.Standings.{AreActs, standing as standing_by_acts}
use Rattle.court_rules.specs.declared.act.Act.{Act}
use Rattle.court_rules.specs.declared.local_rule.LocalRule.{LocalRule}
use Rattle.docket_command.specs.declared.command.Action.{Action}
use Rattle.docket_command.specs.declared.command.Action.TheVariants as action
use Rattle.docket_command.specs.declared.command.Command.{Command}
use Rattle.docket_command.specs.declared.refusal.Reply.{Reply}
use Rattle.docket_history.specs.Actions.{case_work, is_timed, asks_calendar, asks_next_row, if_asked, case_named, deadline_named, local_rule_named, rows_asked, row_withdrawn, deadlines_made, acts_made}
use Rattle.docket_history.specs.CalendarItems.{IsEnteredItem, calendar_of, fresh}
use Rattle.docket_decisions.specs.Decisions.{IsSoundView}
use Rattle.docket_history.specs.Histories.{History, items_of, numbered, without_row, standing_rows, next_row, rows_added, case_rows, party_rows, entry_rows, deadline_rows, act_rows, parties_of_case, entries_of_case, deadlines_of_case, acts_of_deadline, deadlines, deadlines_from, new_case, new_party, new_entry, new_deadlines, deadline_rows_from, first_acts, later_acts, act_rows_on, case_number, deadline_number, local_rule_rows, new_local_rule, local_rule_in, rule_found}
use Rattle.docket_history.specs.Limits.{IsWithinLimits}
use Rattle.docket_decisions.specs.Outcomes.{IsHistory, outcome, accepted, shown, shown_fresh, case_of_number}
use Rattle.docket_decisions.specs.Refusals.{is_over, lacks_local_rule, is_full, is_not_open, is_not_awaiting, is_calendar_full, lacks_case, lacks_deadline, count_added}
use Rattle.docket_values.specs.Values.{first_bad, bad_values}
use Rattle.docket_history.specs.Times.{standing_shown}
use Rattle.docket_history.specs.Views.{parties_in, entries_in, count_deadlines, named_in, deadline_at, deadline_shown, acts_in}
use Rattle.docket_history.specs.declared.row.NewDeadline.{NewDeadline}
use Rattle.docket_history.specs.declared.item.CalendarItem.{CalendarItem}
use Rattle.docket_history.specs.declared.row.ActRow.{ActRow}
use Rattle.docket_history.specs.declared.row.CalendarRow.{CalendarRow}
use Rattle.docket_history.specs.declared.row.DeadlineRow.{DeadlineRow}
use Rattle.docket_history.specs.declared.row.EntryRow.{EntryRow}
use Rattle.docket_history.specs.declared.row.LocalRuleRow.{LocalRuleRow}
use Rattle.docket_history.specs.declared.row.PartyRow.{PartyRow}
use Rattle.docket_history.specs.declared.view.CaseView.{CaseView}
use Rattle.docket_history.specs.declared.view.DeadlineView.{DeadlineView}
use Rattle.docket_history.specs.declared.view.View.{View}
use Rattle.docket_decisions.proofs.ActsKept.{AreSound, IsKept, with_firsts, with_later, no_fewer, firsts_other}
use Rattle.docket_history.proofs.Asked.{no_rows, added_same, asked_where_made, none_made, none_acted, none_acted_in}
use Rattle.docket_decisions.proofs.FirstActs.{IsLawfulRule, made_first}
use Rattle.docket_decisions.proofs.LaterActs.{IsNext, IsNextOf, next_sound, may_follow}
use Rattle.docket_decisions.proofs.GoodValues.{all_good, asked_entered, fresh_entered, numbered_entered}
use Rattle.docket_decisions.proofs.Leading.{is_accepted, made_found, seen, seen_of, deadline_seen, length-deadlines_from, length-numbered}
use Rattle.docket_decisions.proofs.Passed.{is_free, rows_fit, calendar_room, deadlines_fit, not_above, not_at, one_of_all}

-- the deadline that is named is there, with these acts
module _ (h : History) (k n : ℕ) (there : is_none (deadline_at (deadlines k h) n) ≡ false) where
  found : (m : ℕ) → n ≡ m → is_none (deadline_at (deadlines k h) m) ≡ false → (1 ≤ n) × (n ≤ length (deadlines_of_case k (deadline_rows h)))
  found zero e free = absurd (cc)
  found (suc m) e free = at (slice_get (deadlines k h) m) refl free
    where
      at : (o : Option DeadlineView) → slice_get (deadlines k h) m ≡ o → is_none o ≡ false → (1 ≤ n) × (n ≤ length (deadlines_of_case k (deadline_rows h)))
      at None p q = absurd (cc)
      at (Some d) p q =
          let within = slice_get_within (deadlines k h) m d p in
          let count = length-deadlines_from k 1 (act_rows h) (deadlines_of_case k (deadline_rows h)) in
          (omega (arith, e), omega (arith, e, within, count))

  pub there_is : (1 ≤ n) × (n ≤ length (deadlines_of_case k (deadline_rows h)))
  there_is = found n refl there

  pub acts_are : acts_in (deadline_at (deadlines k h) n) ≡ acts_of_deadline k n (act_rows h)
  acts_are = deadline_seen k n h there

-- the deadline that an action names is one of its case
pub named_there : (h : History) (a : Action) (m : ℕ) → deadline_named a ≡ Some m → (shown_fresh h a).case ≡ Some (seen_of h a) → lacks_deadline (shown_fresh h a) a ≡ false
    → is_none (deadline_at (deadlines (case_number a) h) m) ≡ false
named_there h a m named case_is there =
    subst (λ o. is_some o && is_none (option_and_then (deadline_at (deadlines (case_number a) h)) o) ≡ false) named
    (subst (λ c. is_some (deadline_named a) && is_none (named_in c) ≡ false) case_is there)

-- every deadline of a history is kept
abbrev AllKept : CourtSettings → History → Type 0
AllKept court h = (k n : ℕ) → IsKept (zone_of court) (deadline_rows h) (act_rows h) k n

-- what a history shows where an action of it was free
pub record IsPassed (court : CourtSettings) (h : History) (a : Action) : Type 0 where
  pub values : first_bad (bad_values court a) ≡ None
  pub case : lacks_case (shown_fresh h a) a ≡ false
  pub deadline : lacks_deadline (shown_fresh h a) a ≡ false
  pub rule : lacks_local_rule (shown_fresh h a) a ≡ false
  pub opened : is_not_open court (shown_fresh h a) a ≡ false
  pub awaited : is_not_awaiting court (shown_fresh h a) a ≡ false
  pub room : is_full (shown_fresh h a) a ≡ false

pub passed : (court : CourtSettings) (h : History) (c : Command) (reply : Reply) → outcome court h c ≡ accepted reply → IsPassed court h c.action
passed court h c reply answer =
    let free = is_free court (shown court h c) c (is_accepted court (shown court h c) c reply answer).free in
    record { values = free.values; case = free.case; deadline = free.deadline; rule = free.rule; opened = free.opened; awaited = free.awaited; room = free.room }

-- the local rules of a history have lawful values
abbrev IsLawfulRow : LocalRuleRow → Type 0
IsLawfulRow row = IsLawfulRule row.rule

forward_only : (three forward : Bool) → (three && not forward) ≡ false → (not three || forward) ≡ true
forward_only true true e = refl
forward_only true false e = absurd (cc)
forward_only false forward e = refl

rule_lawful : (court : CourtSettings) (r : LocalRule) → first_bad (bad_values court (action.LocalRule r)) ≡ None → IsLawfulRule r
unfolding is_local_rule
rule_lawful court r good =
    let fields = all_good (bad_values court (action.LocalRule r)) good in
    and_from (is_local_name r.name) _ (not-false (is_local_name r.name) fields.0)
    (and_from (nat_le 1 r.days && nat_le r.days 3650) _ (not-false (nat_le 1 r.days && nat_le r.days 3650) fields.1.0) (forward_only r.three (is_forward r.direction) fields.1.1.0))

entered_lawful : (court : CourtSettings) (count : ℕ) (a : Action) → first_bad (bad_values court a) ≡ None → All IsLawfulRow (new_local_rule count a)
entered_lawful court count (action.LocalRule r) good = All-cons IsLawfulRow _ [] (rule_lawful court r good) (All-nil IsLawfulRow)
entered_lawful court count _ good = All-nil IsLawfulRow

pub rules_lawful : (court : CourtSettings) (h : History) → IsHistory court h → All IsLawfulRow (local_rule_rows h)
rules_lawful court [] is = All-nil IsLawfulRow
rules_lawful court (c ∷ h) is =
    All-append IsLawfulRow (local_rule_rows h) (new_local_rule (length (local_rule_rows h)) c.action) (rules_lawful court h is.1)
    (entered_lawful court _ c.action (passed court h c is.0.0 is.0.1).values)

-- so is the one that an action names
in_lawful : (rows : List LocalRuleRow) (name : List ℕ) → All IsLawfulRow rows → IfSome (local_rule_in rows name) IsLawfulRule
in_lawful [] name all = tt
in_lawful (row ∷ rows) name all = at (bytes_eq row.rule.name name) (All-head IsLawfulRow row rows all) (in_lawful rows name (All-tail IsLawfulRow row rows all))
  where
    at : (b : Bool) → IsLawfulRow row → IfSome (local_rule_in rows name) IsLawfulRule → IfSome (option_map (λ (r : LocalRuleRow). r.rule) (cond b (Some row) (find (λ (r : LocalRuleRow). bytes_eq r.rule.name name) rows))) IsLawfulRule
    at true here rest = here
    at false here rest = rest

named_lawful : (rows : List LocalRuleRow) (o : Option (List ℕ)) → All IsLawfulRow rows → IfSome (option_and_then (local_rule_in rows) o) IsLawfulRule
named_lawful rows None all = tt
named_lawful rows (Some name) all = in_lawful rows name all

pub found_lawful : (court : CourtSettings) (h : History) → IsHistory court h → (a : Action) → IfSome (rule_found h a) IsLawfulRule
found_lawful court h is a = named_lawful (local_rule_rows h) (local_rule_named a) (rules_lawful court h is)

abbrev KeptAfter : CourtSettings → History → Action → ℕ → ℕ → Type 0
KeptAfter court h a k n =
    let count = length (deadlines_of_case (case_number a) (deadline_rows h)) in
    IsKept (zone_of court) (deadline_rows h ++ new_deadlines (rule_found h a) count a)
    (act_rows h ++ (first_acts (rule_found h a) count a ++ later_acts (length (acts_of_deadline (case_number a) (deadline_number a) (act_rows h))) a)) k n

-- with the deadlines that it makes
firsts_kept : (court : CourtSettings) (h : History) (a : Action) → AllKept court h → IfSome (rule_found h a) IsLawfulRule → first_bad (bad_values court a) ≡ None → (j m : ℕ)
    → (let count = length (deadlines_of_case (case_number a) (deadline_rows h)) in IsKept (zone_of court) (deadline_rows h ++ new_deadlines (rule_found h a) count a) (act_rows h ++ first_acts (rule_found h a) count a) j m)
firsts_kept court h a was lawful good j m =
    with_firsts (zone_of court) (case_number a) (deadlines_made (rule_found h a) a) (deadline_rows h) (act_rows h) (length (deadlines_of_case (case_number a) (deadline_rows h))) refl (made_first court (rule_found h a) a lawful good) was j m

-- and with the act on the deadline that it names
module _ (court : CourtSettings) (h : History) (a : Action) (was : AllKept court h) (lawful : IfSome (rule_found h a) IsLawfulRule) (good : first_bad (bad_values court a) ≡ None) (m : ℕ) (named : deadline_named a ≡ Some m)
    (case_is : (shown_fresh h a).case ≡ Some (seen_of h a))
    (there : lacks_deadline (shown_fresh h a) a ≡ false) (new : Act)
    (follows : IsNext (zone_of court) (standing_shown court (shown_fresh h a)) (acts_in (deadline_shown (shown_fresh h a))) new) where
  abbrev zone : ZoneRules
  zone = zone_of court

  abbrev of_case : ℕ
  of_case = case_number a

  at_named : is_none (deadline_at (deadlines of_case h) m) ≡ false
  at_named = named_there h a m named case_is there

  number_is : deadline_number a ≡ m
  number_is = ap (λ o. unwrap_or o 0) named

  place : (1 ≤ m) × (m ≤ length (deadlines_of_case of_case (deadline_rows h)))
  place = there_is h of_case m at_named

  acts_shown : acts_in (deadline_shown (shown_fresh h a)) ≡ acts_of_deadline of_case m (act_rows h)
  acts_shown =
      ap (λ c. acts_in (named_in c)) case_is ∙ ap (λ o. acts_in (option_and_then (deadline_at (deadlines of_case h)) o)) named
      ∙ acts_are h of_case m at_named

  longer : AreSound zone (acts_of_deadline of_case m (act_rows h) ++ new ∷ [])
  longer =
      let entered = calendar_of (shown_fresh h a).calendar in
      next_sound zone entered (acts_of_deadline of_case m (act_rows h)) new ((was of_case m).sound place.0 place.1)
      (subst (λ (acts : List Act). IsNext zone (standing_by_acts zone entered acts) acts new) acts_shown follows)

  pub later_kept : (number k n : ℕ) → (let count = length (deadlines_of_case of_case (deadline_rows h)) in
      IsKept zone (deadline_rows h ++ new_deadlines (rule_found h a) count a) (act_rows h ++ (first_acts (rule_found h a) count a ++ act_rows_on of_case (deadline_number a) number (new ∷ []))) k n)
  later_kept number k n =
      let count = length (deadlines_of_case of_case (deadline_rows h)) in
      let row : ActRow = record { case = of_case; deadline = deadline_number a; number = number; act = new } in
      let same : acts_of_deadline of_case m (act_rows h ++ first_acts (rule_found h a) count a) ≡ acts_of_deadline of_case m (act_rows h) =
      firsts_other of_case (deadlines_made (rule_found h a) a) (act_rows h) (count + 1) m (omega (arith, place.1)) in
      let more : AreSound zone (acts_of_deadline of_case (deadline_number a) (act_rows h ++ first_acts (rule_found h a) count a) ++ new ∷ []) =
      subst (λ acts. AreSound zone (acts ++ new ∷ [])) (sym (ap (λ i. acts_of_deadline of_case i (act_rows h ++ first_acts (rule_found h a) count a)) number_is ∙ same)) longer in
      subst (λ (rows : List ActRow). IsKept zone (deadline_rows h ++ new_deadlines (rule_found h a) count a) rows k n) (append_assoc (act_rows h) (first_acts (rule_found h a) count a) (row ∷ []))
      (with_later zone (deadline_rows h ++ new_deadlines (rule_found h a) count a) (act_rows h ++ first_acts (rule_found h a) count a) row
      (omega (arith, place.0, number_is)) (omega (arith, place.1, number_is, no_fewer of_case (deadline_rows h) (new_deadlines (rule_found h a) count a))) more k n
      (firsts_kept court h a was lawful good k n))

abbrev KeptWith : CourtSettings → History → Action → ℕ → ℕ → List Act → Type 0
KeptWith court h a k n news =
    let count = length (deadlines_of_case (case_number a) (deadline_rows h)) in
    let number = length (acts_of_deadline (case_number a) (deadline_number a) (act_rows h)) + 1 in
    IsKept (zone_of court) (deadline_rows h ++ new_deadlines (rule_found h a) count a)
    (act_rows h ++ (first_acts (rule_found h a) count a ++ act_rows_on (case_number a) (deadline_number a) number news)) k n

acts_step : (court : CourtSettings) (h : History) (a : Action) → AllKept court h → IfSome (rule_found h a) IsLawfulRule → IsPassed court h a → (k n : ℕ) → KeptAfter court h a k n
acts_step court h a was lawful is k n = by_acts (acts_made a) refl (may_follow court (shown_fresh h a) a is.values is.opened is.awaited is.room)
  where
    by_named : (new : Act) → acts_made a ≡ new ∷ [] → IsNext (zone_of court) (standing_shown court (shown_fresh h a)) (acts_in (deadline_shown (shown_fresh h a))) new → (o : Option ℕ) → deadline_named a ≡ o → KeptWith court h a k n (new ∷ [])
    by_named new e follows None named = absurd (let clash : [] ≡ new ∷ [] = sym (none_acted a named) ∙ e in cc)
    by_named new e follows (Some m) named =
        ⊎_elim
        (λ off. absurd (let clash : [] ≡ new ∷ [] = sym (none_acted_in a off) ∙ e in cc))
        (λ case_is. later_kept court h a was lawful is.values m named case_is is.deadline new follows _ k n)
        (seen h a is.case)

    by_acts : (news : List Act) → acts_made a ≡ news → IsNextOf (zone_of court) (standing_shown court (shown_fresh h a)) (acts_in (deadline_shown (shown_fresh h a))) news → KeptAfter court h a k n
    by_acts [] e follows =
        subst (KeptWith court h a k n) (sym e)
        (subst (λ (rows : List ActRow). IsKept (zone_of court) (deadline_rows h ++ new_deadlines (rule_found h a) (length (deadlines_of_case (case_number a) (deadline_rows h))) a) (act_rows h ++ rows) k n)
        (sym (append-nil (first_acts (rule_found h a) (length (deadlines_of_case (case_number a) (deadline_rows h))) a))) (firsts_kept court h a was lawful is.values k n))
    by_acts (new ∷ []) e follows = subst (KeptWith court h a k n) (sym e) (by_named new e follows (deadline_named a) refl)
    by_acts (new ∷ other ∷ more) e follows = absurd follows

none_kept : (court : CourtSettings) (k n : ℕ) → IsKept (zone_of court) [] [] k n
none_kept court k n = record { absent = λ which. refl; sound = λ low high. absurd (omega (arith, low, high)) }

pub all_kept : (court : CourtSettings) (h : History) → IsHistory court h → AllKept court h
all_kept court [] is k n = none_kept court k n
all_kept court (c ∷ h) is k n = acts_step court h c.action (all_kept court h is.1) (found_lawful court h is.1 c.action) (passed court h c is.0.0 is.0.1) k n

-- rows of a case, with one more
module _ {R : Type 0} (of : R → ℕ) (limit : ℕ) where
  one_more : (rows : List R) (x : R) (k : ℕ) → length (filter (λ row. of row == k) rows) ≤ limit → ((of x == k) ≡ true → length (filter (λ row. of row == k) rows) < limit) → length (filter (λ row. of row == k) (rows ++ x ∷ [])) ≤ limit
  one_more rows x k few less = rw (filter-append (λ (r : R). of r == k) rows (x ∷ [])) (at (of x == k) refl)
    where
      at : (b : Bool) → (of x == k) ≡ b → length (filter (λ row. of row == k) rows ++ (cond b (x ∷ []) [])) ≤ limit
      at true e = let l : length (filter (λ row. of row == k) rows) < limit = less e in omega (arith, length-append (filter (λ row. of row == k) rows) (x ∷ []))
      at false e = rw append-nil few

parties_step : (court : CourtSettings) (h : History) (a : Action) (k : ℕ) → IsPassed court h a → length (parties_of_case k (party_rows h)) ≤ 1000 → length (parties_of_case k (party_rows h ++ new_party (length (parties_of_case (case_number a) (party_rows h))) a)) ≤ 1000
parties_step court h (action.AddParty p) k is few =
    one_more (λ (row : PartyRow). row.case) 1000 (party_rows h) _ k few (λ e.
    let same : parties_in (shown_fresh h (action.AddParty p)).case ≡ length (parties_of_case p.case (party_rows h)) = ⊎_elim (λ off. absurd (cc)) (λ found. ap parties_in found) (seen h (action.AddParty p) is.case) in
    let below : parties_in (shown_fresh h (action.AddParty p)).case < 1000 = not_at _ _ is.room in
    let here : p.case ≡ k = grind (arith, nat_tests) in
    subst (λ (j : ℕ). length (parties_of_case j (party_rows h)) < 1000) here (omega arith))
parties_step court h _ k is few = rw append-nil few

entries_step : (court : CourtSettings) (h : History) (a : Action) (k : ℕ) → IsPassed court h a → length (entries_of_case k (entry_rows h)) ≤ 10_000 → length (entries_of_case k (entry_rows h ++ new_entry (length (entries_of_case (case_number a) (entry_rows h))) a)) ≤ 10_000
entries_step court h (action.FileEntry p) k is few =
    one_more (λ (row : EntryRow). row.case) 10_000 (entry_rows h) _ k few (λ e.
    let same : entries_in (shown_fresh h (action.FileEntry p)).case ≡ length (entries_of_case p.case (entry_rows h)) = ⊎_elim (λ off. absurd (cc)) (λ found. ap entries_in found) (seen h (action.FileEntry p) is.case) in
    let below : entries_in (shown_fresh h (action.FileEntry p)).case < 10_000 = not_at _ _ is.room in
    let here : p.case ≡ k = grind (arith, nat_tests) in
    subst (λ (j : ℕ). length (entries_of_case j (entry_rows h)) < 10_000) here (omega arith))
entries_step court h _ k is few = rw append-nil few

-- a filter keeps at most all
filter_within : {A : Type 0} (p : A → Bool) (xs : List A) → length (filter p xs) ≤ length xs
filter_within p [] = omega arith
filter_within p (x ∷ xs) = at (p x) (filter_within p xs)
  where
    at : (b : Bool) → length (filter p xs) ≤ length xs → length (cond b (x ∷ filter p xs) (filter p xs)) ≤ suc (length xs)
    at true h = omega arith
    at false h = omega arith

-- new deadlines of a case
count_from : (k j number : ℕ) (made : List NewDeadline) → (j == k) ≡ false → length (deadlines_of_case k (deadline_rows_from j number made)) ≡ 0
count_from k j number [] e = refl
count_from k j number (d ∷ made) e =
    ap (λ b. length (cond b (record { case = j; number = number; party = d.party; rule = d.rule; initial = d.initial } ∷ deadlines_of_case k (deadline_rows_from j (number + 1) made)) (deadlines_of_case k (deadline_rows_from j (number + 1) made)))) e
    ∙ count_from k j (number + 1) made e

length-rows_from : (j number : ℕ) (made : List NewDeadline) → length (deadline_rows_from j number made) ≡ length made
length-rows_from j number [] = refl
length-rows_from j number (d ∷ made) = ap suc (length-rows_from j (number + 1) made)

abbrev FewWith : History → Action → ℕ → List NewDeadline → Type 0
FewWith h a k made =
    let count = length (deadlines_of_case (case_number a) (deadline_rows h)) in
    length (deadlines_of_case k (deadline_rows h ++ deadline_rows_from (case_number a) (count + 1) made)) ≤ 1000

deadlines_step : (court : CourtSettings) (h : History) (a : Action) (k : ℕ) → IsPassed court h a → length (deadlines_of_case k (deadline_rows h)) ≤ 1000 → length (deadlines_of_case k (deadline_rows h ++ new_deadlines (rule_found h a) (length (deadlines_of_case (case_number a) (deadline_rows h))) a)) ≤ 1000
deadlines_step court h a k is few = by_made (deadlines_made (rule_found h a) a) refl
  where
    sum : (made : List NewDeadline) → length (deadlines_of_case k (deadline_rows h ++ deadline_rows_from (case_number a) (length (deadlines_of_case (case_number a) (deadline_rows h)) + 1) made)) ≡ length (deadlines_of_case k (deadline_rows h)) + length (deadlines_of_case k (deadline_rows_from (case_number a) (length (deadlines_of_case (case_number a) (deadline_rows h)) + 1) made))
    sum made = ap length (filter-append (λ (row : DeadlineRow). row.case == k) (deadline_rows h) (deadline_rows_from (case_number a) (length (deadlines_of_case (case_number a) (deadline_rows h)) + 1) made)) ∙ length-append (deadlines_of_case k (deadline_rows h)) _

    by_case : (made : List NewDeadline) → deadlines_made (rule_found h a) a ≡ made → deadlines_made (rule_found h a) a ≢ [] → (b : Bool) → (case_number a == k) ≡ b → FewWith h a k made
    by_case made e some false other = omega (arith, sum made, count_from k (case_number a) (length (deadlines_of_case (case_number a) (deadline_rows h)) + 1) made other, few)
    by_case made e some true here =
        ⊎_elim
        (λ off. absurd (some (none_made (rule_found h a) a off)))
        (λ found.
        let all = length-deadlines_from (case_number a) 1 (act_rows h) (deadlines_of_case (case_number a) (deadline_rows h)) in
        let shown_count : count_deadlines (shown_fresh h a).case ≡ length (deadlines_of_case (case_number a) (deadline_rows h)) = ap count_deadlines found ∙ ap (λ b. if_asked b (length (deadlines (case_number a) h))) (asked_where_made (rule_found h a) a some) ∙ all in
        let fit = subst (λ (made : List NewDeadline). count_deadlines (shown_fresh h a).case + length made ≤ 1000) (made_found h a) (deadlines_fit (shown_fresh h a) a is.room (λ none. some (sym (made_found h a) ∙ none))) in
        let made_count : length (deadlines_made (rule_found h a) a) ≡ length made = ap length e in
        let same_case : case_number a ≡ k = grind (arith, nat_tests) in
        let counts : length (deadlines_of_case (case_number a) (deadline_rows h)) ≡ length (deadlines_of_case k (deadline_rows h)) = ap (λ j. length (deadlines_of_case j (deadline_rows h))) same_case in
        omega (arith, sum made, filter_within (λ (row : DeadlineRow). row.case == k) (deadline_rows_from (case_number a) (length (deadlines_of_case (case_number a) (deadline_rows h)) + 1) made), length-rows_from (case_number a) (length (deadlines_of_case (case_number a) (deadline_rows h)) + 1) made, fit, shown_count, made_count, counts))
        (seen h a is.case)

    by_made : (made : List NewDeadline) → deadlines_made (rule_found h a) a ≡ made → FewWith h a k (deadlines_made (rule_found h a) a)
    by_made [] e = subst (FewWith h a k) (sym e) (rw append-nil few)
    by_made (d ∷ made) e = subst (FewWith h a k) (sym e) (by_case (d ∷ made) e (λ none. absurd (let clash : [] ≡ d ∷ made = sym none ∙ e in cc)) (case_number a == k) refl)

cases_step : (court : CourtSettings) (h : History) (a : Action) → IsPassed court h a → length (case_rows h) ≤ 100_000 → length (case_rows h) + length (new_case (length (case_rows h)) a) ≤ 100_000
cases_step court h (action.OpenCase p) is few = let below : length (case_rows h) < 100_000 = not_at _ _ is.room in omega arith
cases_step court h _ is few = omega arith

rules_step : (court : CourtSettings) (h : History) (a : Action) → IsPassed court h a → length (local_rule_rows h) ≤ 1000 → length (local_rule_rows h) + length (new_local_rule (length (local_rule_rows h)) a) ≤ 1000
rules_step court h (action.LocalRule r) is few = let below : length (local_rule_rows h) < 1000 = not_at _ _ is.room in omega arith
rules_step court h _ is few = omega arith

-- the calendar
room_in : (v : View) (added : ℕ) → is_calendar_full v added ≡ false → length v.calendar + added ≤ 4000
room_in v added e = not_above 4000 (length v.calendar + added) (or_parts (nat_lt 4000 (length v.calendar + added)) (nat_lt 4_294_967_296 (v.next_row + added)) e).0

rows_step : (court : CourtSettings) (h : History) (a : Action) → IsPassed court h a → length (standing_rows h) ≤ 4000 → length (standing_rows h) + length (rows_added (items_of (standing_rows h)) a) ≤ 4000
rows_step court h a is few = at (asks_next_row a) refl
  where
    at : (asked : Bool) → asks_next_row a ≡ asked → length (standing_rows h) + length (rows_added (items_of (standing_rows h)) a) ≤ 4000
    at true e =
        let items = items_of (standing_rows h) in
        let shown : (shown_fresh h a).calendar ≡ items = ap (λ asked. if asked || option_map_or is_timed (case_work a) false then items else []) e in
        omega (
          arith,
          room_in (shown_fresh h a) (count_added (shown_fresh h a) a) (calendar_room (shown_fresh h a) a is.room e),
          ap length shown,
          ap length (added_same items a),
          length-map (standing_rows h) (λ (row : CalendarRow). row.item),
        )
    at false e = let none : length (rows_added (items_of (standing_rows h)) a) ≡ 0 = ap (λ asked. length (fresh (items_of (standing_rows h)) asked)) (no_rows a e) in omega (arith, none)

next_step : (court : CourtSettings) (h : History) (a : Action) → IsPassed court h a → next_row h ≤ 4_294_967_296 → next_row h + length (rows_added (items_of (standing_rows h)) a) ≤ 4_294_967_296
next_step court h a is was = at (asks_next_row a) refl
  where
    at : (asked : Bool) → asks_next_row a ≡ asked → next_row h + length (rows_added (items_of (standing_rows h)) a) ≤ 4_294_967_296
    at true e =
        let shown : (shown_fresh h a).next_row ≡ next_row h = ap (λ asked. if_asked asked (next_row h)) e in
        omega (arith, rows_fit (shown_fresh h a) a is.room (omega (arith, shown, was)), shown, ap length (added_same (items_of (standing_rows h)) a))
    at false e = let none : length (rows_added (items_of (standing_rows h)) a) ≡ 0 = ap (λ asked. length (fresh (items_of (standing_rows h)) asked)) (no_rows a e) in omega (arith, none, was)

fewer : (w : Option ℕ) (rows : List CalendarRow) → length (without_row w rows) ≤ length rows
fewer None rows = omega arith
fewer (Some number) rows = filter_within (λ (row : CalendarRow). not (row.number == number)) rows

some_if : (b : Bool) (row : CalendarRow) (rows : List CalendarRow) → IsEnteredItem row.item → All IsEnteredItem (items_of rows) → All IsEnteredItem (items_of (cond b (row ∷ rows) rows))
some_if true row rows here rest = All-cons IsEnteredItem row.item (items_of rows) here rest
some_if false row rows here rest = rest

some_entered : (p : CalendarRow → Bool) (rows : List CalendarRow) → All IsEnteredItem (items_of rows) → All IsEnteredItem (items_of (filter p rows))
some_entered p [] all = all
some_entered p (row ∷ rows) all =
    some_if (p row) row (filter p rows) (All-head IsEnteredItem row.item (items_of rows) all)
    (some_entered p rows (All-tail IsEnteredItem row.item (items_of rows) all))

left_entered : (w : Option ℕ) (rows : List CalendarRow) → All IsEnteredItem (items_of rows) → All IsEnteredItem (items_of (without_row w rows))
left_entered None rows all = all
left_entered (Some number) rows all = some_entered (λ row. not (row.number == number)) rows all

pub within_limits : (court : CourtSettings) (h : History) → IsHistory court h → IsWithinLimits court h
within_limits court [] is = record { items = All-nil IsEnteredItem; rows = omega arith; next_row = omega arith; cases = omega arith; parties = λ k. omega arith; entries = λ k. omega arith; deadlines = λ k. omega arith; acts = λ k n low high. absurd (omega (arith, low, high)); local_rules = omega arith; lawful_rules = All-nil IsLawfulRow }
within_limits court (c ∷ h) is =
    let a = c.action in
    let before = within_limits court h is.1 in
    let p = passed court h c is.0.0 is.0.1 in
    let added = rows_added (items_of (standing_rows h)) a in
    record {
      items = subst (All IsEnteredItem) (sym (map-append (λ (row : CalendarRow). row.item) (without_row (row_withdrawn a) (standing_rows h)) (numbered (next_row h) added)))
          (All-append IsEnteredItem (items_of (without_row (row_withdrawn a) (standing_rows h))) (items_of (numbered (next_row h) added))
          (left_entered (row_withdrawn a) (standing_rows h) before.items)
          (numbered_entered (next_row h) added (fresh_entered (items_of (standing_rows h)) (rows_asked a) (asked_entered court a p.values))));
      rows = omega (arith, length-append (without_row (row_withdrawn a) (standing_rows h)) (numbered (next_row h) added), length-numbered (next_row h) added, fewer (row_withdrawn a) (standing_rows h), rows_step court h a p before.rows);
      next_row = next_step court h a p before.next_row;
      cases = omega (arith, length-append (case_rows h) (new_case (length (case_rows h)) a), cases_step court h a p before.cases);
      parties = λ k. parties_step court h a k p (before.parties k);
      entries = λ k. entries_step court h a k p (before.entries k);
      deadlines = λ k. deadlines_step court h a k p (before.deadlines k);
      acts = λ k n low high. ((all_kept court (c ∷ h) is k n).sound low high).lawful;
      local_rules = omega (arith, length-append (local_rule_rows h) (new_local_rule (length (local_rule_rows h)) a), rules_step court h a p before.local_rules);
      lawful_rules = rules_lawful court (c ∷ h) is;
    }

-- what a history shows

items_shown : (b : Bool) (items : List CalendarItem) → All IsEnteredItem items → All IsEnteredItem (if b then items else [])
items_shown true items all = all
items_shown false items all = All-nil IsEnteredItem

count_shown : (b : Bool) (items : List CalendarItem) → length items ≤ 4000 → length (if b then items else []) ≤ 4000
count_shown true items few = few
count_shown false items few = omega arith

next_shown : (b : Bool) (n : ℕ) → n ≤ 4_294_967_296 → if_asked b n ≤ 4_294_967_296
next_shown true n fits = fits
next_shown false n fits = omega arith

-- what holds of the acts of each deadline holds of those of each that is shown
module _ (h : History) (Holds : List Act → Type 0) (each : (k n : ℕ) → 1 ≤ n → n ≤ length (deadlines_of_case k (deadline_rows h)) → Holds (acts_of_deadline k n (act_rows h))) where
  abbrev Has : DeadlineView → Type 0
  Has d = Holds d.acts

  all_from : (k m : ℕ) (rows : List DeadlineRow) → ((i : ℕ) → i < length rows → Holds (acts_of_deadline k (m + i) (act_rows h))) → All Has (deadlines_from k m (act_rows h) rows)
  all_from k m [] each = All-nil Has
  all_from k m (row ∷ rows) each =
      let start : m + 0 ≡ m = omega arith in
      All-cons Has _ (deadlines_from k (m + 1) (act_rows h) rows)
      (subst (λ (j : ℕ). Holds (acts_of_deadline k j (act_rows h))) start (each 0 (omega arith)))
      (all_from k (m + 1) rows (λ i lt. let place : m + (i + 1) ≡ m + 1 + i = omega arith in subst (λ (j : ℕ). Holds (acts_of_deadline k j (act_rows h))) place (each (i + 1) (omega (arith, lt)))))

  all_deadlines : (k : ℕ) → All Has (deadlines k h)
  all_deadlines k = all_from k 1 (deadlines_of_case k (deadline_rows h)) (λ i lt. each k (1 + i) (omega arith) (omega (arith, lt)))

  one_got : (ds : List DeadlineView) (n : ℕ) (o : Option DeadlineView) → slice_get ds n ≡ o → All Has ds → IfSome o Has
  one_got ds n None e all = tt
  one_got ds n (Some d) e all = one_of_all Has ds n d all e

  one_of : (ds : List DeadlineView) (o : Option ℕ) → All Has ds → IfSome (option_and_then (deadline_at ds) o) Has
  one_of ds None all = tt
  one_of ds (Some zero) all = tt
  one_of ds (Some (suc n)) all = one_got ds n (slice_get ds n) refl all

  one_if : (b : Bool) (case : CaseView) → IfSome case.named Has → IfSome (named_in (if b then Some case else None)) Has
  one_if true case has = has
  one_if false case has = tt

  one_shown : (a : Action) (o : Option ℕ) → IfSome (named_in (option_and_then (case_of_number h a) o)) Has
  one_shown a None = tt
  one_shown a (Some k) = one_if (nat_le 1 k && nat_le k (length (case_rows h))) _ (one_of (deadlines k h) (deadline_named a) (all_deadlines k))

pub lawful_deadlines : (court : CourtSettings) (h : History) → IsWithinLimits court h → (k : ℕ) → All (λ (d : DeadlineView). AreActs (zone_of court) d.acts) (deadlines k h)
lawful_deadlines court h within k = all_deadlines h (AreActs (zone_of court)) within.acts k

-- the acts of a deadline that is shown are lawful, and there is room for one more where its time is not over
lawful_acts : (rules : ZoneRules) (o : Option DeadlineView) → IfSome o (λ (d : DeadlineView). AreSound rules d.acts) → IfSome o (λ (d : DeadlineView). AreActs rules d.acts)
lawful_acts rules None sound = tt
lawful_acts rules (Some d) sound = sound.lawful

room_left : (rules : ZoneRules) (entered : Entered) (o : Option DeadlineView) → IfSome o (λ (d : DeadlineView). AreSound rules d.acts)
    → is_over (standing_by_acts rules entered (acts_in o)) ≡ false → length (acts_in o) < 100
room_left rules entered None sound going = omega arith
room_left rules entered (Some d) sound going = sound.room entered going

pub sound_view : (court : CourtSettings) (h : History) → IsHistory court h → (c : Command) → IsSoundView court (shown court h c)
sound_view court h is c =
    let within = within_limits court h is in
    let sound = one_shown h (AreSound (zone_of court)) (λ k n low high. (all_kept court h is k n).sound low high) c.action (case_named c.action) in
    record {
      items = items_shown (asks_calendar c.action) (items_of (standing_rows h)) within.items;
      rows = count_shown (asks_calendar c.action) (items_of (standing_rows h)) (omega (arith, length-map (standing_rows h) (λ (row : CalendarRow). row.item), within.rows));
      next_row = next_shown (asks_next_row c.action) (next_row h) within.next_row;
      acts = lawful_acts (zone_of court) (deadline_shown (shown court h c)) sound;
      room = room_left (zone_of court) (calendar_of (shown court h c).calendar) (deadline_shown (shown court h c)) sound;
      local = named_lawful (local_rule_rows h) _ (rules_lawful court h is);
    }
