-- Deadlines with their acts, one after another.
use Rattle.std.proofs.Common.{◌≡◌, ◌∙◌, ◌+◌, ◌<◌, ℕ, zero, suc, List, [], ◌∷◌, ◌++◌, map, length, take, get_or, sym, ap, ap₂, arith, true, false, if◌then◌else◌, Bool, Option, Some, None, slice_get, add-zero, refl}
use Rattle.std.proofs.lemmas.List.{take_more, length-take}
use Rattle.court_rules.specs.declared.act.Act.{Act}
use Rattle.court_rules.specs.declared.local_rule.LocalRule.{LocalRule}
use Rattle.docket_history.specs.Histories.{deadlines_from, acts_of_deadline, parties_of_case, entries_of_case, deadlines_of_case, local_rule_in}
use Rattle.std.specs.Option.{option_and_then, option_map}
use Rattle.docket_command.specs.declared.command.Command.{Command}
use Rattle.docket_history.specs.Actions.{case_named, asks_parties, asks_entries, asks_deadlines, if_asked}
use Rattle.docket_decisions.specs.Outcomes.{under_key}
use Rattle.docket_history.specs.declared.item.CalendarItem.{CalendarItem}
use Rattle.docket_history.specs.declared.view.Kept.{Kept}
use Rattle.docket_decisions.specs.Tables.{Tables, case_in, case_named_in, case_deadlines, deadlines_in, is_case_in, view_in}
use Rattle.docket_history.specs.Views.{case_shown, deadline_at, deadline_of, is_served_among, named_in, rule_name_asked}
use Rattle.docket_command.specs.declared.command.Action.{Action}
use Rattle.docket_history.specs.declared.view.CaseView.{CaseView}
use Rattle.docket_history.specs.declared.row.ActRow.{ActRow}
use Rattle.docket_history.specs.declared.row.DeadlineRow.{DeadlineRow}
use Rattle.docket_history.specs.declared.view.DeadlineView.{DeadlineView}
use Rattle.docket_decisions.proofs.Leading.{length-deadlines_from}
use Rattle.docket_orderly.specs.Orderly.{RunsFrom}
use Rattle.docket_tables.specs.Readings.{row_at}
use Rattle.docket_applying.specs.Viewing.{numbers_in}
use Rattle.docket_applying.specs.declared.viewing.NumbersShown.{NumbersShown}

abbrev pub shown_with : DeadlineRow → List Act → DeadlineView
shown_with row acts = record { party = row.party; rule = row.rule; initial = row.initial; acts = acts }

from-snoc : (k n : ℕ) (acts : List ActRow) (rows : List DeadlineRow) (row : DeadlineRow) → deadlines_from k n acts (rows ++ row ∷ []) ≡ deadlines_from k n acts rows ++ shown_with row (acts_of_deadline k (n + length rows) acts) ∷ []
from-snoc k n acts [] row = let same : n ≡ n + 0 = omega arith in ap (λ m. shown_with row (acts_of_deadline k m acts) ∷ []) same
from-snoc k n acts (r ∷ rows) row =
    let same : (n + 1) + length rows ≡ n + length (r ∷ rows) = omega arith in
    ap (λ ds. shown_with r (acts_of_deadline k n acts) ∷ ds) (from-snoc k (n + 1) acts rows row ∙ ap (λ m. deadlines_from k (n + 1) acts rows ++ shown_with row (acts_of_deadline k m acts) ∷ []) same)

pub number_at : (n i : ℕ) (rows : List DeadlineRow) (d : DeadlineRow) → RunsFrom n (map (λ r. r.number) rows) → i < length rows → (get_or rows i d).number ≡ n + i
number_at n i [] d runs low = absurd (omega (arith, low))
number_at n zero (r ∷ rows) d runs low = runs.0 ∙ omega arith
number_at n (suc i) (r ∷ rows) d runs low = number_at (suc n) i rows d runs.1 (omega (arith, low)) ∙ omega arith

-- one deadline more
pub shown_more : (k i : ℕ) (acts : List ActRow) (rows : List DeadlineRow) (row : DeadlineRow) (found more : List DeadlineView) (list : List Act) → row ≡ get_or rows i row → RunsFrom 1 (map (λ r. r.number) rows) → i < length rows
    → found ≡ deadlines_from k 1 acts (take i rows) → list ≡ acts_of_deadline k row.number acts → more ≡ found ++ shown_with row list ∷ [] → more ≡ deadlines_from k 1 acts (take (i + 1) rows)
shown_more k i acts rows row found more list there runs low was listed pushed =
    let number : row.number ≡ 1 + length (take i rows) = ap (λ (r : DeadlineRow). r.number) there ∙ number_at 1 i rows row runs low ∙ omega (arith, length-take i rows, low) in
    pushed ∙ ap₂ (λ ds l. ds ++ shown_with row l ∷ []) was (listed ∙ ap (λ m. acts_of_deadline k m acts) number) ∙ sym (from-snoc k 1 acts (take i rows) row)
    ∙ ap (λ r. deadlines_from k 1 acts (take i rows ++ r ∷ [])) there ∙ ap (deadlines_from k 1 acts) (sym (take_more rows i row low))

-- the deadline of a number
at_place : (k m : ℕ) (acts : List ActRow) (rows : List DeadlineRow) (i : ℕ) → slice_get (deadlines_from k m acts rows) i ≡ option_map (λ row. shown_with row (acts_of_deadline k (m + i) acts)) (slice_get rows i)
at_place k m acts [] i = refl
at_place k m acts (row ∷ rows) zero = ap (λ n. Some (shown_with row (acts_of_deadline k n acts))) (sym (add-zero m))
at_place k m acts (row ∷ rows) (suc i) =
    let same : m + 1 + i ≡ m + suc i = omega arith in
    at_place k (m + 1) acts rows i ∙ ap (λ n. option_map (λ r. shown_with r (acts_of_deadline k n acts)) (slice_get rows i)) same

pub no_deadline : (t : Tables) (k n : ℕ) → row_at (deadlines_of_case k t.deadlines) n ≡ None → deadline_at (deadlines_in t k) n ≡ None
no_deadline t k zero none = refl
no_deadline t k (suc n) none = at_place k 1 t.acts (deadlines_of_case k t.deadlines) n ∙ ap (option_map (λ row. shown_with row (acts_of_deadline k (1 + n) t.acts))) none

pub one_deadline : (t : Tables) (k n : ℕ) (row : DeadlineRow) (acts : List Act) → row_at (deadlines_of_case k t.deadlines) n ≡ Some row → acts ≡ acts_of_deadline k n t.acts
    → deadline_at (deadlines_in t k) n ≡ Some (shown_with row acts)
one_deadline t k zero row acts one are = absurd (cc)
one_deadline t k (suc n) row acts one are =
    let same : 1 + n ≡ suc n = omega arith in
    at_place k 1 t.acts (deadlines_of_case k t.deadlines) n ∙ ap (option_map (λ r. shown_with r (acts_of_deadline k (1 + n) t.acts))) one
    ∙ ap (λ m. Some (shown_with row (acts_of_deadline k m t.acts))) same ∙ ap (λ xs. Some (shown_with row xs)) (sym are)

-- the case of a number
pub no_case : (t : Tables) (a : Action) (k : ℕ) → is_case_in t k ≡ false → case_in t a k ≡ None
no_case t a k out = ap (λ b. if b then Some (case_shown k (length (parties_of_case k t.parties)) (length (entries_of_case k t.entries)) (deadlines_in t k) a) else None) out

pub one_case : (t : Tables) (a : Action) (k parties entries count : ℕ) (named : Option DeadlineView) (served : Bool) → is_case_in t k ≡ true → parties ≡ if_asked (asks_parties a) (length (parties_of_case k t.parties)) → entries ≡ if_asked (asks_entries a) (length (entries_of_case k t.entries))
    → count ≡ if_asked (asks_deadlines a) (length (deadlines_of_case k t.deadlines)) → named ≡ deadline_of (deadlines_in t k) a → served ≡ is_served_among (deadlines_in t k) a
    → case_in t a k ≡ Some (record { number = k; parties = parties; entries = entries; deadlines = count; named = named; is_served = served })
one_case t a k parties entries count named served among p e d n s =
    ap (λ b. if b then Some (case_shown k (length (parties_of_case k t.parties)) (length (entries_of_case k t.entries)) (deadlines_in t k) a) else None) among
    ∙ λ i. Some (record { number = k; parties = sym p i; entries = sym e i; deadlines = (ap (if_asked (asks_deadlines a)) (length-deadlines_from k 1 t.acts (deadlines_of_case k t.deadlines)) ∙ sym d) i; named = sym n i; is_served = sym s i })

pub none_told : (t : Tables) (k : ℕ) → is_case_in t k ≡ false → case_deadlines t k ≡ None
none_told t k out = ap (λ b. if b then Some (deadlines_in t k) else None) out

pub deadlines_told : (t : Tables) (k : ℕ) (deadlines : List DeadlineView) → is_case_in t k ≡ true → deadlines ≡ deadlines_in t k → case_deadlines t k ≡ Some deadlines
deadlines_told t k deadlines among are = ap (λ b. if b then Some (deadlines_in t k) else None) among ∙ ap Some (sym are)

-- a view without a calendar
pub whole_view : (t : Tables) (c : Command) (kept_is : Kept) (numbers : NumbersShown) (case : Option CaseView) (items : List CalendarItem) (local : Option LocalRule) → kept_is ≡ under_key t.receipts c
    → numbers ≡ numbers_in t c.action
    → case ≡ option_and_then (case_in t c.action) (case_named c.action) → items ≡ []
    → local ≡ option_and_then (local_rule_in t.local_rules) (rule_name_asked (named_in case) c.action)
    → record { under_key = kept_is; cases = numbers.cases; label_taken = numbers.label_taken; case = case; row_stands = numbers.row_stands; calendar = items; next_row = numbers.next_row; local = local; local_rules = numbers.local_rules } ≡ record (view_in t c) { calendar = [] }
whole_view t c kept_is numbers case items local a n e none l =
    let found : local ≡ option_and_then (local_rule_in t.local_rules) (rule_name_asked (named_in (case_named_in t c.action)) c.action) =
    l ∙ ap (λ shown. option_and_then (local_rule_in t.local_rules) (rule_name_asked (named_in shown) c.action)) e in
    λ i. record { under_key = a i; cases = (n i).cases; label_taken = (n i).label_taken; case = e i; row_stands = (n i).row_stands; calendar = none i; next_row = (n i).next_row; local = found i; local_rules = (n i).local_rules }
