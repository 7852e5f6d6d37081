-- Where a command makes no deadline.
use Rattle.std.proofs.Common.{◌≡◌, ◌∙◌, ◌≤◌, ◌<◌, ◌⊎◌, inl, inr, ◌==◌, ◌&&◌, ◌+◌, ℕ, Bool, true, false, cond, List, [], ◌∷◌, ◌++◌, length, Option, Some, None, refl, ap, arith, append-nil}
use Rattle.std.specs.Prelude.{nat_le, unwrap_or}
use Rattle.std.specs.Option.{option_and_then}
use Rattle.std.proofs.lemmas.Bool.Decides.{nat_tests}
use Rattle.std.proofs.lemmas.Bool.{and_parts}
use Rattle.std.proofs.lemmas.List.{length-append}
use Rattle.std.proofs.lemmas.List.Elements.{filter-append}
use Rattle.court_days.specs.Court.{CourtSettings}
use Rattle.docket_command.specs.declared.command.Action.{Action}
use Rattle.docket_history.specs.Actions.{FoundRule, case_named, deadlines_made}
use Rattle.docket_history.specs.Histories.{History, case_number, case_rows, new_case, deadline_rows, deadlines_of_case, deadline_rows_from, new_deadlines, rule_found}
use Rattle.docket_decisions.specs.Outcomes.{IsHistory, shown_fresh, case_of_number}
use Rattle.docket_history.specs.declared.row.DeadlineRow.{DeadlineRow}
use Rattle.docket_history.specs.declared.view.CaseView.{CaseView}
use Rattle.docket_history.proofs.Asked.{none_made, none_acted_in}
use Rattle.docket_decisions.proofs.Leading.{seen}
use Rattle.docket_decisions.proofs.LimitsKept.{passed}
use Rattle.docket_decisions.proofs.StillEnds.{MakesNothing}
use Rattle.docket_command.specs.declared.command.Command.{Command}
use Rattle.docket_orderly.proofs.ActionLemmas.{NewDeadline}

-- rows of another case

deadlines_elsewhere : (j k n : ℕ) (made : List NewDeadline) → (k == j) ≡ false → deadlines_of_case j (deadline_rows_from k n made) ≡ []
deadlines_elsewhere j k n [] off = refl
deadlines_elsewhere j k n (d ∷ made) off =
    ap (λ b. cond b (record { case = k; number = n; party = d.party; rule = d.rule; initial = d.initial } ∷ deadlines_of_case j (deadline_rows_from k (n + 1) made)) (deadlines_of_case j (deadline_rows_from k (n + 1) made))) off
    ∙ deadlines_elsewhere j k (n + 1) made off

-- the action makes nothing in case j
abbrev pub IsElsewhere : ℕ → Action → Type 0
IsElsewhere j a = MakesNothing a ⊎ ((case_number a == j) ≡ false)

new_elsewhere : (j n : ℕ) (found : FoundRule) (a : Action) → IsElsewhere j a → deadlines_of_case j (deadline_rows_from (case_number a) n (deadlines_made found a)) ≡ []
new_elsewhere j n found a (inl none) = ap (λ made. deadlines_of_case j (deadline_rows_from (case_number a) n made)) (none.0 found)
new_elsewhere j n found a (inr off) = deadlines_elsewhere j (case_number a) n (deadlines_made found a) off

pub deadlines_kept : (h : History) (c : Command) (j : ℕ) → IsElsewhere j c.action → deadlines_of_case j (deadline_rows (c ∷ h)) ≡ deadlines_of_case j (deadline_rows h)
deadlines_kept h c j off =
    filter-append (λ (row : DeadlineRow). row.case == j) (deadline_rows h) (new_deadlines (rule_found h c.action) (length (deadlines_of_case (case_number c.action) (deadline_rows h))) c.action)
    ∙ ap (λ xs. deadlines_of_case j (deadline_rows h) ++ xs) (new_elsewhere j _ (rule_found h c.action) c.action off) ∙ append-nil _

-- a case that is named is there
range_of : (h : History) (a : Action) (x : CaseView) → (shown_fresh h a).case ≡ Some x → (nat_le 1 (case_number a) && nat_le (case_number a) (length (case_rows h))) ≡ true
range_of h a x is = at (case_named a) is
  where
    within : (k : ℕ) (b : Bool) (y : CaseView) → (nat_le 1 k && nat_le k (length (case_rows h))) ≡ b → cond b (Some y) None ≡ Some x → (nat_le 1 k && nat_le k (length (case_rows h))) ≡ true
    within k true y e f = e
    within k false y e f = absurd (let no = f in cc)

    at : (o : Option ℕ) → option_and_then (case_of_number h a) o ≡ Some x → (nat_le 1 (unwrap_or o 0) && nat_le (unwrap_or o 0) (length (case_rows h))) ≡ true
    at None e = absurd (let no = e in cc)
    at (Some k) e = within k (nat_le 1 k && nat_le k (length (case_rows h))) _ refl e

-- the number of the case that is shown is at most their count
pub case_there : (h : History) (a : Action) (x : CaseView) → (shown_fresh h a).case ≡ Some x → (1 ≤ case_number a) × (case_number a ≤ length (case_rows h))
case_there h a x is =
    let range = and_parts (nat_le 1 (case_number a)) (nat_le (case_number a) (length (case_rows h))) (range_of h a x is) in
    (grind (arith, nat_tests, range.0), grind (arith, nat_tests, range.1))

-- a number past the cases has no deadline
pub no_deadlines : (court : CourtSettings) (h : History) → IsHistory court h → (j : ℕ) → (j < 1) ⊎ (length (case_rows h) < j) → deadlines_of_case j (deadline_rows h) ≡ []
no_deadlines court [] is j out = refl
no_deadlines court (c ∷ h) is j out =
    deadlines_kept h c j (elsewhere (seen h c.action (passed court h c is.0.0 is.0.1).case)) ∙ no_deadlines court h is.1 j earlier
  where
    grown : length (case_rows h) ≤ length (case_rows (c ∷ h))
    grown = omega (arith, length-append (case_rows h) (new_case (length (case_rows h)) c.action))

    earlier : (j < 1) ⊎ (length (case_rows h) < j)
    earlier = elim out [ inl low ↦ inl low | inr high ↦ inr (omega (arith, grown, high)) ]

    elsewhere : {x : CaseView} → (case_named c.action ≡ None) ⊎ ((shown_fresh h c.action).case ≡ Some x) → IsElsewhere j c.action
    elsewhere (inl none) = inl (λ rule. none_made rule c.action none, none_acted_in c.action none)
    elsewhere {x} (inr found) =
        let range = case_there h c.action x found in
        inr (elim earlier [ inl under ↦ grind (arith, nat_tests, under, range.0) | inr over ↦ grind (arith, nat_tests, over, range.1) ])
