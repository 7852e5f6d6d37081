-- The local rules of a docket.
use Rattle.std.proofs.Common.{◌≡◌, ℕ, ◌+◌, ◌≤◌, Bool, true, false, cond, Option, Some, List, [], ◌∷◌, ◌++◌, map, length, IfSome, refl, sym, subst, arith, append-nil}
use Rattle.std.specs.Prelude.{find, bytes_eq, is_some}
use Rattle.std.specs.List.{All, AllByRecursion, filter_map}
use Rattle.std.specs.Option.{option_map}
use Rattle.std.proofs.lemmas.Slice.Eq.{bytes_eq-Decides}
use Rattle.std.proofs.lemmas.List.Elements.{filter-append, All-head, All-tail}
use Rattle.court_days.specs.Court.{CourtSettings}
use Rattle.court_rules.specs.LocalRules.{is_local_rule}
use Rattle.docket_command.specs.declared.command.Action.{Action}
use Rattle.docket_command.specs.declared.command.Action.TheVariants as action
use Rattle.docket_history.specs.Histories.{History, local_rule_in, local_rule_rows, new_local_rule, rule_found, local_rule_row}
use Rattle.docket_history.specs.Actions.{rule_entered}
use Rattle.docket_history.specs.InOrder.{in_order}
use Rattle.docket_decisions.specs.Outcomes.{IsHistory, shown, shown_fresh}
use Rattle.docket_decisions.specs.Refusals.{exists_already}
use Rattle.docket_history.specs.declared.row.LocalRuleRow.{LocalRuleRow}
use Rattle.docket_decisions.proofs.InOrderLemmas.{rules_in_order}
use Rattle.docket_decisions.proofs.Leading.{is_accepted}
use Rattle.docket_decisions.proofs.LimitsKept.{rules_lawful, within_limits}
use Rattle.docket_decisions.proofs.Passed.{is_free}
use Rattle.docket_decisions.proofs.ListLemmas.{all_both}
use Rattle.docket_wire.specs.Valid.{IsAction, IsCommand}
use Rattle.docket_columns.specs.Fits.{IsLocalRuleRow}
use Rattle.docket_orderly.specs.Orderly.{RunsFrom, local_rules_named}
use Rattle.docket_orderly.proofs.ActionLemmas.{IsFoundFor, IsNamed}
use Rattle.docket_orderly.proofs.ListLemmas.{numbered_runs}

-- the rule that is found under a name has that name, and is lawful

abbrev IsLawfulRow : LocalRuleRow → Type 0
IsLawfulRow row = is_local_rule row.rule ≡ true

in_named : (rows : List LocalRuleRow) (name : List ℕ) → All IsLawfulRow rows → IfSome (local_rule_in rows name) (IsNamed name)
in_named [] name all = tt
in_named (row ∷ rows) name all = at (bytes_eq row.rule.name name) refl (in_named rows name (All-tail IsLawfulRow row rows all))
  where
    at : (b : Bool) → bytes_eq row.rule.name name ≡ b → IfSome (local_rule_in rows name) (IsNamed name)
        → IfSome (option_map (λ (r : LocalRuleRow). r.rule) (cond b (Some row) (find (λ (r : LocalRuleRow). bytes_eq r.rule.name name) rows))) (IsNamed name)
    at true e rest = (All-head IsLawfulRow row rows all, (bytes_eq-Decides row.rule.name name).0 e)
    at false e rest = rest

pub found_for : (court : CourtSettings) (h : History) → IsHistory court h → (a : Action) → IsFoundFor (rule_found h a) a
found_for court h is (action.LocalPeriod a) = in_named (local_rule_rows h) a.rule (rules_lawful court h is)
found_for court h is _ = tt

-- rows
one_rule : (m : ℕ) (a : Action) → m ≤ 1000 → IsAction a → AllByRecursion IsLocalRuleRow (new_local_rule m a)
unfolding IsAction
one_rule m (action.LocalRule a) few is = ((omega (arith, few), is.0, is.1.0), tt)
one_rule m _ few is = tt

pub local_rules_held : (court : CourtSettings) (h : History) → IsHistory court h → AllByRecursion IsCommand h → AllByRecursion IsLocalRuleRow (local_rule_rows h)
local_rules_held court [] is all = tt
local_rules_held court (c ∷ h) is all =
    all_both IsLocalRuleRow (local_rule_rows h) (new_local_rule (length (local_rule_rows h)) c.action) (local_rules_held court h is.1 all.1)
    (one_rule (length (local_rule_rows h)) c.action (within_limits court h is.1).local_rules all.0.1)

pub local_rules_run : (h : History) → RunsFrom 1 (map (λ (row : LocalRuleRow). row.number) (local_rule_rows h))
local_rules_run h =
    subst (λ (rows : List LocalRuleRow). RunsFrom 1 (map (λ (row : LocalRuleRow). row.number) rows)) (sym (rules_in_order h))
    (numbered_runs local_rule_row (λ (row : LocalRuleRow). row.number) (λ n a. refl) 1 (filter_map rule_entered (in_order h)))

-- names are apart: no rule has the name of a new one

none_if : (b : Bool) (row : LocalRuleRow) (found : Option LocalRuleRow) (rest : List LocalRuleRow) → is_some (option_map (λ (r : LocalRuleRow). r.rule) (cond b (Some row) found)) ≡ false
    → (is_some (option_map (λ (r : LocalRuleRow). r.rule) found) ≡ false → rest ≡ []) → cond b (row ∷ rest) rest ≡ []
none_if true row found rest e none = absurd (cc)
none_if false row found rest e none = none e

none_named : (name : List ℕ) (rows : List LocalRuleRow) → is_some (local_rule_in rows name) ≡ false → local_rules_named name rows ≡ []
none_named name [] e = refl
none_named name (row ∷ rows) e =
    none_if (bytes_eq row.rule.name name) row (find (λ (r : LocalRuleRow). bytes_eq r.rule.name name) rows) (local_rules_named name rows) e (none_named name rows)

one_if : (rows : List LocalRuleRow) (new : LocalRuleRow) (name : List ℕ) → local_rules_named new.rule.name rows ≡ [] → length (local_rules_named name rows) ≤ 1
    → length (local_rules_named name (rows ++ new ∷ [])) ≤ 1
one_if rows new name none few =
    subst (λ (all : List LocalRuleRow). length all ≤ 1) (sym (filter-append (λ (row : LocalRuleRow). bytes_eq row.rule.name name) rows (new ∷ []))) (at (bytes_eq new.rule.name name) refl)
  where
    at : (b : Bool) → bytes_eq new.rule.name name ≡ b → length (local_rules_named name rows ++ cond b (new ∷ []) []) ≤ 1
    at true e =
        let gone : local_rules_named name rows ≡ [] = subst (λ k. local_rules_named k rows ≡ []) ((bytes_eq-Decides new.rule.name name).0 e) none in
        subst (λ (all : List LocalRuleRow). length (all ++ new ∷ []) ≤ 1) (sym gone) (omega arith)
    at false e = subst (λ (all : List LocalRuleRow). length all ≤ 1) (sym (append-nil (local_rules_named name rows))) few

one_more : (h : History) (a : Action) (name : List ℕ) → exists_already (shown_fresh h a) a ≡ false → length (local_rules_named name (local_rule_rows h)) ≤ 1
    → length (local_rules_named name (local_rule_rows h ++ new_local_rule (length (local_rule_rows h)) a)) ≤ 1
one_more h (action.LocalRule r) name new few =
    one_if (local_rule_rows h) (record { number = length (local_rule_rows h) + 1; rule = r }) name (none_named r.name (local_rule_rows h) new) few
one_more h _ name new few = subst (λ (all : List LocalRuleRow). length (local_rules_named name all) ≤ 1) (sym (append-nil (local_rule_rows h))) few

pub one_local_rule : (court : CourtSettings) (h : History) → IsHistory court h → (name : List ℕ) → length (local_rules_named name (local_rule_rows h)) ≤ 1
one_local_rule court [] is name = omega arith
one_local_rule court (c ∷ h) is name =
    let free = is_free court (shown court h c) c (is_accepted court (shown court h c) c is.0.0 is.0.1).free in
    one_more h c.action name free.new (one_local_rule court h is.1 name)
