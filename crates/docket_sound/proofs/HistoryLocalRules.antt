-- The local rules of a history, by an induction on it.
use Rattle.std.proofs.Common.{◌≡◌, ◌∙◌, ℕ, ◌+◌, Bool, true, false, ◌||◌, Option, Some, None, List, [], ◌∷◌, ◌++◌, length, cond, refl, sym, ap, subst, append-nil}
use Rattle.std.proofs.lemmas.List.Elements.{recursion_from_All}
use Rattle.std.specs.Prelude.{is_some, IfSome}
use Rattle.std.specs.List.{find}
use Rattle.std.specs.Option.{option_and_then, option_map}
use Rattle.std.specs.Str.{bytes_eq}
use Rattle.court_rules.specs.LocalRules.{is_local_rule}
use Rattle.court_rules.specs.declared.local_rule.LocalRule.{LocalRule}
use Rattle.court_days.specs.Court.{CourtSettings}
use Rattle.docket_command.specs.declared.command.Action.{Action}
use Rattle.docket_command.specs.declared.command.Action.TheVariants as action
use Rattle.docket_command.specs.declared.command.Command.{Command}
use Rattle.docket_history.specs.Actions.{local_rule_named}
use Rattle.docket_history.specs.Histories.{History, local_rule_rows, local_rule_in, new_local_rule, rule_found}
use Rattle.docket_decisions.specs.Outcomes.{IsHistory, shown}
use Rattle.docket_history.specs.declared.row.LocalRuleRow.{LocalRuleRow}
use Rattle.docket_decisions.proofs.LimitsKept.{within_limits}
use Rattle.docket_decisions.proofs.Passed.{IsFree}
use Rattle.docket_sound.specs.KnownTexts.{is_one_of}
use Rattle.docket_sound.specs.LocalRules.{AreSoundLocalRules, rule_names}
use Rattle.docket_sound.proofs.AcceptedLemmas.{freed}
use Rattle.docket_sound.proofs.LocalRuleLemmas.{AreListed, listed_more, names_more}

-- a rule is found by its name where one of the rules has it, and there alone
is_found : (rows : List LocalRuleRow) (name : List ℕ) → is_some (local_rule_in rows name) ≡ is_one_of (rule_names rows) name
is_found [] name = refl
is_found (row ∷ rows) name = at (bytes_eq row.rule.name name) (is_found rows name)
  where
    at : (b : Bool) → is_some (local_rule_in rows name) ≡ is_one_of (rule_names rows) name
        → is_some (option_map (λ (r : LocalRuleRow). r.rule) (cond b (Some row) (find (λ (r : LocalRuleRow). bytes_eq r.rule.name name) rows))) ≡ (b || is_one_of (rule_names rows) name)
    at true rest = refl
    at false rest = rest

-- so the rule that is named stands
found_there : (rows : List LocalRuleRow) (name : List ℕ) (found : Option LocalRule) → local_rule_in rows name ≡ found → IfSome found (λ _. is_one_of (rule_names rows) name ≡ true)
found_there rows name None is = tt
found_there rows name (Some rule) is = sym (is_found rows name) ∙ ap is_some is

-- the local rule that an action names stands, where one is found
abbrev pub NamedStands : (List ℕ → Bool) → Option (List ℕ) → Option LocalRule → Type 0
NamedStands stands named found = IfSome found (λ _. IfSome named (λ name. stands name ≡ true))

named_there : (rows : List LocalRuleRow) (named : Option (List ℕ)) → NamedStands (is_one_of (rule_names rows)) named (option_and_then (local_rule_in rows) named)
named_there rows None = tt
named_there rows (Some name) = found_there rows name (local_rule_in rows name) refl

pub found_stands : (h : History) (a : Action) → NamedStands (is_one_of (rule_names (local_rule_rows h))) (local_rule_named a) (rule_found h a)
found_stands h a = named_there (local_rule_rows h) (local_rule_named a)

-- no rule goes
pub still_stands : (h : History) (c : Command) (name : List ℕ) → is_one_of (rule_names (local_rule_rows h)) name ≡ true → is_one_of (rule_names (local_rule_rows (c ∷ h))) name ≡ true
still_stands h c name stood =
    let new = new_local_rule (length (local_rule_rows h)) c.action in
    names_more (local_rule_rows h) new name ∙ ap (λ b. b || is_one_of (rule_names new) name) stood

rule_step : (court : CourtSettings) (h : History) (c : Command) (a : Action) → c.action ≡ a → IsFree court (shown court h c) c → AreListed (local_rule_rows h)
    → AreListed (local_rule_rows h ++ new_local_rule (length (local_rule_rows h)) a)
rule_step court h c (action.LocalRule a) is free listed =
    let new = rw is at free.new in
    listed_more (local_rule_rows h) (record { number = length (local_rule_rows h) + 1; rule = a }) listed refl (sym (is_found (local_rule_rows h) a.name) ∙ new)
rule_step court h c _ is free listed = subst AreListed (sym (append-nil (local_rule_rows h))) listed

rules_listed : (court : CourtSettings) (h : History) → IsHistory court h → AreListed (local_rule_rows h)
rules_listed court [] is = record { numbered = tt; apart = tt }
rules_listed court (c ∷ h) is = rule_step court h c c.action refl (freed court h c is.0.0 is.0.1) (rules_listed court h is.1)

pub sound_local_rules : (court : CourtSettings) (h : History) → IsHistory court h → AreSoundLocalRules (local_rule_rows h)
sound_local_rules court h is =
    let listed = rules_listed court h is in
    let limits = within_limits court h is in
    record {
      numbered = listed.numbered;
      few = limits.local_rules;
      apart = listed.apart;
      within = recursion_from_All (λ (row : LocalRuleRow). is_local_rule row.rule ≡ true) (local_rule_rows h) limits.lawful_rules;
    }
