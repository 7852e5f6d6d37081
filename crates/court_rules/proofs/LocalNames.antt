-- The names of local rules.
use Rattle.std.proofs.Common.{◌≡◌, ℕ, List, Bool, true, false, Option, Some, None, refl, sym, ap, ◌∙◌, subst}
use Rattle.court_rules.specs.declared.deadline_rule.DeadlineRule.{DeadlineRule}
use Rattle.court_rules.specs.declared.deadline_rule.DeadlineRule.TheVariants.{Listed, Local}
use Rattle.court_rules.specs.declared.rule.Rule.{Rule}
use Rattle.court_rules.specs.declared.rule.Rule.TheVariants.{AnswerToSummons}
use Rattle.court_rules.specs.LocalRules.{is_local_name, IsDeadlineRule, deadline_rule_name, deadline_rule_named, named_locally, listed_or}
use Rattle.court_rules.specs.Rules.{line_of, name_of, rule_named}
use Rattle.court_rules.proofs.Names.{rule_named-name_of, name_of-named}

-- no rule of the table has the name of a local one, by computing each
listed_name : (rule : Rule) → is_local_name (name_of rule) ≡ false
unfolding is_local_name line_of
listed_name AnswerToSummons = refl
listed_name _ = refl

pub none_listed : (text : List ℕ) → is_local_name text ≡ true → rule_named text ≡ None
none_listed text local = at (rule_named text) refl
  where
    at : (r : Option Rule) → rule_named text ≡ r → r ≡ None
    at None e = refl
    at (Some rule) e =
        let off : is_local_name text ≡ false = ap is_local_name (sym (name_of-named text rule e)) ∙ listed_name rule in
        absurd (cc)

pub read_back : (rule : DeadlineRule) → IsDeadlineRule rule → deadline_rule_named (deadline_rule_name rule) ≡ Some rule
read_back (Listed rule) is = ap (λ r. listed_or r (named_locally (is_local_name (name_of rule)) (name_of rule))) (rule_named-name_of rule)
read_back (Local name) is = (λ i. listed_or (none_listed name is i) (named_locally (is i) name))

module _ (text : List ℕ) (rule : DeadlineRule) where
  pub name_back : deadline_rule_named text ≡ Some rule → deadline_rule_name rule ≡ text
  name_back e = at (rule_named text) refl (is_local_name text) e
    where
      at : (r : Option Rule) → rule_named text ≡ r → (b : Bool) → listed_or r (named_locally b text) ≡ Some rule → deadline_rule_name rule ≡ text
      at (Some found) is b f = let same : Listed found ≡ rule = cc in sym (ap deadline_rule_name same) ∙ name_of-named text found is
      at None is true f = let same : Local text ≡ rule = cc in sym (ap deadline_rule_name same)
      at None is false f = absurd (cc)

  pub lawful_back : deadline_rule_named text ≡ Some rule → IsDeadlineRule rule
  lawful_back e = at (rule_named text) (is_local_name text) refl e
    where
      at : (r : Option Rule) → (b : Bool) → is_local_name text ≡ b → listed_or r (named_locally b text) ≡ Some rule → IsDeadlineRule rule
      at (Some found) b is f = let same : Listed found ≡ rule = cc in subst IsDeadlineRule same tt
      at None true is f = let same : Local text ≡ rule = cc in subst IsDeadlineRule same is
      at None false is f = absurd (cc)
