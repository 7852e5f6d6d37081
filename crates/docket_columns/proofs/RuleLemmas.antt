-- The names of rules as texts.
use Rattle.std.proofs.Common.{◌≡◌, ℕ, Bool, true, false, if◌then◌else◌, nat_le, List, [], ◌∷◌, Some, None, IsUtf8, refl, ap, ◌∙◌, arith}
use Rattle.std.specs.List.{list_all}
use Rattle.std.specs.Str.{IsAscii}
use Rattle.std.proofs.lemmas.Bool.{and_parts}
use Rattle.std.proofs.lemmas.Bool.Decides.{nat_tests}
use Rattle.std.proofs.lemmas.Str.{IsUtf8-from_ascii}
use Rattle.std.proofs.lemmas.Str.Ascii.{IsAscii-nil, IsAscii-cons}
use Rattle.court_rules.specs.declared.deadline_rule.DeadlineRule.{DeadlineRule}
use Rattle.court_rules.specs.declared.deadline_rule.DeadlineRule.TheVariants.{Listed, Local}
use Rattle.court_rules.specs.declared.rule.Rule.{Rule}
use Rattle.court_rules.specs.declared.rule.Rule.TheVariants.{AnswerToSummons}
use Rattle.court_rules.specs.LocalRules.{is_visible, is_local_name, IsDeadlineRule, deadline_rule_name, deadline_rule_named}
use Rattle.court_rules.specs.Rules.{line_of, name_of}
use Rattle.court_rules.proofs.LocalNames.{read_back}
use Rattle.sqlite_value.specs.declared.value.Value.{Value}
use Rattle.sqlite_value.specs.declared.value.Value.TheVariants.{Text}
use Rattle.docket_columns.specs.Cells.{local_name_at}

listed_utf8 : (rule : Rule) → IsUtf8 (name_of rule)
unfolding line_of lib.Utf8.encode
listed_utf8 AnswerToSummons = (name_of AnswerToSummons, (refl, refl))
listed_utf8 rule = (name_of rule, (refl, refl))

visible_ascii : (text : List ℕ) → list_all is_visible text ≡ true → IsAscii text
visible_ascii [] e = IsAscii-nil
visible_ascii (x ∷ xs) e =
    let both = and_parts (is_visible x) (list_all is_visible xs) e in
    let high = (and_parts (nat_le 0x21 x) (nat_le x 0x7E) both.0).1 in
    IsAscii-cons x xs (grind (arith, nat_tests, high)) (visible_ascii xs both.1)

pub local_utf8 : (name : List ℕ) → is_local_name name ≡ true → IsUtf8 name
unfolding is_local_name
local_utf8 name e = IsUtf8-from_ascii name (visible_ascii name (and_parts (list_all is_visible name) _ (and_parts _ _ e).1).0)

pub name_utf8 : (rule : DeadlineRule) → IsDeadlineRule rule → IsUtf8 (deadline_rule_name rule)
name_utf8 (Listed rule) is = listed_utf8 rule
name_utf8 (Local name) is = local_utf8 name is

pub named_back : (text : List ℕ) (rule : DeadlineRule) → IsDeadlineRule rule → text ≡ deadline_rule_name rule → deadline_rule_named text ≡ Some rule
named_back text rule is e = ap deadline_rule_named e ∙ read_back rule is

unnamed : (text : List ℕ) (is : Bool) → is_local_name text ≡ is → (is_local_name text ≡ true → None ≡ Some text) → None ≡ (if is then Some text else None)
unnamed text true e told = told e
unnamed text false e told = refl

-- a value that is read as no text is no local name
pub none_local : (value : Value) → ((text : List ℕ) → IsUtf8 text → value ≡ Text text → None ≡ Some text) → None ≡ local_name_at value
none_local (Text text) told = unnamed text (is_local_name text) refl (λ e. told text (local_utf8 text e) refl)
none_local _ told = refl
