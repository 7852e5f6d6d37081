-- Names and what they name.
use Rattle.std.proofs.Common.{◌≡◌, ◌≢◌, ℕ, List, [], ◌∷◌, map, Bool, true, false, cond, Option, Some, None, IfSome, IfNone, refl, sym, ◌∙◌, ap}
use Rattle.std.specs.List.{find}
use Rattle.std.specs.Option.{option_map}
use Rattle.std.specs.Str.{bytes_eq}
use Rattle.std.proofs.lemmas.Slice.Eq.{bytes_eq-Decides}
use Rattle.court_rules.specs.declared.method.Method.{Method}
use Rattle.court_rules.specs.declared.method.Method.TheVariants.{Rule4}
use Rattle.court_rules.specs.declared.rule.Rule.{Rule}
use Rattle.court_rules.specs.declared.rule.Rule.TheVariants.{AnswerToSummons}
use Rattle.court_rules.specs.declared.table.RuleRow.{RuleRow}
use Rattle.court_rules.specs.Methods.{methods, method_name, method_named}
use Rattle.court_rules.specs.Rules.{line_of, rules, entry_of, name_of, rule_named}
use Rattle.court_rules.specs.Rows.{entry_in}
use Rattle.court_rules.proofs.Entries.{found}

-- what is found passes the test
find-passes : {A : Type 0} (p : A → Bool) (xs : List A) (x : A) → find p xs ≡ Some x → p x ≡ true
find-passes p [] x e = cc
find-passes {A} p (a ∷ xs) x e = at (p a) refl (find-passes p xs x) e
  where
    at : (t : Bool) → p a ≡ t → (find p xs ≡ Some x → p x ≡ true) → cond t (Some a) (find p xs) ≡ Some x → p x ≡ true
    at true is later f = let same : a ≡ x = cc in sym (ap p same) ∙ is
    at false is later f = later f

-- what is found by its name has that name
find-named : {A : Type 0} (name : A → List ℕ) (xs : List A) (text : List ℕ) (x : A)
    → find (λ a. bytes_eq (name a) text) xs ≡ Some x → name x ≡ text
find-named name xs text x e = (bytes_eq-Decides (name x) text).0 (find-passes (λ a. bytes_eq (name a) text) xs x e)

-- every name of the table reads back, by computing each
pub rule_named-name_of : (rule : Rule) → rule_named (name_of rule) ≡ Some rule
unfolding rule_named rules line_of
rule_named-name_of AnswerToSummons = refl
rule_named-name_of _ = refl

pub method_named-method_name : (method : Method) → method_named (method_name method) ≡ Some method
method_named-method_name Rule4 = refl
method_named-method_name _ = refl

pub name_of-named : (text : List ℕ) (rule : Rule) → rule_named text ≡ Some rule → name_of rule ≡ text
unfolding rule_named
name_of-named text rule e = find-named name_of rules text rule e

pub method_name-named : (text : List ℕ) (method : Method) → method_named text ≡ Some method → method_name method ≡ text
method_name-named text method e = find-named method_name methods text method e

-- the rule of the row that has the name
same_rule : (m : Option RuleRow) (n : Option Rule) → option_map entry_in m ≡ option_map entry_of n
    → option_map (λ row. row.rule) m ≡ n
same_rule None None h = refl
same_rule (Some m) (Some n) h = let same : entry_in m ≡ entry_of n = cc in ap (λ e. Some e.0) same
same_rule None (Some n) h = cc
same_rule (Some m) None h = cc

pub row_reads : (rs : List RuleRow) (text : List ℕ) → map entry_in rs ≡ map entry_of rules
    → option_map (λ row. row.rule) (find (λ row. bytes_eq row.name.now text) rs) ≡ rule_named text
unfolding rule_named
row_reads rs text same = same_rule _ _ (found entry_in entry_of (λ entry. bytes_eq entry.1.name text) rs rules same)

module _ (text : List ℕ) where
  pub found_rule : (r : Option Rule) → r ≡ rule_named text → IfSome r (λ rule. name_of rule ≡ text)
  found_rule None e = tt
  found_rule (Some rule) e = name_of-named text rule (sym e)

  pub no_rule : (r : Option Rule) → r ≡ rule_named text → IfNone r ((rule : Rule) → name_of rule ≢ text)
  no_rule None e = λ rule h.
      let some : rule_named text ≡ Some rule = sym (ap rule_named h) ∙ rule_named-name_of rule in cc
  no_rule (Some _) e = tt

  pub no_method : (r : Option Method) → r ≡ method_named text → IfNone r ((method : Method) → method_name method ≢ text)
  no_method None e = λ method h.
      let some : method_named text ≡ Some method = sym (ap method_named h) ∙ method_named-method_name method in cc
  no_method (Some _) e = tt

pub same_name : (rule other : Rule) → name_of rule ≡ name_of other → rule ≡ other
same_name rule other e =
    let first = rule_named-name_of rule in
    let second : rule_named (name_of rule) ≡ Some other = ap rule_named e ∙ rule_named-name_of other in
    cc

pub same_method_name : (method other : Method) → method_name method ≡ method_name other → method ≡ other
same_method_name method other e =
    let first = method_named-method_name method in
    let second : method_named (method_name method) ≡ Some other = ap method_named e ∙ method_named-method_name other in
    cc
