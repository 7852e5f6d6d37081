-- When the rows of the court's own rules are sound.
use Rattle.std.specs.Prelude.{◌≡◌, ℕ, ◌≤◌, ◌+◌, ◌==◌, nat_lt, Bool, not, ◌&&◌, List, map, length, IsTrue}
use Rattle.std.specs.List.{AllByRecursion}
use Rattle.court_rules.specs.LocalRules.{is_local_rule}
use Rattle.docket_history.specs.declared.row.LocalRuleRow.{LocalRuleRow}
use Rattle.docket_sound.specs.Cases.{AreApart}
use Rattle.docket_sound.specs.KnownTexts.{is_known, is_one_of}
use Rattle.docket_sound.specs.Numbers.{RunsFrom}
use Rattle.docket_sound.specs.declared.local_rule.LocalRuleCheck.{LocalRuleCheck}

abbrev pub rule_names : List LocalRuleRow → List (List ℕ)
rule_names rows = map (λ row. row.rule.name) rows

abbrev pub is_sound_local_rule : LocalRuleRow → Bool
is_sound_local_rule row = is_local_rule row.rule

-- the rules are numbered, up to 1,000, no two have one name, and each is one that the court may have
pub record AreSoundLocalRules (rows : List LocalRuleRow) : Type 0 where
  pub numbered : RunsFrom 1 (map (λ row. row.number) rows)
  pub few : length rows ≤ 1000
  pub apart : AreApart (rule_names rows)
  pub within : AllByRecursion (λ row. IsTrue (is_sound_local_rule row)) rows

-- the rule may come next: it has the next number, there is room for it, and no rule has its name
abbrev pub may_follow : LocalRuleCheck → LocalRuleRow → Bool
may_follow check row =
    nat_lt check.count 1000
    && row.number == check.count + 1
    && is_sound_local_rule row
    && not (is_known check.names row.rule.name)

-- these rows were taken
pub record HasTakenLocalRules (check : LocalRuleCheck) (rows : List LocalRuleRow) : Type 0 where
  pub counted : check.count ≡ length rows
  pub known : (text : List ℕ) → is_known check.names text ≡ is_one_of (rule_names rows) text
  pub sound : AreSoundLocalRules rows
