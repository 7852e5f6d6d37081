-- The text of the rules by which a deadline may run.
use Rattle.std.specs.Prelude.{ℕ, Bool, true, false, List, [], ◌∷◌, ◌++◌, codes, decimal, Option, Some, None}
use Rattle.std.specs.List.{flat_map}
use Rattle.court_days.specs.declared.calendar.Direction.{Direction}
use Rattle.court_rules.specs.Rules.{Line, line_of, rules}
use Rattle.court_rules.specs.declared.local_rule.LocalRule.{LocalRule}
use Rattle.court_rules.specs.declared.table.Period.{Period}
use Rattle.court_rules.specs.declared.table.Period.TheVariants.{Days, Months}
use Rattle.docket_command.specs.Words as words
use Rattle.docket_history.specs.declared.row.LocalRuleRow.{LocalRuleRow}
use Rattle.docket_text.specs.Lines.{line, spaced, right_in, left_in}

-- how long the time is; a time as entered has no period in the table
abbrev pub period_columns : Option Period → List ℕ
period_columns (Some (Days count)) = spaced (right_in 4 (decimal count) ∷ codes "days  " ∷ [])
period_columns (Some (Months count)) = spaced (right_in 4 (decimal count) ∷ codes "months" ∷ [])
period_columns None = codes "   - -     "

-- which way it is counted, if that is not as entered
abbrev pub direction_text : Option Direction → List ℕ
direction_text (Some direction) = words.direction_word direction
direction_text None = codes "-"

-- the word, where it holds
abbrev pub flag_text : List ℕ → Bool → List ℕ
flag_text word true = word
flag_text word false = codes "-"

-- the line of a rule: its name, its period and direction; whether service may add three days, whether it is the time of a responsive
-- pleading, and whether the court may extend it
abbrev pub rule_line : Line → List ℕ
rule_line l = line (
    left_in 16 l.name
    ∷ period_columns l.period
    ∷ left_in 8 (direction_text l.direction)
    ∷ left_in 10 (flag_text (codes "three days") l.three_days)
    ∷ left_in 10 (flag_text (codes "responsive") l.responsive)
    ∷ flag_text (codes "extendable") l.extendable
    ∷ [])

-- the columns of a local rule: it is the time of no responsive pleading
abbrev pub local_line : LocalRule → Line
local_line rule = record {
  name = rule.name;
  period = Some (Days rule.days);
  direction = Some rule.direction;
  three_days = rule.three;
  responsive = false;
  extendable = rule.extendable;
}

-- the table of the Federal Rules, a line for each rule
abbrev pub table_text : List ℕ
table_text = flat_map (λ rule. rule_line (line_of rule)) rules

-- and behind it the court's local rules, in the order in which they were entered
abbrev pub rules_text : List LocalRuleRow → List ℕ
rules_text rows = table_text ++ flat_map (λ row. rule_line (local_line row.rule)) rows
