-- The rows of the program's table.
use Rattle.court_rules.specs.declared.rule.Rule.{Rule}
use Rattle.court_rules.specs.declared.table.RuleRow.{RuleRow}
use Rattle.court_rules.specs.Rules.{Line}

-- the content of a row: its rule and the rule's line
abbrev pub entry_in : RuleRow → Rule × Line
entry_in row = (
  row.rule,
  record {
    name = row.name.now;
    period = row.period;
    direction = row.direction;
    three_days = row.three_days;
    responsive = row.responsive;
    extendable = row.extendable;
  },
)
