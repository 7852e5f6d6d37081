-- The text of the table of rules.
use Rattle.std.proofs.Common.{◌≡◌, List, map, sym, ap, ◌∙◌}
use Rattle.std.specs.List.{flat_map}
use Rattle.std.proofs.lemmas.List.Folds.{flat_map-map}
use Rattle.court_rules.specs.Rows.{entry_in}
use Rattle.court_rules.specs.Rules.{entry_of, rules}
use Rattle.court_rules.specs.declared.table.RuleRow.{RuleRow}
use Rattle.docket_text.specs.RuleTexts.{rule_line, table_text}

-- the rows of the program's table give its text
pub lined : (rows : List RuleRow) → map entry_in rows ≡ map entry_of rules → flat_map (λ row. rule_line (entry_in row).1) rows ≡ table_text
lined rows e =
    sym (flat_map-map (λ entry. rule_line entry.1) entry_in rows)
    ∙ ap (flat_map (λ entry. rule_line entry.1)) e
    ∙ flat_map-map (λ entry. rule_line entry.1) entry_of rules
