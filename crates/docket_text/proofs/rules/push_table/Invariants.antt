use Rattle.std.proofs.Common.{◌≡◌, ◌++◌, drop, string_bytes}
use Rattle.std.specs.List.{flat_map}
use Rattle.court_rules.specs.Rows.{entry_in}
use Rattle.docket_text.specs.RuleTexts.{rule_line}
use Rattle.docket_text.proofs.rules.push_table.Given as goal

abbrev pub invariant-loop-row : goal.invariant-loop-row
invariant-loop-row l =
    string_bytes l.text ++ flat_map (λ row. rule_line (entry_in row).1) (drop l.row-index l.rows)
    ≡ string_bytes l.initial.text ++ flat_map (λ row. rule_line (entry_in row).1) l.rows
