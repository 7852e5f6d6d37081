use Rattle.std.proofs.Common.{◌≡◌, ◌++◌, drop, string_bytes}
use Rattle.std.specs.List.{flat_map}
use Rattle.docket_text.specs.RuleTexts.{local_line, rule_line}
use Rattle.docket_text.proofs.rules.push_local_rules.Given as goal

abbrev pub invariant-loop-row : goal.invariant-loop-row
invariant-loop-row l =
    string_bytes l.text ++ flat_map (λ row. rule_line (local_line row.rule)) (drop l.row-index l.rows)
    ≡ string_bytes l.initial.text ++ flat_map (λ row. rule_line (local_line row.rule)) l.rows
