use Rattle.std.proofs.Common.{◌∙◌}
use Rattle.court_rules.proofs.Names.{row_reads, found_rule, no_rule}
use Rattle.court_rules.proofs.rule.Rule.read.Goals as goal

pub returns : goal.returns
returns c =
    let text = c.args.text.now in
    let value = c.rule_in.ensures ∙ row_reads c.rows.result.now text c.rows.ensures in
    record { value = value; found = found_rule text _ value; none = no_rule text _ value }
