use Rattle.count_lines.proofs.TextNames.{no_rule}
use Rattle.count_lines.proofs.request.read_rule_name.Goals as goal

pub returns-in-Err : goal.returns-in-Err
returns-in-Err c = no_rule c.args.text.now c.in-Err.ensures.cases.0
