use Rattle.count_lines.proofs.TextNames.{no_method}
use Rattle.count_lines.proofs.request.read_method.Goals as goal

pub returns-in-Err : goal.returns-in-Err
returns-in-Err c = no_method c.args.text.now c.in-Err.ensures.cases.0
