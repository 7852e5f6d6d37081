use Rattle.std.proofs.Common.{rules, arith}
use Rattle.std.proofs.lemmas.Grind.{common_steps}
use Rattle.civil_time.proofs.ZoneGrammarSound.{read_as_spelled}
use Rattle.civil_time.proofs.zone_text.read_zone.Goals as goal

pub returns-in_err-after_name-clause-grammar : goal.returns-in_err-after_name-clause-grammar
returns-in_err-after_name-clause-grammar c = read_as_spelled c.args.text.now _ (search rules)

pub returns-in_err-hours_west-clause-grammar : goal.returns-in_err-hours_west-clause-grammar
returns-in_err-hours_west-clause-grammar c = read_as_spelled c.args.text.now _ (search rules)

pub returns-in_err-read_summer-clause-grammar : goal.returns-in_err-read_summer-clause-grammar
returns-in_err-read_summer-clause-grammar c = read_as_spelled c.args.text.now _ (grind (arith, common_steps))

pub returns-clause-grammar : goal.returns-clause-grammar
returns-clause-grammar c = read_as_spelled c.args.text.now _ (grind (arith, common_steps))
