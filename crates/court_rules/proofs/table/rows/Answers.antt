-- The rows are compared with the table of specs/ by computing both.
use Rattle.std.proofs.Common.{refl}
use Rattle.court_rules.specs.Rules.{line_of, rules}
use Rattle.court_rules.proofs.table.rows.Goals as goal

pub returns : goal.returns
unfolding line_of rules
returns c = refl
