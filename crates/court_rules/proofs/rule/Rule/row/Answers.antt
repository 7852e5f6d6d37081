use Rattle.court_rules.specs.Rules.{rules, entry_of}
use Rattle.court_rules.specs.Rows.{entry_in}
use Rattle.court_rules.proofs.Entries.{entry_at}
use Rattle.court_rules.proofs.rule.Rule.row.Goals as goal

pub returns : goal.returns
returns c = (entry_at entry_in entry_of c.rows.result.now rules c.place.result c.args.self _ c.rows.ensures c.place.ensures).1
