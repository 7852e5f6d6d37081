use Rattle.court_rules.proofs.Names.{rule_named-name_of, name_of-named, same_name}
use Rattle.court_rules.proofs.laws.rule_names_read_back.Goals as goal

pub returns : goal.returns
returns c = record { named = rule_named-name_of; name = name_of-named; distinct = same_name }
