use Rattle.court_rules.proofs.Names.{method_named-method_name, method_name-named, same_method_name}
use Rattle.court_rules.proofs.laws.method_names_read_back.Goals as goal

pub returns : goal.returns
returns c = record { named = method_named-method_name; name = method_name-named; distinct = same_method_name }
