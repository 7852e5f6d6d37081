use Rattle.court_rules.proofs.LocalNames.{none_listed, read_back, name_back, lawful_back}
use Rattle.court_rules.proofs.laws.deadline_rules_read_back.Goals as goal

pub returns : goal.returns
returns c = record { local = none_listed; named = read_back; name = name_back; lawful = lawful_back }
