use Rattle.docket_decisions.proofs.InOrderLemmas.{cases_in_order, parties_in_order, entries_in_order, rules_in_order}
use Rattle.docket_decisions.proofs.laws.rows_are_numbered_in_order.Goals as goal

pub returns-clause-cases : goal.returns-clause-cases
returns-clause-cases c h = cases_in_order h

pub returns-clause-parties : goal.returns-clause-parties
returns-clause-parties c h k = parties_in_order k h

pub returns-clause-entries : goal.returns-clause-entries
returns-clause-entries c h k = entries_in_order k h

pub returns-clause-rules : goal.returns-clause-rules
returns-clause-rules c h = rules_in_order h
