use Rattle.docket_text.proofs.NameLemmas.{fixed_day, monday_day, thursday_day, friday_before, monday_after, no_other}
use Rattle.docket_text.proofs.laws.holidays_have_names.Goals as goal

pub returns-clause-fixed : goal.returns-clause-fixed
returns-clause-fixed c = fixed_day

pub returns-clause-monday : goal.returns-clause-monday
returns-clause-monday c = monday_day

pub returns-clause-thursday : goal.returns-clause-thursday
returns-clause-thursday c = thursday_day

pub returns-clause-friday_before : goal.returns-clause-friday_before
returns-clause-friday_before c = friday_before

pub returns-clause-monday_after : goal.returns-clause-monday_after
returns-clause-monday_after c = monday_after

pub returns-clause-no_other : goal.returns-clause-no_other
returns-clause-no_other c = no_other
