use Rattle.std.proofs.Common.{arith}
use Rattle.docket_text.proofs.YearLemmas.{days, days_of_year-rise}
use Rattle.docket_text.proofs.laws.days_have_their_year.Goals as goal

pub returns-clause-days : goal.returns-clause-days
returns-clause-days c = λ year day low high. days year (omega arith) (omega arith) day

pub returns-clause-in_order : goal.returns-clause-in_order
returns-clause-in_order c = days_of_year-rise
