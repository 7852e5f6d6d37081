use Rattle.docket_text.proofs.HolidayLemmas.{holidays_of}
use Rattle.docket_text.proofs.YearLemmas.{days_of_year-rise}
use Rattle.std.proofs.lemmas.List.Kept.{IsStrictlyIncreasing-filter}
use Rattle.court_days.specs.Holiday.{is_statutory}
use Rattle.docket_text.specs.HolidayTexts.{days_of_year}
use Rattle.docket_text.proofs.laws.holidays_are_statutory.Goals as goal

pub returns-clause-days : goal.returns-clause-days
returns-clause-days c = holidays_of

pub returns-clause-in_order : goal.returns-clause-in_order
returns-clause-in_order c = λ year. IsStrictlyIncreasing-filter is_statutory (days_of_year year) (days_of_year-rise year)
