use Rattle.court_days.proofs.ShortLaws.{end_of_days-short, end_of_months-short, service_end-short, end_of_hours-short}
use Rattle.court_days.proofs.laws.short_days_move_nothing.Goals as goal

pub returns : goal.returns
returns c = record { days = end_of_days-short; months = end_of_months-short; service = service_end-short; hours = end_of_hours-short }
