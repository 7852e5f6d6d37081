use Rattle.court_days.proofs.Ends.{first_open-is}
use Rattle.court_days.proofs.period.first_open.Goals as goal

pub returns-clause-value : goal.returns-clause-value
returns-clause-value c =
    first_open-is c.args.calendar.now c.first_open_from.ensures.limits c.args.direction c.args.start _ c.requires c.first_open_from.ensures.first
