use Rattle.court_days.proofs.Ends.{last_business-is}
use Rattle.court_days.proofs.period.last_business.Goals as goal

pub returns-clause-value : goal.returns-clause-value
returns-clause-value c = λ high.
    last_business-is c.args.calendar.now c.last_business_to.ensures.limits c.args.start _ c.requires high c.last_business_to.ensures.last
