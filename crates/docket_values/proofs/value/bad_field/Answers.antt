use Rattle.docket_values.proofs.value.bad_field.Goals as goal

pub returns-in-OpenCase : goal.returns-in-OpenCase
returns-in-OpenCase c = rw c.in-OpenCase.is (c.bad_in_case.ensures c.args.court.now)

pub returns-in-FileWaiver : goal.returns-in-FileWaiver
returns-in-FileWaiver c = rw c.in-FileWaiver.is (c.bad_in_waiver.ensures c.args.court.now)

pub returns-in-ServePleading : goal.returns-in-ServePleading
returns-in-ServePleading c = rw c.in-ServePleading.is (c.bad_in_pleading.ensures c.args.court.now)

pub returns-in-Dispose : goal.returns-in-Dispose
returns-in-Dispose c = rw c.in-Dispose.is (c.bad_in_ruling.ensures c.args.court.now)

pub returns-in-LocalRule : goal.returns-in-LocalRule
returns-in-LocalRule c = rw c.in-LocalRule.is (c.bad_in_local_rule.ensures c.args.court.now)
