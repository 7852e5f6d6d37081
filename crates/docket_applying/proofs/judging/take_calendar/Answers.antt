use Rattle.docket_tables.proofs.AskLemmas.{unasked}
use Rattle.docket_applying.proofs.judging.take_calendar.Goals as goal

pub returns-in-None-clause-read : goal.returns-in-None-clause-read
returns-in-None-clause-read g c court h stands = c.read_calendar.ensures.read court h stands.docket stands.rows

pub returns-in-Some-clause-only : goal.returns-in-Some-clause-only
returns-in-Some-clause-only g c = unasked
