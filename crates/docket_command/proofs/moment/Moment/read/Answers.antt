use Rattle.std.proofs.Common.{pos, refl}
use Rattle.docket_command.proofs.MomentLemmas.{spelled_minute, read_as_spelled}
use Rattle.docket_command.proofs.moment.Moment.read.Goals as goal

pub at-requires-clause-minute : goal.at-requires-clause-minute
at-requires-clause-minute c = spelled_minute c.in-Some.at c.args.text.now ((c.in-Some.ensures.grammar c.in-Some.at).0 refl)

pub returns-in-Some-clause-grammar : goal.returns-in-Some-clause-grammar
returns-in-Some-clause-grammar c = read_as_spelled c.args.text.now c.in-Some.at c.at.result c.at.ensures c.in-Some.ensures.limits c.in-Some.ensures.grammar

pub returns-in-None-clause-grammar : goal.returns-in-None-clause-grammar
returns-in-None-clause-grammar c = λ instant. (λ found. absurd (cc), λ spells. let read = (c.in-None.ensures.grammar (pos instant)).1 spells in absurd (cc))
