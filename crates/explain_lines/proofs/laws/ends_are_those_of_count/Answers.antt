use Rattle.std.proofs.Common.{IfSome, subst, Some}
use Rattle.count_lines.specs.Answers.{outcome_of}
use Rattle.explain_lines.proofs.Judging.{EndsIn, ends_in, no_end}
use Rattle.explain_lines.proofs.laws.ends_are_those_of_count.Goals as goal

pub returns-clause-told : goal.returns-clause-told
returns-clause-told c = λ state request begun is. subst (λ o. IfSome o (EndsIn state (outcome_of state (Some request)))) is (ends_in state request)

pub returns-clause-untold : goal.returns-clause-untold
returns-clause-untold c = λ state request is. no_end state request is
