use Rattle.http_request.proofs.EndLemmas.{end_of_head}
use Rattle.http_request.proofs.FindLemmas.{head_found}
use Rattle.http_request.proofs.laws.heads_end_with_an_empty_line.Goals as goal

pub returns-clause-ends : goal.returns-clause-ends
returns-clause-ends c = end_of_head

pub returns-clause-found : goal.returns-clause-found
returns-clause-found c = head_found
