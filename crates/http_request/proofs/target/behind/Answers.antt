use Rattle.http_request.proofs.TargetLemmas.{stripped}
use Rattle.http_request.proofs.target.behind.Goals as goal

pub returns : goal.returns
returns c = stripped c.args.word.now c.args.text.now c.strip_prefix.result c.strip_prefix.ensures.cases
