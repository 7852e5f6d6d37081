use Rattle.http_request.proofs.SearchLemmas.{too_long}
use Rattle.http_request.proofs.search.decoded.Goals as goal

pub returns-in_err-spaced : goal.returns-in_err-spaced
returns-in_err-spaced c = rw c.from_residual.ensures (too_long c.args.value.now c.in_err-spaced.ensures)
