use Rattle.std.proofs.Common.{refl}
use Rattle.std.specs.Fmt.{digits}
use Rattle.docket_http.proofs.head.open_head.Goals as goal

pub returns : goal.returns
unfolding digits
returns c len = refl
