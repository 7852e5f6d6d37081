use Rattle.std.proofs.Common.{◌-◌, vec_len}
use Rattle.http_request.specs.Input.{Takes}
use Rattle.http_request.proofs.input.read_to.Given as goal

abbrev pub invariant-pieces : goal.invariant-pieces
invariant-pieces g l = Takes (g.R.Read.remaining l.initial.reader) (g.R.Read.remaining l.reader) l.initial.came.items l.came.items

abbrev pub decreases-pieces : goal.decreases-pieces
decreases-pieces g l = l.len - vec_len l.came
