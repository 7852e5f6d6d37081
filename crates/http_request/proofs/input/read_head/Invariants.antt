use Rattle.std.proofs.Common.{◌≡◌, ◌-◌, length}
use Rattle.http_request.specs.declared.head.HeadSearch.TheVariants.{More}
use Rattle.http_request.specs.Head.{head_of, IsOpen}
use Rattle.http_request.specs.Input.{Takes}
use Rattle.http_request.proofs.input.read_head.Given as goal

abbrev pub invariant-pieces : goal.invariant-pieces
invariant-pieces g l = record {
  open_still : IsOpen l.scan;
  len : l.scan.len ≡ length l.came.items;
  so_far : head_of l.came.items ≡ More l.scan;
  taken : Takes (g.R.Read.remaining l.initial.reader) (g.R.Read.remaining l.reader) l.initial.came.items l.came.items;
}

abbrev pub decreases-pieces : goal.decreases-pieces
decreases-pieces g l = 8192 - l.scan.len
