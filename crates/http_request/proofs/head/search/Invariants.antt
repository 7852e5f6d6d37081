use Rattle.std.proofs.Common.{◌≡◌, ◌+◌, drop}
use Rattle.http_request.specs.Head.{found_over, IsOpen}
use Rattle.http_request.proofs.head.search.Given as goal

abbrev pub invariant-loop-byte : goal.invariant-loop-byte
invariant-loop-byte l = record {
  same : found_over l.at (drop l.byte-index l.piece) ≡ found_over l.initial.at l.piece;
  open_still : IsOpen l.at;
  len : l.at.len ≡ l.initial.at.len + l.byte-index;
}
