use Rattle.std.proofs.Common.{◌<◌, subst}
use Rattle.http_request.proofs.InputLemmas.{less-left, Takes-none, Takes-then}
use Rattle.http_request.proofs.input.read_to.Goals as goal

pub pieces-init : goal.pieces-init
pieces-init g c = Takes-none _ _

pub pieces-smaller : goal.pieces-smaller
pieces-smaller g c =
    less-left c.pieces.came.items c.read_piece.new.came.items _ _ _ _ c.in_ok-read_piece.field-0 c.args.len c.pieces.came.ok.0 c.read_piece.new.came.ok.0
    c.pieces.came.ok.0 c.read_piece.new.came.ok.0 c.in_ok-read_piece.ensures.count c.if-branch-eq0.false (subst (λ n. n < c.args.len) c.len.ensures c.pieces-test.true)

pub pieces-preserved : goal.pieces-preserved
pieces-preserved g c = Takes-then _ _ _ _ _ _ c.pieces.invariant c.in_ok-read_piece.ensures.takes
