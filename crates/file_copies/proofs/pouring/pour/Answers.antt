use Rattle.std.proofs.Common.{◌++◌}
use Rattle.std.proofs.KnownBytes.{Appends-trans, Consumes-trans}
use Rattle.file_copies.proofs.pouring.pour.Goals as goal

pub pieces-preserved : goal.pieces-preserved
pieces-preserved g c =
    let (moved, read, written) = c.pieces.invariant in
    let (more, long, read', written') = c.in_ok-pour_piece.ensures.moved in
    (moved ++ more, Consumes-trans _ _ _ _ _ read read', Appends-trans _ _ _ _ _ written written')
