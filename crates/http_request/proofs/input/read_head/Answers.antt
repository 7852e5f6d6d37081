use Rattle.std.proofs.Common.{arith, ap, length}
use Rattle.http_request.specs.declared.head.HeadSearch.TheVariants.{More, Head, TooLong}
use Rattle.http_request.specs.Head.{start}
use Rattle.http_request.proofs.HeadLemmas.{found_over-within}
use Rattle.http_request.proofs.InputLemmas.{head_of-on, len-on, less-left, Takes-then}
use Rattle.http_request.proofs.input.read_head.Goals as goal

pub pieces-preserved : goal.pieces-preserved
pieces-preserved g c =
    record {
      open_still = c.in-More.ensures.open.0;
      len = len-on c.pieces.came.items c.read_piece.new.came.items c.in_ok-read_piece.ensures.takes.piece c.deref.result.now c.pieces.scan.len c.in-More.next.len
          c.in_ok-read_piece.ensures.takes.grows c.deref.ensures.value c.pieces.invariant.len c.in-More.ensures.open.1;
      so_far = head_of-on c.pieces.came.items c.read_piece.new.came.items c.in_ok-read_piece.ensures.takes.piece c.deref.result.now c.pieces.scan (More c.in-More.next)
          c.in_ok-read_piece.ensures.takes.grows c.deref.ensures.value c.pieces.invariant.so_far c.pieces.invariant.len c.in-More.ensures.found;
      taken = Takes-then _ _ _ _ _ _ c.pieces.invariant.taken c.in_ok-read_piece.ensures.takes;
    }

pub search-requires : goal.search-requires
search-requires g c = c.pieces.invariant.open_still

pub pieces-smaller : goal.pieces-smaller
pieces-smaller g c =
    less-left c.pieces.came.items c.read_piece.new.came.items _ _ _ _ c.in_ok-read_piece.field-0 8192 c.pieces.invariant.len
    (len-on c.pieces.came.items c.read_piece.new.came.items c.in_ok-read_piece.ensures.takes.piece c.deref.result.now c.pieces.scan.len c.in-More.next.len
    c.in_ok-read_piece.ensures.takes.grows c.deref.ensures.value c.pieces.invariant.len c.in-More.ensures.open.1)
    c.pieces.came.ok.0 c.read_piece.new.came.ok.0 c.in_ok-read_piece.ensures.count c.if-branch-eq0.false c.pieces.invariant.open_still.0

pub returns-in-Head-clause-end : goal.returns-in-Head-clause-end
returns-in-Head-clause-end g c =
    head_of-on c.pieces.came.items c.read_piece.new.came.items c.in_ok-read_piece.ensures.takes.piece c.deref.result.now c.pieces.scan (Head c.in-Head.len)
    c.in_ok-read_piece.ensures.takes.grows c.deref.ensures.value c.pieces.invariant.so_far c.pieces.invariant.len c.in-Head.ensures.found

pub returns-in-TooLong-clause-end : goal.returns-in-TooLong-clause-end
returns-in-TooLong-clause-end g c =
    head_of-on c.pieces.came.items c.read_piece.new.came.items c.in_ok-read_piece.ensures.takes.piece c.deref.result.now c.pieces.scan TooLong
    c.in_ok-read_piece.ensures.takes.grows c.deref.ensures.value c.pieces.invariant.so_far c.pieces.invariant.len c.in-TooLong.ensures.found

pub returns-in-Head-clause-within : goal.returns-in-Head-clause-within
returns-in-Head-clause-within g c =
    let below = found_over-within c.read_piece.new.came.items start c.in-Head.len (head_of-on c.pieces.came.items c.read_piece.new.came.items c.in_ok-read_piece.ensures.takes.piece c.deref.result.now c.pieces.scan (Head c.in-Head.len)
    c.in_ok-read_piece.ensures.takes.grows c.deref.ensures.value c.pieces.invariant.so_far c.pieces.invariant.len c.in-Head.ensures.found) in
    let same = ap length c.deref.ensures.value in
    omega (arith, below, same, c.deref.ensures.len)

pub returns-in-Head-clause-takes : goal.returns-in-Head-clause-takes
returns-in-Head-clause-takes g c = Takes-then _ _ _ _ _ _ c.pieces.invariant.taken c.in_ok-read_piece.ensures.takes

pub returns-in-TooLong-clause-takes : goal.returns-in-TooLong-clause-takes
returns-in-TooLong-clause-takes g c = Takes-then _ _ _ _ _ _ c.pieces.invariant.taken c.in_ok-read_piece.ensures.takes
