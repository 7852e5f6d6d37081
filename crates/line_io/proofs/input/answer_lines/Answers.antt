use Rattle.std.proofs.Common.{◌+◌, [], ap, refl, length, take, ◌<◌, arith}
use Rattle.std.proofs.KnownBytes.{Consumes-nil, Consumes-trans}
use Rattle.std.proofs.lemmas.Result.{err_from_is_err_and, on_ok_weaker}
use Rattle.line_io.specs.Report.{within}
use Rattle.line_io.proofs.Counting.{none-within, pieces-count, piece-counts}
use Rattle.line_io.proofs.StepLemmas.{here, steps_then}
use Rattle.line_io.proofs.Stopping.{at-err, stops-here, stops-last, stops-unsent}
use Rattle.line_io.proofs.Taking.{takes-start, takes-then, takes-sent}
use Rattle.line_io.proofs.Whole.{read-stops, piece-stops, end-stops, ends-tells}
use Rattle.line_io.proofs.input.answer_lines.Goals as goal

pub reads-init : goal.reads-init
reads-init g c = (
  [],
  Consumes-nil _,
  omega (arith, c.requires.len),
  c.requires.pending,
  omega (arith, c.requires.counts),
  omega (arith, c.requires.counts),
  here g.A.Answerer.Steps c.args.answerer.now,
  λ trusts. trusts,
  λ s shows trusts. takes-start (within g.A.Answerer.LIMIT g.A.Answerer.answer_to g.A.Answerer.too_long) (g.A.Answerer.LIMIT + 2) _ s _ _ _ _ _ shows c.requires.kept c.requires.pending c.requires.counts.1 c.requires.counts.0,
)

pub finish-requires : goal.finish-requires
finish-requires g c = let now = c.reads.invariant in record { counts = (now.4, pieces-count _ c.reads.counter now.5 c.reads-test.true) }

pub take_piece-requires : goal.take_piece-requires
take_piece-requires g c =
    let now = c.reads.invariant in record {
      kept = now.2;
      pending = none-within _ _ now.3;
      counts = (now.4, piece-counts _ c.reads.counter c.in-Ok.count _ now.5 c.reads-test.true (omega (arith, c.read.auto.buf)));
    }

pub returns-in_default-clause-stops : goal.returns-in_default-clause-stops
returns-in_default-clause-stops g c = λ s shows trusts.
    let J = within g.A.Answerer.LIMIT g.A.Answerer.answer_to g.A.Answerer.too_long in
    let now = c.reads.invariant in
    let h = now.8 s shows trusts in
    read-stops J (g.A.Answerer.LIMIT + 2) _ _ _ _ _ s _ _ _ _ _ _ _ _ _ _ _ now.1 h (λ rest. stops-here J _ _ _ _ _ _ _ h.shows refl (none-within _ _ now.3))

pub returns-clause-stops : goal.returns-clause-stops
returns-clause-stops g c = λ s shows trusts.
    let J = within g.A.Answerer.LIMIT g.A.Answerer.answer_to g.A.Answerer.too_long in
    let now = c.reads.invariant in
    let h = now.8 s shows trusts in
    read-stops J (g.A.Answerer.LIMIT + 2) _ _ _ _ _ s _ _ _ _ _ _ _ _ _ _ _ now.1 h (λ rest. stops-here J _ _ _ _ _ _ _ h.shows refl (none-within _ _ now.3))

pub returns-then-count-eq0-clause-stops : goal.returns-then-count-eq0-clause-stops
returns-then-count-eq0-clause-stops g c =
    let J = within g.A.Answerer.LIMIT g.A.Answerer.answer_to g.A.Answerer.too_long in
    let now = c.reads.invariant in
    let room : 0 < length c.read.new.buf = omega (arith, c.read.auto.buf) in
    at-err c.finish.result
    (λ fault same left s shows trusts.
    let h = now.8 s shows (c.finish.ensures.trust trusts) in
    end-stops J (g.A.Answerer.LIMIT + 2) _ _ _ _ _ _ s _ _ _ _ _ _ _ _ _ _ _ _ now.1 c.in-Ok.ensures.bytes.0
    (ap (λ n. take n c.read.new.buf) c.if-count-eq0.true) (c.in-Ok.ensures.bytes.1 c.if-count-eq0.true room) h
    (stops-last J _ _ _ h.open_part _ _ _ (left _ h.open_part h.shows trusts h.keeps) same (none-within _ _ now.3)))
    c.finish.ensures.err c.finish.ensures.fails

pub returns-then-count-eq0-clause-whole : goal.returns-then-count-eq0-clause-whole
returns-then-count-eq0-clause-whole g c =
    let now = c.reads.invariant in
    let room : 0 < length c.read.new.buf = omega (arith, c.read.auto.buf) in
    on_ok_weaker c.finish.result
    (λ ends s shows trusts.
    let h = now.8 s shows (c.finish.ensures.trust trusts) in
    ends-tells (within g.A.Answerer.LIMIT g.A.Answerer.answer_to g.A.Answerer.too_long) (g.A.Answerer.LIMIT + 2) _ _ _ _ _ s _ _ _ _ _ _ _ _ _ _ _ now.1 c.in-Ok.ensures.bytes.0
    (ap (λ n. take n c.read.new.buf) c.if-count-eq0.true) (c.in-Ok.ensures.bytes.1 c.if-count-eq0.true room) h now.3 (ends _ h.open_part h.shows trusts h.keeps))
    c.finish.ensures.ok

pub returns-in_err-take_piece-clause-stops : goal.returns-in_err-take_piece-clause-stops
returns-in_err-take_piece-clause-stops g c =
    let p = err_from_is_err_and c.from_residual.result c.from_residual.ensures.1 in
    let J = within g.A.Answerer.LIMIT g.A.Answerer.answer_to g.A.Answerer.too_long in
    let now = c.reads.invariant in
    rw (p.1, p.2) (λ s shows trusts.
    let h = now.8 s shows (c.in_err-take_piece.ensures.trust trusts) in
    piece-stops J (g.A.Answerer.LIMIT + 2) _ _ _ _ _ _ s _ _ _ _ _ _ _ _ _ _ _ _ now.1 c.in-Ok.ensures.bytes.0 h
    (λ rest. c.in_err-take_piece.ensures.stops _ h.open_part h.shows trusts h.keeps rest))

pub returns-in_default-send-clause-stops : goal.returns-in_default-send-clause-stops
returns-in_default-send-clause-stops g c = λ s shows trusts.
    let J = within g.A.Answerer.LIMIT g.A.Answerer.answer_to g.A.Answerer.too_long in
    let now = c.reads.invariant in
    let h = now.8 s shows (c.in_ok-take_piece.ensures.trust trusts) in
    let taken = takes-then J (g.A.Answerer.LIMIT + 2) _ _ s [] _ _ _ _ _ _ _ _ _ _ _ _ _ _ _ _ h (c.in_ok-take_piece.ensures.takes _ h.open_part h.shows trusts h.keeps) in
    read-stops J (g.A.Answerer.LIMIT + 2) _ _ _ _ _ s _ _ _ _ _ _ _ _ _ _ _ (Consumes-trans _ _ _ _ _ now.1 c.in-Ok.ensures.bytes.0) taken
    (λ rest. stops-unsent J _ _ _ _ _ _ _ _ taken.shows c.in_default-send.ensures.front c.in_default-send.ensures.sent c.in_ok-take_piece.ensures.pending)

pub reads-preserved : goal.reads-preserved
reads-preserved g c =
    let now = c.reads.invariant in
    let J = within g.A.Answerer.LIMIT g.A.Answerer.answer_to g.A.Answerer.too_long in
    let counts = c.in_ok-take_piece.ensures.counts in (
      _,
      Consumes-trans _ _ _ _ _ now.1 c.in-Ok.ensures.bytes.0,
      c.in_ok-take_piece.ensures.kept,
      c.in-Ok-send.ensures.sent,
      counts.0,
      omega (arith, counts.1, now.5, c.in-Ok.ensures.bound),
      steps_then g.A.Answerer.Steps _ _ _ now.6 c.in_ok-take_piece.ensures.steps,
      λ trusts. now.7 (c.in_ok-take_piece.ensures.trust trusts),
      λ s shows trusts.
          let h = now.8 s shows (c.in_ok-take_piece.ensures.trust trusts) in
          takes-sent J (g.A.Answerer.LIMIT + 2) _ s _ _ _ _ _ _ _ _ _ _ _ _ _
          (takes-then J (g.A.Answerer.LIMIT + 2) _ _ s [] _ _ _ _ _ _ _ _ _ _ _ _ _ _ _ _ h (c.in_ok-take_piece.ensures.takes _ h.open_part h.shows trusts h.keeps))
          c.in-Ok-send.ensures.whole c.in-Ok-send.ensures.sent,
    )

pub returns-then-count-eq0-clause-steps : goal.returns-then-count-eq0-clause-steps
returns-then-count-eq0-clause-steps g c = steps_then g.A.Answerer.Steps _ _ _ c.reads.invariant.6 c.finish.ensures.steps

pub returns-in_err-take_piece-clause-steps : goal.returns-in_err-take_piece-clause-steps
returns-in_err-take_piece-clause-steps g c = steps_then g.A.Answerer.Steps _ _ _ c.reads.invariant.6 c.in_err-take_piece.ensures.steps

pub returns-in_default-send-clause-steps : goal.returns-in_default-send-clause-steps
returns-in_default-send-clause-steps g c = steps_then g.A.Answerer.Steps _ _ _ c.reads.invariant.6 c.in_ok-take_piece.ensures.steps

pub returns-in_default-clause-steps : goal.returns-in_default-clause-steps
returns-in_default-clause-steps g c = c.reads.invariant.6

pub returns-clause-steps : goal.returns-clause-steps
returns-clause-steps g c = c.reads.invariant.6

pub returns-in_default-clause-trust : goal.returns-in_default-clause-trust
returns-in_default-clause-trust g c = c.reads.invariant.7

pub returns-then-count-eq0-clause-trust : goal.returns-then-count-eq0-clause-trust
returns-then-count-eq0-clause-trust g c = λ trusts. c.reads.invariant.7 (c.finish.ensures.trust trusts)

pub returns-in_err-take_piece-clause-trust : goal.returns-in_err-take_piece-clause-trust
returns-in_err-take_piece-clause-trust g c = λ trusts. c.reads.invariant.7 (c.in_err-take_piece.ensures.trust trusts)

pub returns-in_default-send-clause-trust : goal.returns-in_default-send-clause-trust
returns-in_default-send-clause-trust g c = λ trusts. c.reads.invariant.7 (c.in_ok-take_piece.ensures.trust trusts)

pub returns-clause-trust : goal.returns-clause-trust
returns-clause-trust g c = c.reads.invariant.7
