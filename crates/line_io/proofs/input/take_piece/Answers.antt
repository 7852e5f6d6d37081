use Rattle.std.proofs.Common.{◌≡◌, ◌≤◌, vec_len, subst, ◌+◌, ◌-◌, ◌++◌, ◌∙◌, ◌∷◌, [], ap, sym, refl, length, take, drop, append_assoc, arith}
use Rattle.std.proofs.lemmas.Result.{err_from_is_err_and}
use Rattle.line_io.specs.Lines.{lines_from}
use Rattle.line_io.specs.Report.{within}
use Rattle.line_io.proofs.Counting.{more-len, line-counts, lines-within, less-behind, front-len, next-within, next-fits, kept-within}
use Rattle.line_io.proofs.Cutting.{piece-on, take-again, free-from, free-before}
use Rattle.line_io.proofs.StepLemmas.{here, steps_then}
use Rattle.line_io.proofs.Stopping.{stops-here, takes-stops}
use Rattle.line_io.proofs.Taking.{takes-none, takes-open, takes-then, takes-same}
use Rattle.line_io.proofs.input.take_piece.Goals as goal

pub lines-init : goal.lines-init
lines-init g c = (
  [],
  refl,
  c.requires.kept,
  c.requires.pending,
  c.requires.counts.0,
  omega arith,
  here g.A.Answerer.Steps c.args.answerer.now,
  λ trusts. trusts,
  λ s part shows trusts kept. takes-none (within g.A.Answerer.LIMIT g.A.Answerer.answer_to g.A.Answerer.too_long) _ _ s part _ _ _ _ _ shows kept,
)

pub take_line-requires : goal.take_line-requires
take_line-requires g c =
    let now = c.lines.invariant in record {
      kept = now.2;
      counts = (now.4, line-counts c.lines.progress.counts.lines c.args.progress.now.counts.lines c.args.piece.now now.0 c.lines.rest.now c.in-Some.at now.5 now.1 c.in-Some.ensures.0.high c.requires.counts.1);
      pending = now.3;
      free = free-before c.lines.rest.now c.in-Some.at c.in-Some.ensures.0;
    }

pub returns-in_err-take_line-clause-stops : goal.returns-in_err-take_line-clause-stops
returns-in_err-take_line-clause-stops g c =
    let p = err_from_is_err_and c.from_residual.result c.from_residual.ensures.1 in
    let J = within g.A.Answerer.LIMIT g.A.Answerer.answer_to g.A.Answerer.too_long in
    let now = c.lines.invariant in
    let at = c.in-Some.at in
    let left = c.lines.rest.now in
    let line = take at left ++ 10 ∷ [] in
    let behind = take (length left - (at + 1)) (drop (at + 1) left) in
    rw (p.1, p.2) (λ s part shows trusts kept rest.
    let h = now.8 s part shows (c.in_err-take_line.ensures.trust trusts) kept in
    takes-stops J _ _ _ _ s part _ _ (lines_from h.open_part (line ++ (behind ++ rest))) _ _ _ _ _ _ _ _ _ _ _ h
    (ap (λ z. lines_from part (z ++ rest)) (piece-on c.args.piece.now now.0 left at now.1 c.in-Some.ensures.0.high c.in-Some.ensures.1)
    ∙ ap (lines_from part) (append_assoc (now.0 ++ line) behind rest ∙ append_assoc now.0 line (behind ++ rest))
    ∙ h.goes (line ++ (behind ++ rest)))
    (c.in_err-take_line.ensures.stops _ h.open_part h.shows trusts h.keeps (behind ++ rest)))

pub lines-preserved : goal.lines-preserved
lines-preserved g c =
    let J = within g.A.Answerer.LIMIT g.A.Answerer.answer_to g.A.Answerer.too_long in
    let now = c.lines.invariant in
    let at = c.in-Some.at in
    let rest = c.lines.rest.now in
    let counts = c.in_ok-take_line.ensures.counts in (
      now.0 ++ (take at rest ++ 10 ∷ []),
      piece-on c.args.piece.now now.0 rest at now.1 c.in-Some.ensures.0.high c.in-Some.ensures.1,
      omega (arith, c.in_ok-take_line.ensures.kept),
      c.in_ok-take_line.ensures.pending,
      counts.0,
      omega (arith, counts.1, now.5, more-len now.0 (take at rest)),
      steps_then g.A.Answerer.Steps _ _ _ now.6 c.in_ok-take_line.ensures.steps,
      λ trusts. now.7 (c.in_ok-take_line.ensures.trust trusts),
      λ s part shows trusts kept.
          let h = now.8 s part shows (c.in_ok-take_line.ensures.trust trusts) kept in
          takes-then J _ _ _ s part _ _ _ _ _ _ _ _ _ _ _ _ _ _ _ _ h (c.in_ok-take_line.ensures.takes _ h.open_part h.shows trusts h.keeps),
    )

pub returns-in-Ok-clause-takes : goal.returns-in-Ok-clause-takes
returns-in-Ok-clause-takes g c = λ s part shows trusts kept.
    let J = within g.A.Answerer.LIMIT g.A.Answerer.answer_to g.A.Answerer.too_long in
    let now = c.lines.invariant in
    let rest = c.lines.rest.now in
    let h = now.8 s part shows trusts kept in
    let most = g.A.Answerer.LIMIT + 2 in
    let keeps : c.keep.new.kept.items ≡ take most (h.open_part ++ rest) =
    c.in-Ok.ensures ∙ ap (λ n. take (n + 2) (c.lines.progress.kept.items ++ rest)) c.LIMIT.ensures
    ∙ ap (λ x. take most (x ++ rest)) h.keeps ∙ take-again most h.open_part rest in
    takes-same J most _ s part _ _ _ _ _ _ _ _ _ _ _ (sym now.1)
    (takes-then J most _ _ s part _ _ _ _ _ _ _ _ _ _ _ _ _ _ _ _ h
    (takes-open J most _ _ h.open_part rest _ _ _ _ _ (free-from rest c.in_default.ensures) h.shows keeps))

pub returns-in-Err-clause-stops : goal.returns-in-Err-clause-stops
returns-in-Err-clause-stops g c = λ s part shows trusts kept rest.
    let J = within g.A.Answerer.LIMIT g.A.Answerer.answer_to g.A.Answerer.too_long in
    let now = c.lines.invariant in
    let left = c.lines.rest.now in
    let h = now.8 s part shows trusts kept in
    takes-stops J _ _ _ _ s part _ _ (lines_from h.open_part (left ++ rest)) _ _ _ _ _ _ _ _ _ _ _ h
    (ap (λ z. lines_from part (z ++ rest)) now.1 ∙ ap (lines_from part) (append_assoc now.0 left rest) ∙ h.goes (left ++ rest))
    (stops-here J _ _ _ _ _ _ _ h.shows refl now.3)

pub returns-in_err-take_line-clause-steps : goal.returns-in_err-take_line-clause-steps
returns-in_err-take_line-clause-steps g c = steps_then g.A.Answerer.Steps _ _ _ c.lines.invariant.6 c.in_err-take_line.ensures.steps

pub returns-in-Ok-clause-steps : goal.returns-in-Ok-clause-steps
returns-in-Ok-clause-steps g c = c.lines.invariant.6

pub returns-in-Err-clause-steps : goal.returns-in-Err-clause-steps
returns-in-Err-clause-steps g c = c.lines.invariant.6

pub lines-smaller : goal.lines-smaller
lines-smaller g c = less-behind c.lines.rest.now c.in-Some.at c.in-Some.ensures.0.high

pub keep-requires : goal.keep-requires
keep-requires g c = subst (λ n. vec_len c.lines.progress.kept ≤ n + 2) (sym c.LIMIT.ensures) c.lines.invariant.2

pub returns-in-Ok-clause-kept : goal.returns-in-Ok-clause-kept
returns-in-Ok-clause-kept g c = kept-within _ _ _ c.keep.new.kept.items _ c.keep.new.kept.ok.0 c.in-Ok.ensures c.LIMIT.ensures

pub returns-in-Ok-clause-counts : goal.returns-in-Ok-clause-counts
returns-in-Ok-clause-counts g c =
    let now = c.lines.invariant in (now.4, lines-within c.lines.progress.counts.lines c.args.progress.now.counts.lines c.args.piece.now now.0 c.lines.rest.now now.5 now.1)

pub returns-in_err-take_line-clause-trust : goal.returns-in_err-take_line-clause-trust
returns-in_err-take_line-clause-trust g c = λ trusts. c.lines.invariant.7 (c.in_err-take_line.ensures.trust trusts)

pub returns-in-Ok-clause-trust : goal.returns-in-Ok-clause-trust
returns-in-Ok-clause-trust g c = c.lines.invariant.7

pub returns-in-Err-clause-trust : goal.returns-in-Err-clause-trust
returns-in-Err-clause-trust g c = c.lines.invariant.7

pub slice_bounds-take_line-end : goal.slice_bounds-take_line-end
slice_bounds-take_line-end g c = front-len c.lines.rest.now c.in-Some.at c.in-Some.ensures.0.high

pub slice_bounds-rest-count : goal.slice_bounds-rest-count
slice_bounds-rest-count g c = next-within _ _ c.in-Some.ensures.0.high

pub overflow_add-rest : goal.overflow_add-rest
overflow_add-rest g c = next-fits c.args.progress.now.counts.lines c.in-Some.at c.args.piece.now c.lines.invariant.0 c.lines.rest.now c.lines.invariant.1 c.in-Some.ensures.0.high c.requires.counts.1
