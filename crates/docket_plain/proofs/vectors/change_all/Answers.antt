use Rattle.std.proofs.Common.{ℕ, length, sym, ap, subst, ◌∙◌, arith}
use Rattle.std.specs.Vec.Iter.{into_iter_items, into_iter_len}
use Rattle.docket_decisions.specs.Tables.{all_changed}
use Rattle.docket_plain.specs.Vectors.{lists_of, HasRoom}
use Rattle.docket_plain.proofs.vectors.change_all.Goals as goal

pub loop-next-preserved : goal.loop-next-preserved
loop-next-preserved c =
    let l = c.loop-next in
    let rest = c.next.new.self in
    let steps = c.in-Some.ensures.steps in
    record {
      len = omega (arith, ap length steps.0);
      next_row = omega (arith, c.change.ensures.next_row, l.invariant.next_row);
      room = c.change.ensures.room (into_iter_len rest) (subst (λ (n : ℕ). HasRoom n l.tables) (sym steps.1) l.invariant.room);
      rest = ap (all_changed (into_iter_items rest)) c.change.ensures.lists ∙ ap (λ xs. all_changed xs (lists_of l.tables)) (sym steps.0) ∙ l.invariant.rest;
    }
