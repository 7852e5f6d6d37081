use Rattle.std.proofs.Common.{◌≡◌, ◌+◌, ◌<◌, ◌^◌, length}
use Rattle.std.specs.Vec.Iter.{into_iter_items, into_iter_len}
use Rattle.docket_decisions.specs.Tables.{all_changed}
use Rattle.docket_plain.specs.Vectors.{lists_of, HasRoom}
use Rattle.docket_plain.proofs.vectors.change_all.Given as goal

abbrev pub invariant-loop-next : goal.invariant-loop-next
invariant-loop-next l = record {
  len : into_iter_len l.next-iterator ≡ length (into_iter_items l.next-iterator);
  next_row : l.tables.next_row + into_iter_len l.next-iterator < 2 ^ 64;
  room : HasRoom (into_iter_len l.next-iterator) l.tables;
  rest : all_changed (into_iter_items l.next-iterator) (lists_of l.tables) ≡ all_changed (into_iter_items l.initial.next-iterator) (lists_of l.fn.tables);
}
