use Rattle.std.proofs.Common.{◌≡◌, length}
use Rattle.std.specs.Vec.Iter.{into_iter_items, into_iter_len}
use Rattle.docket_decisions.specs.Tables.{Tables, all_changed}
use Rattle.docket_questions.proofs.calendar.rows_after.Given as goal

-- what the changes before this one left, and those behind it, lead to what all lead to
abbrev pub invariant-changes : goal.invariant-changes
invariant-changes l = record {
  len : into_iter_len l.change-iterator ≡ length (into_iter_items l.change-iterator);
  rest : (t : Tables) → l.fn.rows.items ≡ t.calendar
      → (now : Tables) × (l.rows.items ≡ now.calendar) × (all_changed (into_iter_items l.change-iterator) now ≡ all_changed (into_iter_items l.initial.change-iterator) t);
}
