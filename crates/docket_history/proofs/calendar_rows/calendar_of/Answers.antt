use Rattle.std.proofs.Common.{ℕ, ap, arith}
use Rattle.std.specs.FinMap as map
use Rattle.std.specs.Ordering.{nat_cmp}
use Rattle.std.specs.FinSet.{len-empty}
use Rattle.court_days.specs.Spans.{span_cmp}
use Rattle.docket_history.specs.CalendarItems.{entered_with}
use Rattle.docket_history.proofs.calendar_rows.calendar_of.Goals as goal

pub loop-item-init : goal.loop-item-init
loop-item-init c = record {
  rest = ap (λ k. entered_with k c.args.items.now) c.new-calendar.ensures;
  few = rw c.new-calendar.ensures (omega (arith, len-empty nat_cmp, len-empty span_cmp, map.len-empty nat_cmp ℕ));
}
