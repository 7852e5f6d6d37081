use Rattle.std.proofs.Common.{◌≡◌, ap, rules}
use Rattle.std.specs.Ordering.{is_lt}
use Rattle.std.proofs.lemmas.Fn.{always_returns_same}
use Rattle.std.proofs.lemmas.List.Sorted.{ranks_by}
use Rattle.docket_history.specs.declared.record.DueRow.{DueRow}
use Rattle.docket_text.specs.CalendarOrder.{calendar_cmp}
use Rattle.docket_text.proofs.OrderLemmas.{calendar_cmp_total}
use Rattle.docket_text.proofs.order.sort_calendar.Goals as goal

pub returns : goal.returns
returns c =
    let cmp = calendar_cmp c.args.court.now in
    let sorted = c.sort_unstable_by.ensures.sorted (λ (a b : DueRow). is_lt (cmp a b)) (ranks_by (calendar_cmp_total c.args.court.now) (λ row. row)) in
    record {
      same = c.sort_unstable_by.ensures.permutation;
      ordered = sorted (always_returns_same _ _ _ (λ a r f' called.
          let says : r ≡ cmp a.0.now a.1.0.now = search rules in (ap is_lt says, search rules)));
    }
