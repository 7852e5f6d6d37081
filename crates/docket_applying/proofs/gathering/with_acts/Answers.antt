use Rattle.std.proofs.Common.{◌∙◌, ◌++◌, [], ◌∷◌, ap, arith}
use Rattle.docket_history.specs.declared.row.DeadlineRow.{DeadlineRow}
use Rattle.docket_applying.proofs.GatherLemmas.{next_shown}
use Rattle.docket_applying.proofs.gathering.with_acts.Goals as goal

pub loop-row-preserved : goal.loop-row-preserved
loop-row-preserved c k all runs are =
    let row : DeadlineRow = c.row-item.result in
    let found = c.loop-row.found.items in
    next_shown k c.loop-row.row-index all c.args.deadlines.now row found c.push.new.self.items c.new.result c.loop-row.rest.now c.split_at.result.0.now c.split_at.result.1.now c.count_up_to.result
    c.row-item.is runs (omega (arith, c.loop-row-test.true)) (c.loop-row.invariant k all runs are) c.count_up_to.ensures.bound c.count_up_to.ensures.cut c.split_at.ensures.front c.split_at.ensures.back
    (c.new.ensures ∙ c.in_ok-list.ensures)
    (c.in_ok-push.ensures.items ∙ ap (λ rule. found ++ record { party = row.party; rule = rule; initial = row.initial; acts = c.new.result } ∷ []) c.in_ok-copied.ensures)
