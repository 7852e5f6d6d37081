use Rattle.docket_text.specs.CalendarOrder.{row_where}
use Rattle.docket_text.proofs.LoopLemmas.{row-added, rows-added}
use Rattle.docket_text.proofs.order.due_rows.Goals as goal

pub loop-line-preserved : goal.loop-line-preserved
loop-line-preserved c =
    row-added (λ line. row_where c.args.case line line.standing) c.args.lines.now c.loop-line.line-index c.line-item.result _ _ _
    c.loop-line.invariant c.loop-line-test.true c.line-item.is c.in_ok-push_running.ensures

pub returns : goal.returns
returns c = rows-added (λ line. row_where c.args.case line line.standing) c.args.lines.now c.loop-line.line-index _ _ c.loop-line.invariant c.loop-line-test.false
