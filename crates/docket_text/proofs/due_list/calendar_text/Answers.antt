use Rattle.std.proofs.Common.{◌++◌, ◌∙◌, ap, length}
use Rattle.docket_text.specs.CalendarTexts.{calendar_line, end_line}
use Rattle.docket_text.proofs.LoopLemmas.{row-added, rows-added}
use Rattle.docket_text.proofs.due_list.calendar_text.Goals as goal

pub loop-row-preserved : goal.loop-row-preserved
loop-row-preserved c =
    row-added (calendar_line c.args.court.now) c.args.rows.now c.loop-row.row-index c.row-item.result _ _ _
    c.loop-row.invariant c.loop-row-test.true c.row-item.is c.in_ok-write.ensures.bytes

pub returns : goal.returns
returns c =
    c.in_ok-writeln.ensures.bytes
    ∙ ap (λ z. z ++ end_line (length c.args.rows.now)) (rows-added (calendar_line c.args.court.now) c.args.rows.now c.loop-row.row-index _ _ c.loop-row.invariant c.loop-row-test.false)
