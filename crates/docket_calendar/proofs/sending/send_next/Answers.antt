use Rattle.std.proofs.Common.{◌∙◌}
use Rattle.sqlite.specs.Held.{state}
use Rattle.docket_calendar.proofs.CauseLemmas.{stop_caused}
use Rattle.docket_calendar.proofs.TellLemmas.{line_sent, write_stops, stop_remains}
use Rattle.docket_calendar.proofs.sending.send_next.Goals as goal

pub returns-in_err-send-clause-sends : goal.returns-in_err-send-clause-sends
returns-in_err-send-clause-sends g c = λ sql params listed clean lists gave.
    let court = c.args.court.now in
    let old = c.args.rows.now.conn.now in
    let new = c.next_due.new.rows.conn.now in
    let next = c.in-Ok.ensures.next c.args.lines sql params listed clean lists gave in
    write_stops g.S.Store court listed sql params c.args.lines c.args.front.now c.as_str.result.now (g.W.Write.contents c.args.writer.now) (g.W.Write.contents c.send.new.writer) old new c.in-Ok.due
    c.from_residual.result _ next (c.as_str.ensures.value ∙ c.in-Ok-line_text.ensures) c.in_err-send.ensures.1 c.in_err-send.ensures.0 c.from_residual.ensures.1

pub returns-in-Err-clause-remains : goal.returns-in-Err-clause-remains
returns-in-Err-clause-remains g c = λ clean.
    stop_remains g.S.Store c.args.rows.now.conn.now c.next_due.new.rows.conn.now c.args.lines c.in-Err.fault c.stop_at.result c.stop_at.ensures (c.in-Err.ensures.remains clean)

pub returns-in-Err-clause-cause : goal.returns-in-Err-clause-cause
returns-in-Err-clause-cause g c = λ clean way.
    stop_caused (state g.S.Store c.args.rows.now.conn.now) (state g.S.Store c.next_due.new.rows.conn.now) c.args.lines c.in-Err.fault c.stop_at.result c.stop_at.ensures (c.in-Err.ensures.cause clean way)

pub returns-clause-sends : goal.returns-clause-sends
returns-clause-sends g c = λ sql params listed clean lists gave.
    let old = c.args.rows.now.conn.now in
    let new = c.next_due.new.rows.conn.now in
    let next = c.in-Ok.ensures.next c.args.lines sql params listed clean lists gave in
    line_sent g.S.Store c.args.court.now listed sql params c.args.lines c.args.front.now c.as_str.result.now (g.W.Write.contents c.args.writer.now) (g.W.Write.contents c.send.new.writer) old new c.in-Ok.due
    c.is_some-more.result next (c.as_str.ensures.value ∙ c.in-Ok-line_text.ensures) c.in_ok-send.ensures c.is_some-more.ensures
