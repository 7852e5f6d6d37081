use Rattle.std.proofs.Common.{◌≡◌, ◌∙◌, ◌<◌, ◌++◌, [], ◌∷◌, length, get_or, ap, sym, arith, rules}
use Rattle.court_days.specs.Court.{zone_of}
use Rattle.court_rules.specs.Standings.{standing}
use Rattle.docket_decisions.specs.EndRows.{end_running}
use Rattle.docket_history.specs.Records.{line_of}
use Rattle.docket_history.specs.declared.record.DeadlineLine.{DeadlineLine}
use Rattle.docket_history.specs.declared.view.DeadlineView.{DeadlineView}
use Rattle.docket_applying.proofs.LineLemmas.{next_line}
use Rattle.docket_applying.proofs.stored_lines.lines_by_ends.Goals as goal

pub loop-deadline-preserved : goal.loop-deadline-preserved
loop-deadline-preserved c = record {
  counted = omega (arith, c.loop-deadline.invariant.counted);
  rest = λ case same.
      let court = c.args.court.now in
      let zone = zone_of court in
      let entered = c.args.calendar.now in
      let i = c.loop-deadline.deadline-index in
      let n = c.loop-deadline.number in
      let ds = c.args.deadlines.now in
      let d : DeadlineView = c.deadline-item.result in
      let is : d ≡ get_or ds i d = search rules in
      let low : i < length ds = omega (arith, c.loop-deadline-test.true) in
      let acts_are : c.as_slice.result.now ≡ (get_or ds i d).acts = c.as_slice.ensures ∙ ap (λ (x : DeadlineView). x.acts) is in
      let stands = c.standing_told-standing.result in
      next_line court entered case n i ds d c.loop-deadline.rest.now c.after_first-rest.result.now c.first_end-end.result stands c.loop-deadline.lines.items c.push.new.self.items _ low
      (c.loop-deadline.invariant.rest case same) c.first_end-end.ensures c.after_first-rest.ensures
      (λ ends. c.standing_told-standing.ensures (ends ∙ ap (λ acts. end_running zone (standing zone entered acts)) (sym acts_are)) ∙ ap (standing zone entered) acts_are)
      (c.in_ok-push.ensures.items ∙ ap (λ (line : DeadlineLine). c.loop-deadline.lines.items ++ line ∷ []) (c.in_ok-line_of.ensures ∙ ap (λ (x : DeadlineView). line_of court entered n x stands) is));
}
