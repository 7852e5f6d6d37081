use Rattle.std.proofs.Common.{◌≡◌, length, sym, ap, subst, ◌∙◌, arith}
use Rattle.std.specs.List.{All}
use Rattle.std.proofs.lemmas.List.{length-map}
use Rattle.court_days.specs.Court.{zone_of}
use Rattle.court_rules.specs.Standings.{AreActs}
use Rattle.docket_decisions.proofs.Leading.{length-deadlines_from}
use Rattle.docket_decisions.proofs.LimitsKept.{within_limits, lawful_deadlines}
use Rattle.docket_history.specs.CalendarItems.{IsEnteredItem}
use Rattle.docket_history.specs.Histories.{History, items_of, standing_rows, act_rows, deadline_rows, deadlines, deadlines_from, deadlines_of_case}
use Rattle.docket_history.specs.declared.row.CalendarRow.{CalendarRow}
use Rattle.docket_history.specs.declared.view.DeadlineView.{DeadlineView}
use Rattle.docket_plain.specs.Dockets.{history_of}
use Rattle.docket_plain.proofs.reading.lines_of_case.Goals as goal

pub calendar_of-requires : goal.calendar_of-requires
calendar_of-requires c =
    let h : History = history_of c.args.tables.now.receipts.items in
    let limits = within_limits c.args.court.now h c.requires.accepted in
    let seen : c.as_slice-2.result.now ≡ items_of (standing_rows h) = c.as_slice-2.ensures.value ∙ c.in_ok-items.ensures ∙ ap items_of (c.as_slice.ensures.value ∙ ap (λ t. t.calendar) c.requires.same) in
    record {
      items = subst (All IsEnteredItem) (sym seen) limits.items;
      rows = omega (arith, ap length seen, length-map (standing_rows h) (λ (row : CalendarRow). row.item), limits.rows);
    }

pub deadline_lines-requires : goal.deadline_lines-requires
deadline_lines-requires c =
    let h : History = history_of c.args.tables.now.receipts.items in
    let k = c.args.number in
    let limits = within_limits c.args.court.now h c.requires.accepted in
    let seen : c.as_slice-3.result.now ≡ deadlines k h = c.as_slice-3.ensures.value ∙ c.in_ok-deadlines.ensures ∙ ap (λ t. deadlines_from k 1 t.acts (deadlines_of_case k t.deadlines)) c.requires.same in
    record {
      few = omega (arith, ap length seen, length-deadlines_from k 1 (act_rows h) (deadlines_of_case k (deadline_rows h)), limits.deadlines k);
      acts = subst (All (λ (d : DeadlineView). AreActs (zone_of c.args.court.now) d.acts)) (sym seen) (lawful_deadlines c.args.court.now h limits k);
    }
