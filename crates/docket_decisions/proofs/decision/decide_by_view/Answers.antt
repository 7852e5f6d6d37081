use Rattle.std.proofs.Common.{◌≡◌, arith, sym, ap, ◌∙◌, length, subst}
use Rattle.court_days.specs.Court.{zone_of}
use Rattle.docket_history.specs.Histories.{rows_added}
use Rattle.docket_history.specs.Views.{deadline_shown, acts_in}
use Rattle.docket_decisions.specs.Decisions.{IsUpdateBy}
use Rattle.docket_decisions.specs.EndMoves.{AreLawful}
use Rattle.docket_decisions.specs.Refusals.{count_added}
use Rattle.docket_decisions.proofs.ComingActs.{changes_lawful}
use Rattle.docket_decisions.proofs.Passed.{is_free, rows_fit, deadlines_fit, few_shown}
use Rattle.docket_decisions.proofs.decision.decide_by_view.Goals as goal

pub reply-requires-clause-new : goal.reply-requires-clause-new
reply-requires-clause-new c = (is_free c.args.court.now c.args.view.now c.args.command.now (sym c.refusal.ensures ∙ c.in-None.is)).new

pub reply-requires-clause-room : goal.reply-requires-clause-room
reply-requires-clause-room c = (is_free c.args.court.now c.args.view.now c.args.command.now (sym c.refusal.ensures ∙ c.in-None.is)).room

pub changes_of_action-requires-clause-numbers : goal.changes_of_action-requires-clause-numbers
changes_of_action-requires-clause-numbers c =
    let free = is_free c.args.court.now c.args.view.now c.args.command.now (sym c.refusal.ensures ∙ c.in-None.is) in
    let fit = rows_fit c.args.view.now c.args.command.now.action free.room c.requires.next_row in
    let count : length c.in_ok-added.added.items ≡ count_added c.args.view.now c.args.command.now.action = ap length c.in_ok-added.ensures ∙ ap (λ items. length (rows_added items c.args.command.now.action)) c.as_slice.ensures.items in
    omega (arith, fit, count)

pub changes_of_action-requires-clause-room : goal.changes_of_action-requires-clause-room
changes_of_action-requires-clause-room c = (is_free c.args.court.now c.args.view.now c.args.command.now (sym c.refusal.ensures ∙ c.in-None.is)).room

pub changes_of_action-requires-clause-acts : goal.changes_of_action-requires-clause-acts
changes_of_action-requires-clause-acts c = few_shown c.args.court.now c.args.view.now c.requires

pub changes_of_action-requires-clause-deadlines : goal.changes_of_action-requires-clause-deadlines
changes_of_action-requires-clause-deadlines c =
    deadlines_fit c.args.view.now c.args.command.now.action
    (is_free c.args.court.now c.args.view.now c.args.command.now (sym c.refusal.ensures ∙ c.in-None.is)).room

pub end_update-requires : goal.end_update-requires
end_update-requires c =
    let court = c.args.court.now in
    let view = c.args.view.now in
    let free = is_free court view c.args.command.now (sym c.refusal.ensures ∙ c.in-None.is) in
    subst (AreLawful (zone_of court) (acts_in (deadline_shown view))) (sym (c.as_slice-2.ensures.value ∙ c.in_ok-rows.ensures))
    (changes_lawful court view c.args.command.now c.requires free)

pub returns-clause-ends : goal.returns-clause-ends
returns-clause-ends c =
    subst (λ changes. IsUpdateBy c.args.court.now c.args.view.now c.args.command.now.action changes c.in_ok-ends.ends) c.as_slice-2.ensures.value (c.in_ok-ends.ensures _ c.of.ensures)
