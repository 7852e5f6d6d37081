use Rattle.std.proofs.Common.{◌≡◌, ◌∷◌, length, sym, ap, subst, ◌∙◌, inr, arith}
use Rattle.std.specs.List.{All}
use Rattle.std.proofs.lemmas.List.{length-map}
use Rattle.docket_history.specs.CalendarItems.{IsEnteredItem}
use Rattle.docket_history.specs.Histories.{History, items_of, standing_rows}
use Rattle.docket_history.specs.declared.row.CalendarRow.{CalendarRow}
use Rattle.docket_decisions.proofs.LimitsKept.{within_limits, sound_view}
use Rattle.docket_decisions.specs.Decisions.{IsSoundView}
use Rattle.docket_decisions.specs.Outcomes.{shown, after_answer, accepted}
use Rattle.docket_decisions.specs.Tables.{view_in, rows_of, with_receipt, all_changed}
use Rattle.docket_history.specs.declared.view.View.{View}
use Rattle.docket_plain.specs.Dockets.{history_of}
use Rattle.docket_plain.specs.Vectors.{lists_of}
use Rattle.docket_plain.proofs.HeldHistories.{small, is_docket, history_told}
use Rattle.docket_plain.proofs.plain.apply_to.Goals as goal

pub view_of-requires : goal.view_of-requires
view_of-requires c =
    let court = c.args.court.now in
    let h : History = history_of c.args.tables.now.receipts.items in
    let limits = within_limits court h c.requires.accepted in
    let seen : items_of c.args.tables.now.calendar.items ≡ items_of (standing_rows h) = ap (λ t. items_of t.calendar) c.requires.same in
    record {
      small = small court c.args.tables.now c.requires;
      items = subst (All IsEnteredItem) (sym seen) limits.items;
      rows = omega (arith, ap length seen, length-map (standing_rows h) (λ (row : CalendarRow). row.item), limits.rows);
    }

pub decide-requires : goal.decide-requires
decide-requires c =
    let h = history_of c.args.tables.now.receipts.items in
    let seen : c.in_ok-view.view ≡ shown c.args.court.now h c.args.command.now = c.in_ok-view.ensures ∙ ap (λ t. view_in t c.args.command.now) c.requires.same in
    subst (λ (w : View). IsSoundView c.args.court.now w) (sym seen) (sound_view c.args.court.now h c.requires.accepted c.args.command.now)

pub enter-requires : goal.enter-requires
enter-requires c = small c.args.court.now c.args.tables.now c.requires

pub returns : goal.returns
returns c =
    let court = c.args.court.now in
    let h = history_of c.args.tables.now.receipts.items in
    let command = c.args.command.now in
    let changes = c.in-Change.changes in
    let seen : c.in_ok-view.view ≡ shown court h command = c.in_ok-view.ensures ∙ ap (λ t. view_in t command) c.requires.same in
    let answer = rw c.in-Change.is at (c.in_ok-reply.ensures.outcome h seen) in
    let leads = rw c.in-Change.is at (c.in_ok-reply.ensures.tables h seen) in
    let entered = c.in_ok-enter-in-Change.ensures in
    let holds : lists_of c.enter.new.tables ≡ rows_of court (command ∷ h) = entered.entered ∙ ap (λ t. with_receipt command changes.reply (all_changed changes.rows.items t)) c.requires.same ∙ leads in
    record {
      docket = is_docket court (command ∷ h) c.enter.new.tables holds ((changes.reply, answer), c.requires.accepted);
      answer = inr (answer ∙ ap accepted (sym entered.reply));
      history = history_told court (command ∷ h) c.enter.new.tables holds ∙ sym (ap (λ a. after_answer a h command) answer);
    }
