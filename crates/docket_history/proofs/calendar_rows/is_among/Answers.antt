use Rattle.std.proofs.Common.{◌≡◌, ◌||◌, false, sym, ap, ◌∙◌}
use Rattle.std.specs.List.{list_any}
use Rattle.docket_history.specs.CalendarItems.{is_same_item, stands_among}
use Rattle.docket_history.proofs.CalendarLemmas.{list_any-map}
use Rattle.docket_history.proofs.calendar_rows.is_among.Goals as goal

pub returns-else-stands_among : goal.returns-else-stands_among
returns-else-stands_among c =
    let nothing : stands_among c.args.standing.now c.args.item.now ≡ false = sym c.stands_among.ensures ∙ c.if-stands_among.false in
    c.is_in_rows.ensures
    ∙ sym (list_any-map (λ other. is_same_item other c.args.item.now) (λ row. row.item) c.args.standing.now c.args.rows.now
    ∙ ap (λ b. b || list_any (λ row. is_same_item row.item c.args.item.now) c.args.rows.now) nothing)
