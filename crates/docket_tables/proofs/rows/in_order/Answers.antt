use Rattle.std.proofs.Common.{◌∙◌, ◌++◌, List, map, IsPermutation, ap₂, rules, subst}
use Rattle.std.proofs.lemmas.Iterator.{YieldsList-from_map}
use Rattle.std.proofs.lemmas.Iterator.Adapters.{YieldsList-from_vec, items_from_extend}
use Rattle.std.proofs.lemmas.List.Sorted.{answers_always}
use Rattle.docket_history.specs.ShortDays.{calendar_row}
use Rattle.docket_history.specs.declared.row.CalendarRow.{CalendarRow}
use Rattle.docket_history.specs.declared.row.ShortDayRow.{ShortDayRow}
use Rattle.docket_tables.proofs.TwoTables.{together}
use Rattle.docket_tables.proofs.rows.in_order.Goals as goal

pub returns : goal.returns
returns c rows rises days short_days =
    let sorted = c.sort_by_key.new.self.items in
    let added =
    items_from_extend c.extend.result c.extend.ensures.ran (YieldsList-from_map _ calendar_row (YieldsList-from_vec c.args.short_days.items (search rules) (search rules)) c.map.ensures.closure (λ x r q k. search rules)) in
    let both = ap₂ (λ (xs : List CalendarRow) (ys : List ShortDayRow). xs ++ map calendar_row ys) days short_days in
    let same = subst (λ xs. IsPermutation xs sorted) ((search rules) ∙ both) c.sort_by_key.ensures.permutation in
    together rows sorted rises same (c.in_ok-sort_by_key.ensures.sorted (λ row. row.number) (answers_always _ _ _ (λ f a r g h. search rules)))
