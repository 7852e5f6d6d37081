use Rattle.std.proofs.Common.{◌∙◌, [], true, map, length, inl, inr, refl, sym, ap, subst}
use Rattle.sqlite_trees.proofs.ListLemmas.{filter_all, all_of}
use Rattle.docket_columns.specs.Cells.{local_rule_cells}
use Rattle.docket_tables.specs.Contents.{rows_in}
use Rattle.docket_tables.specs.declared.query.Query.TheVariants as ask
use Rattle.docket_tables.proofs.AnswerLemmas.{the_last}
use Rattle.docket_tables.proofs.ReadLemmas.{gives, read_ok}
use Rattle.std.specs.List.{AllByRecursion}
use Rattle.docket_columns.specs.Fits.{IsLocalRuleRow}
use Rattle.docket_orderly.specs.Orderly.{RunsFrom}
use Rattle.docket_tables.proofs.AskLemmas.{rows_read, rows_unread}
use Rattle.docket_tables.proofs.reading.count_local_rules.Goals as goal

pub returns-clause-read : goal.returns-clause-read
returns-clause-read g c court t orderly holds =
    let asked = c.in_ok-rows.ensures.ok (rows_in court t) holds in
    let rows = c.in_ok-rows.rows.items in
    gives g.S.Store c.ask.new.conn (rows_in court t) _ c.number_in.result asked.0 (λ clean.
    let all = filter_all (λ _. true) t.local_rules (all_of _ (λ _. refl) t.local_rules) in
    let runs = subst (λ xs. RunsFrom 1 (map (λ row. row.number) xs)) (sym all) orderly.local_rules_run in
    let each = subst (AllByRecursion IsLocalRuleRow) (sym all) orderly.local_rules in
    elim (the_last ask.LastLocalRule [] local_rule_cells (λ _. true) (λ row. refl) t.local_rules rows (λ row. row.number) (λ row. refl) IsLocalRuleRow refl refl runs each (asked.1 clean)) [
      | inl none ↦ read_ok _ c.number_in.result 0 (c.number_in.ensures.none (c.as_slice.ensures.value ∙ none.1)) (sym (ap length (sym all) ∙ none.0))
      | inr one ↦ read_ok _ c.number_in.result one.0.number (c.number_in.ensures.first (local_rule_cells one.0) one.0.number one.2.0 (c.as_slice.ensures.value ∙ one.3) refl) (one.1 ∙ ap length all)
    ])

pub returns-in_err-rows-clause-only : goal.returns-in_err-rows-clause-only
returns-in_err-rows-clause-only g c =
    rows_unread g.S.Store _ _ c.from_residual.result c.ask.ensures.mode c.ask.ensures.writes_nothing c.in_err-rows.field-0.0 c.from_residual.ensures.1 c.in_err-rows.ensures.err
    (λ rows holds clean. c.in_err-rows.ensures.cause rows holds refl clean)

pub returns-clause-only : goal.returns-clause-only
returns-clause-only g c = rows_read g.S.Store _ _ c.number_in.result c.ask.ensures.mode c.ask.ensures.writes_nothing (λ rows holds. (c.in_ok-rows.ensures.ok rows holds).0) c.number_in.ensures.own
