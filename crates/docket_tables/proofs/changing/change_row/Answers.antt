use Rattle.docket_tables.specs.Additions.{AreStorable, values_added}
use Rattle.docket_orderly.specs.Additions.{MayAdd}
use Rattle.docket_tables.proofs.AdditionLemmas.{case_may, party_may, entry_may, deadline_may, act_may, local_rule_may}
use Rattle.docket_tables.proofs.ChangeCauses.{row_caused}
use Rattle.std.proofs.Common.{◌∙◌, ap, inl, sym, subst, refl}
use Rattle.std.proofs.lemmas.Result.{IfErr-weaker, IfOk-weaker}
use Rattle.sqlite.specs.Held.{state}
use Rattle.docket_history.specs.ShortDays.{day_and_span_rows, short_day_rows}
use Rattle.docket_decisions.specs.Tables.{changed}
use Rattle.docket_columns.specs.Cells.{calendar_cells, short_day_cells, case_cells, party_cells, entry_cells, deadline_cells, act_cells, local_rule_cells}
use Rattle.docket_tables.specs.AnyRows.{row_changed}
use Rattle.docket_tables.specs.Contents.{rows_with}
use Rattle.docket_tables.specs.Stands.{Sees}
use Rattle.docket_tables.specs.declared.table.Table.TheVariants.{Cases, Parties, Entries, Deadlines, Acts, LocalRules}
use Rattle.docket_tables.proofs.ContentsLemmas.{row_inserted, sees_same, case_added, party_added, entry_added, deadline_added, act_added, local_rule_added, calendar_removed, keyed_rows}
use Rattle.docket_tables.proofs.changing.change_row.Goals as goal

pub returns-in-AddCalendar-clause-ok : goal.returns-in-AddCalendar-clause-ok
returns-in-AddCalendar-clause-ok g c clean court t ends small sees =
    IfOk-weaker c.add_calendar_row.result _ _ (λ _ h. subst (λ x. Sees (state g.S.Store c.add_calendar_row.new.tx.conn.now) (rows_with court (changed x t) ends)) (sym c.in-AddCalendar.is) h)
    (c.add_calendar_row.ensures.ok clean court t ends small sees)

pub returns-in-RemoveCalendar-clause-ok : goal.returns-in-RemoveCalendar-clause-ok
returns-in-RemoveCalendar-clause-ok g c clean court t ends small sees =
    let new = state g.S.Store c.withdraw_row.new.tx.conn.now in
    IfOk-weaker c.withdraw_row.result _ _ (λ _ h. sees_same new _ (rows_with court (changed c.args.change.now t) ends)
    (λ other. calendar_removed court t ends _ other ∙ ap (λ x. rows_with court (changed x t) ends other) (sym c.in-RemoveCalendar.is)) h)
    (c.withdraw_row.ensures.ok clean (rows_with court t ends) (keyed_rows calendar_cells (λ row. row.number) (λ row. refl) (day_and_span_rows t.calendar))
    (keyed_rows short_day_cells (λ row. row.number) (λ row. refl) (short_day_rows t.calendar)) sees)

pub returns-in-AddCase-clause-ok : goal.returns-in-AddCase-clause-ok
returns-in-AddCase-clause-ok g c clean court t ends small sees =
    let row = c.in-AddCase.row in
    let old = state g.S.Store c.args.tx.now.conn.now in
    let new = state g.S.Store c.insert.new.tx.conn.now in
    row_inserted c.insert.result old new Cases _ (case_cells row) (rows_with court t ends) (rows_with court (changed c.args.change.now t) ends) c.case_values.ensures refl
    (λ other. case_added court t ends row other ∙ ap (λ x. rows_with court (changed x t) ends other) (sym c.in-AddCase.is)) (c.insert.ensures.ok clean) sees

pub returns-in-AddParty-clause-ok : goal.returns-in-AddParty-clause-ok
returns-in-AddParty-clause-ok g c clean court t ends small sees =
    let row = c.in-AddParty.row in
    let old = state g.S.Store c.args.tx.now.conn.now in
    let new = state g.S.Store c.insert-in-AddParty.new.tx.conn.now in
    row_inserted c.insert-in-AddParty.result old new Parties _ (party_cells row) (rows_with court t ends) (rows_with court (changed c.args.change.now t) ends) c.party_values.ensures refl
    (λ other. party_added court t ends row other ∙ ap (λ x. rows_with court (changed x t) ends other) (sym c.in-AddParty.is)) (c.insert-in-AddParty.ensures.ok clean) sees

pub returns-in-AddEntry-clause-ok : goal.returns-in-AddEntry-clause-ok
returns-in-AddEntry-clause-ok g c clean court t ends small sees =
    let row = c.in-AddEntry.row in
    let old = state g.S.Store c.args.tx.now.conn.now in
    let new = state g.S.Store c.insert-in-AddEntry.new.tx.conn.now in
    row_inserted c.insert-in-AddEntry.result old new Entries _ (entry_cells row) (rows_with court t ends) (rows_with court (changed c.args.change.now t) ends) c.entry_values.ensures refl
    (λ other. entry_added court t ends row other ∙ ap (λ x. rows_with court (changed x t) ends other) (sym c.in-AddEntry.is)) (c.insert-in-AddEntry.ensures.ok clean) sees

pub returns-in-AddDeadline-clause-ok : goal.returns-in-AddDeadline-clause-ok
returns-in-AddDeadline-clause-ok g c clean court t ends small sees =
    let row = c.in-AddDeadline.row in
    let old = state g.S.Store c.args.tx.now.conn.now in
    let new = state g.S.Store c.insert-in-AddDeadline.new.tx.conn.now in
    row_inserted c.insert-in-AddDeadline.result old new Deadlines _ (deadline_cells row) (rows_with court t ends) (rows_with court (changed c.args.change.now t) ends) c.deadline_values.ensures refl
    (λ other. deadline_added court t ends row other ∙ ap (λ x. rows_with court (changed x t) ends other) (sym c.in-AddDeadline.is)) (c.insert-in-AddDeadline.ensures.ok clean) sees

pub returns-in-AddAct-clause-ok : goal.returns-in-AddAct-clause-ok
returns-in-AddAct-clause-ok g c clean court t ends small sees =
    let row = c.in-AddAct.row in
    let old = state g.S.Store c.args.tx.now.conn.now in
    let new = state g.S.Store c.insert-in-AddAct.new.tx.conn.now in
    row_inserted c.insert-in-AddAct.result old new Acts _ (act_cells row) (rows_with court t ends) (rows_with court (changed c.args.change.now t) ends) c.act_values.ensures refl
    (λ other. act_added court t ends row other ∙ ap (λ x. rows_with court (changed x t) ends other) (sym c.in-AddAct.is)) (c.insert-in-AddAct.ensures.ok clean) sees

pub returns-in-AddLocalRule-clause-ok : goal.returns-in-AddLocalRule-clause-ok
returns-in-AddLocalRule-clause-ok g c clean court t ends small sees =
    let row = c.in-AddLocalRule.row in
    let old = state g.S.Store c.args.tx.now.conn.now in
    let new = state g.S.Store c.insert-in-AddLocalRule.new.tx.conn.now in
    row_inserted c.insert-in-AddLocalRule.result old new LocalRules _ (local_rule_cells row) (rows_with court t ends) (rows_with court (changed c.args.change.now t) ends) c.local_rule_values.ensures refl
    (λ other. local_rule_added court t ends row other ∙ ap (λ x. rows_with court (changed x t) ends other) (sym c.in-AddLocalRule.is)) (c.insert-in-AddLocalRule.ensures.ok clean) sees

pub returns-in-AddCalendar-clause-any : goal.returns-in-AddCalendar-clause-any
returns-in-AddCalendar-clause-any g c clean court n stored rows are small sees =
    IfOk-weaker c.add_calendar_row.result _ _ (λ _ h. subst (λ x. Sees (state g.S.Store c.add_calendar_row.new.tx.conn.now) (row_changed court n x rows)) (sym c.in-AddCalendar.is) h)
    (c.add_calendar_row.ensures.any clean court n stored rows are small sees)

pub returns-in-RemoveCalendar-clause-any : goal.returns-in-RemoveCalendar-clause-any
returns-in-RemoveCalendar-clause-any g c clean court n stored rows are small sees =
    IfOk-weaker c.withdraw_row.result _ _ (λ _ h. subst (λ x. Sees (state g.S.Store c.withdraw_row.new.tx.conn.now) (row_changed court n x rows)) (sym c.in-RemoveCalendar.is) h)
    (c.withdraw_row.ensures.ok clean rows are.keyed are.keyed_short sees)

pub returns-in-AddCase-clause-any : goal.returns-in-AddCase-clause-any
returns-in-AddCase-clause-any g c clean court n stored rows are small sees =
    let old = state g.S.Store c.args.tx.now.conn.now in
    let new = state g.S.Store c.insert.new.tx.conn.now in
    row_inserted c.insert.result old new Cases _ (case_cells c.in-AddCase.row) rows (row_changed court n c.args.change.now rows) c.case_values.ensures refl
    (λ other. ap (λ x. row_changed court n x rows other) (sym c.in-AddCase.is)) (c.insert.ensures.ok clean) sees

pub returns-in-AddParty-clause-any : goal.returns-in-AddParty-clause-any
returns-in-AddParty-clause-any g c clean court n stored rows are small sees =
    let old = state g.S.Store c.args.tx.now.conn.now in
    let new = state g.S.Store c.insert-in-AddParty.new.tx.conn.now in
    row_inserted c.insert-in-AddParty.result old new Parties _ (party_cells c.in-AddParty.row) rows (row_changed court n c.args.change.now rows) c.party_values.ensures refl
    (λ other. ap (λ x. row_changed court n x rows other) (sym c.in-AddParty.is)) (c.insert-in-AddParty.ensures.ok clean) sees

pub returns-in-AddEntry-clause-any : goal.returns-in-AddEntry-clause-any
returns-in-AddEntry-clause-any g c clean court n stored rows are small sees =
    let old = state g.S.Store c.args.tx.now.conn.now in
    let new = state g.S.Store c.insert-in-AddEntry.new.tx.conn.now in
    row_inserted c.insert-in-AddEntry.result old new Entries _ (entry_cells c.in-AddEntry.row) rows (row_changed court n c.args.change.now rows) c.entry_values.ensures refl
    (λ other. ap (λ x. row_changed court n x rows other) (sym c.in-AddEntry.is)) (c.insert-in-AddEntry.ensures.ok clean) sees

pub returns-in-AddDeadline-clause-any : goal.returns-in-AddDeadline-clause-any
returns-in-AddDeadline-clause-any g c clean court n stored rows are small sees =
    let old = state g.S.Store c.args.tx.now.conn.now in
    let new = state g.S.Store c.insert-in-AddDeadline.new.tx.conn.now in
    row_inserted c.insert-in-AddDeadline.result old new Deadlines _ (deadline_cells c.in-AddDeadline.row) rows (row_changed court n c.args.change.now rows) c.deadline_values.ensures refl
    (λ other. ap (λ x. row_changed court n x rows other) (sym c.in-AddDeadline.is)) (c.insert-in-AddDeadline.ensures.ok clean) sees

pub returns-in-AddAct-clause-any : goal.returns-in-AddAct-clause-any
returns-in-AddAct-clause-any g c clean court n stored rows are small sees =
    let old = state g.S.Store c.args.tx.now.conn.now in
    let new = state g.S.Store c.insert-in-AddAct.new.tx.conn.now in
    row_inserted c.insert-in-AddAct.result old new Acts _ (act_cells c.in-AddAct.row) rows (row_changed court n c.args.change.now rows) c.act_values.ensures refl
    (λ other. ap (λ x. row_changed court n x rows other) (sym c.in-AddAct.is)) (c.insert-in-AddAct.ensures.ok clean) sees

pub returns-in-AddLocalRule-clause-any : goal.returns-in-AddLocalRule-clause-any
returns-in-AddLocalRule-clause-any g c clean court n stored rows are small sees =
    let old = state g.S.Store c.args.tx.now.conn.now in
    let new = state g.S.Store c.insert-in-AddLocalRule.new.tx.conn.now in
    row_inserted c.insert-in-AddLocalRule.result old new LocalRules _ (local_rule_cells c.in-AddLocalRule.row) rows (row_changed court n c.args.change.now rows) c.local_rule_values.ensures refl
    (λ other. ap (λ x. row_changed court n x rows other) (sym c.in-AddLocalRule.is)) (c.insert-in-AddLocalRule.ensures.ok clean) sees

pub returns-in-AddCalendar-clause-cause : goal.returns-in-AddCalendar-clause-cause
returns-in-AddCalendar-clause-cause g c clean court t ends small short sees may storable =
    c.add_calendar_row.ensures.cause clean court t ends small short sees (subst (λ x. MayAdd x t) c.in-AddCalendar.is may) (subst (λ x. AreStorable (values_added x)) c.in-AddCalendar.is storable)

pub returns-in-RemoveCalendar-clause-cause : goal.returns-in-RemoveCalendar-clause-cause
returns-in-RemoveCalendar-clause-cause g c clean court t ends small short sees may storable = IfErr-weaker c.withdraw_row.result _ _ (λ e h. inl h) (c.withdraw_row.ensures.cause clean court t ends sees)

pub returns-in-AddCase-clause-cause : goal.returns-in-AddCase-clause-cause
returns-in-AddCase-clause-cause g c clean court t ends small short sees may storable =
    let old = state g.S.Store c.args.tx.now.conn.now in
    let new = state g.S.Store c.insert.new.tx.conn.now in
    let row = c.in-AddCase.row in
    row_caused c.insert.result old new Cases _ (case_cells row) (rows_with court t ends) c.case_values.ensures refl
    (case_may court t ends row (subst (λ x. MayAdd x t) c.in-AddCase.is may) (subst (λ x. AreStorable (values_added x)) c.in-AddCase.is storable)) sees (c.insert.ensures.cause clean)

pub returns-in-AddParty-clause-cause : goal.returns-in-AddParty-clause-cause
returns-in-AddParty-clause-cause g c clean court t ends small short sees may storable =
    let old = state g.S.Store c.args.tx.now.conn.now in
    let new = state g.S.Store c.insert-in-AddParty.new.tx.conn.now in
    let row = c.in-AddParty.row in
    row_caused c.insert-in-AddParty.result old new Parties _ (party_cells row) (rows_with court t ends) c.party_values.ensures refl
    (party_may court t ends row (subst (λ x. MayAdd x t) c.in-AddParty.is may) (subst (λ x. AreStorable (values_added x)) c.in-AddParty.is storable)) sees (c.insert-in-AddParty.ensures.cause clean)

pub returns-in-AddEntry-clause-cause : goal.returns-in-AddEntry-clause-cause
returns-in-AddEntry-clause-cause g c clean court t ends small short sees may storable =
    let old = state g.S.Store c.args.tx.now.conn.now in
    let new = state g.S.Store c.insert-in-AddEntry.new.tx.conn.now in
    let row = c.in-AddEntry.row in
    row_caused c.insert-in-AddEntry.result old new Entries _ (entry_cells row) (rows_with court t ends) c.entry_values.ensures refl
    (entry_may court t ends row (subst (λ x. MayAdd x t) c.in-AddEntry.is may) (subst (λ x. AreStorable (values_added x)) c.in-AddEntry.is storable)) sees (c.insert-in-AddEntry.ensures.cause clean)

pub returns-in-AddDeadline-clause-cause : goal.returns-in-AddDeadline-clause-cause
returns-in-AddDeadline-clause-cause g c clean court t ends small short sees may storable =
    let old = state g.S.Store c.args.tx.now.conn.now in
    let new = state g.S.Store c.insert-in-AddDeadline.new.tx.conn.now in
    let row = c.in-AddDeadline.row in
    row_caused c.insert-in-AddDeadline.result old new Deadlines _ (deadline_cells row) (rows_with court t ends) c.deadline_values.ensures refl
    (deadline_may court t ends row (subst (λ x. MayAdd x t) c.in-AddDeadline.is may) (subst (λ x. AreStorable (values_added x)) c.in-AddDeadline.is storable)) sees (c.insert-in-AddDeadline.ensures.cause clean)

pub returns-in-AddAct-clause-cause : goal.returns-in-AddAct-clause-cause
returns-in-AddAct-clause-cause g c clean court t ends small short sees may storable =
    let old = state g.S.Store c.args.tx.now.conn.now in
    let new = state g.S.Store c.insert-in-AddAct.new.tx.conn.now in
    let row = c.in-AddAct.row in
    row_caused c.insert-in-AddAct.result old new Acts _ (act_cells row) (rows_with court t ends) c.act_values.ensures refl
    (act_may court t ends row (subst (λ x. MayAdd x t) c.in-AddAct.is may) (subst (λ x. AreStorable (values_added x)) c.in-AddAct.is storable)) sees (c.insert-in-AddAct.ensures.cause clean)

pub returns-in-AddLocalRule-clause-cause : goal.returns-in-AddLocalRule-clause-cause
returns-in-AddLocalRule-clause-cause g c clean court t ends small short sees may storable =
    let old = state g.S.Store c.args.tx.now.conn.now in
    let new = state g.S.Store c.insert-in-AddLocalRule.new.tx.conn.now in
    let row = c.in-AddLocalRule.row in
    row_caused c.insert-in-AddLocalRule.result old new LocalRules _ (local_rule_cells row) (rows_with court t ends) c.local_rule_values.ensures refl
    (local_rule_may court t ends row (subst (λ x. MayAdd x t) c.in-AddLocalRule.is may) (subst (λ x. AreStorable (values_added x)) c.in-AddLocalRule.is storable)) sees (c.insert-in-AddLocalRule.ensures.cause clean)
