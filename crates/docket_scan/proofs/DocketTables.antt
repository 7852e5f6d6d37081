-- A docket's own tables are sound, in whatever order of their keys they are read.
use Rattle.std.proofs.Common.{◌≡◌, ◌∙◌, ℕ, Bool, List, map, length, sym, ap, ap₂, subst}
use Rattle.std.specs.List.{AllByRecursion}
use Rattle.std.specs.declared.cmp.Ordering.{Ordering}
use Rattle.sqlite.specs.Order.{Row}
use Rattle.sqlite_trees.proofs.ListLemmas.{all-permutation, all-map, all_weaker, map-map}
use Rattle.court_days.specs.Court.{CourtSettings, zone_of}
use Rattle.docket_history.specs.CalendarItems.{calendar_of}
use Rattle.docket_decisions.specs.EndRows.{end_rows}
use Rattle.docket_history.specs.Histories.{History, items_of, standing_rows, next_row, case_rows, party_rows, parties_of_case, entry_rows, deadline_rows, deadlines_of_case, act_rows, local_rule_rows}
use Rattle.docket_decisions.specs.Outcomes.{IsHistory, receipts}
use Rattle.docket_history.specs.ShortDays.{day_and_span_rows, short_day_rows}
use Rattle.docket_decisions.specs.Tables.{rows_of}
use Rattle.docket_decisions.specs.declared.end_row.StoredEnd.{StoredEnd}
use Rattle.docket_history.specs.declared.row.ActRow.{ActRow}
use Rattle.docket_history.specs.declared.row.CalendarRow.{CalendarRow}
use Rattle.docket_history.specs.declared.row.DeadlineRow.{DeadlineRow}
use Rattle.docket_history.specs.declared.row.LocalRuleRow.{LocalRuleRow}
use Rattle.docket_history.specs.declared.row.PartyRow.{PartyRow}
use Rattle.docket_decisions.proofs.LimitsKept.{within_limits}
use Rattle.docket_columns.specs.Cells.{calendar_cells, short_day_cells, case_cells, party_cells, entry_cells, deadline_cells, act_cells, receipt_cells, end_cells, local_rule_cells}
use Rattle.docket_columns.specs.Fits.{IsCalendarRow, IsShortDayRow, IsCaseRow, IsPartyRow, IsEntryRow, IsDeadlineRow, IsActRow, IsReceipt, IsEndRow, IsLocalRuleRow}
use Rattle.docket_wire.specs.Valid.{IsCommand}
use Rattle.docket_sound.specs.Deadlines.{deadline_key}
use Rattle.docket_sound.specs.Dues.{dues_of}
use Rattle.docket_sound.specs.KnownTexts.{is_one_of}
use Rattle.docket_sound.specs.LocalRules.{rule_names}
use Rattle.docket_sound.specs.Orders.{AreInOrder, calendar_order, short_day_order, case_order, party_order, entry_order, deadline_order, act_order, receipt_order, end_order, local_rule_order}
use Rattle.docket_sound.specs.Parties.{party_key}
use Rattle.docket_sound.specs.Receipts.{AreOfKnownKinds, AreSoundReceipts}
use Rattle.docket_sound.specs.ShortDays.{AreSoundShortDays}
use Rattle.docket_sound.proofs.SortedActs.{sorted_acts}
use Rattle.docket_sound.proofs.SortedEnds.{ends_stored}
use Rattle.docket_sound.proofs.SortedReceipts.{sorted_receipts}
use Rattle.docket_sound.proofs.SortedRows.{sorted_calendar, sorted_short_days, sorted_cases, sorted_parties, party_counts, sorted_entries, sorted_deadlines, deadline_counts, sorted_local_rules}
use Rattle.docket_tables.specs.declared.table.Table.{Table}
use Rattle.docket_tables.specs.declared.table.Table.TheVariants as table
use Rattle.docket_tables.proofs.Orderly.ActLemmas.{acts_held}
use Rattle.docket_tables.proofs.Orderly.CalendarLemmas.{calendar_held, short_days_held}
use Rattle.docket_tables.proofs.Orderly.EndLemmas.{ends_held}
use Rattle.docket_tables.proofs.Orderly.LocalRuleLemmas.{local_rules_held}
use Rattle.docket_tables.proofs.Orderly.ReceiptLemmas.{receipts_held}
use Rattle.docket_tables.proofs.Orderly.RowLemmas.{cases_held, parties_held, entries_held, deadlines_held}
use Rattle.docket_scan.specs.Records.{IsTable, IsStoredReceipt, receipt_cells as stored_receipt_cells, count_in, AreCalendarRows, AreShortDayRows, AreCaseRows, ArePartyRows, AreEntryRows, AreDeadlineRows, AreActRows, AreReceiptRows, AreEndRows, AreLocalRuleRows}
use Rattle.docket_scan.specs.declared.receipt.StoredReceipt.{StoredReceipt}
use Rattle.docket_scan.proofs.DocketCells.{party_keys, deadline_keys, calendar_items, calendar_numbers, act_rows_alike}
use Rattle.docket_scan.proofs.DocketOrders.{IsOrderOf, typed, calendar_by_key, short_days_by_key, cases_by_key, parties_by_key, entries_by_key, deadlines_by_key, acts_by_key, receipts_by_key, ends_by_key, local_rules_by_key}
use Rattle.docket_scan.proofs.DocketReads.{AreSorted}
use Rattle.docket_scan.proofs.DocketReceipts.{as_stored, stored_fits}

-- rows in the order of the key are those of sound records, where all orders of the records are sound
sound_records : {R : Type 0} (t : Table) (Is : R → Type 0) (cells : R → Row) (order : R → R → Ordering) (AreSound : List R → Type 0) (all : List R) → IsOrderOf t cells order → AllByRecursion Is all
    → ((found : List R) → AreInOrder order all found → AreSound found) → (found : List Row) → AreSorted t (map cells all) found → IsTable Is cells AreSound found
sound_records t Is cells order AreSound all agrees each sound found is =
    let it = typed t cells order agrees all found is in
    record { records = it.0; are = record { held = all-permutation Is all it.0 it.2.same each; same = it.1 }; sound = sound it.0 it.2 }

module _ (court : CourtSettings) (h : History) (is : IsHistory court h) (commands : AllByRecursion IsCommand h) where
  pub calendar_sound : (found : List Row) → AreSorted table.Calendar (map calendar_cells (day_and_span_rows (standing_rows h))) found → AreCalendarRows court (next_row h) found
  calendar_sound =
      sound_records table.Calendar IsCalendarRow calendar_cells calendar_order _ (day_and_span_rows (standing_rows h)) calendar_by_key (calendar_held h (within_limits court h is).next_row commands) (sorted_calendar court h is)

  -- the short days, by the rows of the calendar as they were read
  pub short_days_sound : (days : List CalendarRow) → AreSorted table.Calendar (map calendar_cells (day_and_span_rows (standing_rows h))) (map calendar_cells days)
      → (found : List Row) → AreSorted table.ShortDays (map short_day_cells (short_day_rows (standing_rows h))) found → AreShortDayRows court (next_row h) (map (λ row. row.number) days) found
  short_days_sound days of_days =
      let d = typed table.Calendar calendar_cells calendar_order calendar_by_key (day_and_span_rows (standing_rows h)) (map calendar_cells days) of_days in
      sound_records table.ShortDays IsShortDayRow short_day_cells short_day_order (AreSoundShortDays court.close_minute (next_row h) (map (λ row. row.number) days)) (short_day_rows (standing_rows h)) short_days_by_key
      (short_days_held h (within_limits court h is).next_row commands)
      (λ found order. subst (λ (numbers : List ℕ). AreSoundShortDays court.close_minute (next_row h) numbers found) (sym (calendar_numbers days d.0 d.1)) (sorted_short_days court h is d.0 found d.2 order))

  pub cases_sound : (found : List Row) → AreSorted table.Cases (map case_cells (case_rows h)) found → AreCaseRows found
  cases_sound = sound_records table.Cases IsCaseRow case_cells case_order _ (case_rows h) cases_by_key (cases_held court h is commands) (sorted_cases court h is)

  pub parties_sound : (found : List Row) → AreSorted table.Parties (map party_cells (party_rows h)) found → ArePartyRows (length (case_rows h)) found
  parties_sound = sound_records table.Parties IsPartyRow party_cells party_order _ (party_rows h) parties_by_key (parties_held court h is commands) (sorted_parties court h is)

  pub entries_sound : (found : List Row) → AreSorted table.Entries (map entry_cells (entry_rows h)) found → AreEntryRows (length (case_rows h)) found
  entries_sound = sound_records table.Entries IsEntryRow entry_cells entry_order _ (entry_rows h) entries_by_key (entries_held court h is commands) (sorted_entries court h is)

  abbrev pub parties_by_case : ℕ → ℕ
  parties_by_case k = length (parties_of_case k (party_rows h))

  pub parties_counted : (rows : List PartyRow) → AreSorted table.Parties (map party_cells (party_rows h)) (map party_cells rows) → count_in (map party_key rows) ≡ parties_by_case
  parties_counted rows sorted =
      let it = typed table.Parties party_cells party_order parties_by_key (party_rows h) (map party_cells rows) sorted in
      λ i k. (ap (λ keys. count_in keys k) (party_keys rows it.0 it.1) ∙ party_counts court h is it.0 it.2 k) i

  pub local_rules_sound : (found : List Row) → AreSorted table.LocalRules (map local_rule_cells (local_rule_rows h)) found → AreLocalRuleRows found
  local_rules_sound = sound_records table.LocalRules IsLocalRuleRow local_rule_cells local_rule_order _ (local_rule_rows h) local_rules_by_key (local_rules_held court h is commands) (sorted_local_rules court h is)

  -- the deadlines, by the names of the local rules as they were read
  pub deadlines_sound : (rules : List LocalRuleRow) → AreInOrder local_rule_order (local_rule_rows h) rules → (found : List Row) → AreSorted table.Deadlines (map deadline_cells (deadline_rows h)) found
      → AreDeadlineRows (length (case_rows h)) parties_by_case (is_one_of (rule_names rules)) found
  deadlines_sound rules of_rules =
      sound_records table.Deadlines IsDeadlineRow deadline_cells deadline_order _ (deadline_rows h) deadlines_by_key (deadlines_held court h is commands) (λ rows order. sorted_deadlines court h is rules rows of_rules order)

  abbrev pub deadlines_by_case : ℕ → ℕ
  deadlines_by_case k = length (deadlines_of_case k (deadline_rows h))

  pub deadlines_counted : (rows : List DeadlineRow) → AreSorted table.Deadlines (map deadline_cells (deadline_rows h)) (map deadline_cells rows) → count_in (map deadline_key rows) ≡ deadlines_by_case
  deadlines_counted rows sorted =
      let it = typed table.Deadlines deadline_cells deadline_order deadlines_by_key (deadline_rows h) (map deadline_cells rows) sorted in
      λ i k. (ap (λ keys. count_in keys k) (deadline_keys rows it.0 it.1) ∙ deadline_counts court h is it.0 it.2 k) i

  pub acts_sound : (found : List Row) → AreSorted table.Acts (map act_cells (act_rows h)) found → AreActRows court (length (case_rows h)) deadlines_by_case found
  acts_sound = sound_records table.Acts IsActRow act_cells act_order _ (act_rows h) acts_by_key (acts_held court h is commands) (sorted_acts court h is)

  pub receipts_sound : (later : Bool) → AreOfKnownKinds later h → (found : List Row) → AreSorted table.Receipts (map receipt_cells (receipts court h)) found → AreReceiptRows later found
  receipts_sound later known found sorted =
      let it = typed table.Receipts receipt_cells receipt_order receipts_by_key (receipts court h) found sorted in
      let fit = all-permutation IsReceipt (receipts court h) it.0 it.2.same (receipts_held court h is commands) in
      record {
        records = map as_stored it.0;
        are = record {
          held = all-map IsStoredReceipt as_stored it.0 (all_weaker IsReceipt (λ r. IsStoredReceipt (as_stored r)) stored_fits it.0 fit);
          same = it.1 ∙ sym (map-map stored_receipt_cells as_stored it.0);
        };
        sound = subst (AreSoundReceipts later) (sym (map-map (λ (r : StoredReceipt). r.receipt) as_stored it.0)) (sorted_receipts court later h is commands known it.0 it.2);
      }

  module _ (days : List CalendarRow) (acts : List ActRow) (of_days : AreSorted table.Calendar (map calendar_cells (day_and_span_rows (standing_rows h))) (map calendar_cells days)) (of_acts : AreSorted table.Acts (map act_cells (act_rows h)) (map act_cells acts)) where
    ends_expected : (ends : List StoredEnd) → AreInOrder end_order (end_rows court (rows_of court h)) ends → ends ≡ dues_of (zone_of court) (calendar_of (items_of days)) acts
    ends_expected ends order =
        let d = typed table.Calendar calendar_cells calendar_order calendar_by_key (day_and_span_rows (standing_rows h)) (map calendar_cells days) of_days in
        let a = typed table.Acts act_cells act_order acts_by_key (act_rows h) (map act_cells acts) of_acts in
        ends_stored court h is d.0 a.0 d.2 a.2 ends order
        ∙ ap₂ (λ items rows. dues_of (zone_of court) (calendar_of items) rows) (sym (calendar_items days d.0 d.1)) (sym (act_rows_alike acts a.0 a.1))

    pub ends_sound : (found : List Row) → AreSorted table.Due (map end_cells (end_rows court (rows_of court h))) found → AreEndRows (dues_of (zone_of court) (calendar_of (items_of days)) acts) found
    ends_sound = sound_records table.Due IsEndRow end_cells end_order _ (end_rows court (rows_of court h)) ends_by_key (ends_held court h is commands) ends_expected
