-- What is counted of a docket's own tables is what its history has.
use Rattle.std.proofs.Common.{◌≡◌, ◌∙◌, suc, Bool, List, [], ◌∷◌, ◌++◌, map, length, refl, ap, ap₂, length-append, arith}
use Rattle.std.proofs.lemmas.List.Sorted.{sum_by-IsPermutation, IsPermutation-map}
use Rattle.std.specs.List.{count_by}
use Rattle.sqlite_trees.proofs.ListLemmas.{map-map}
use Rattle.court_days.specs.Court.{CourtSettings, zone_of}
use Rattle.court_rules.specs.Standings.{standing}
use Rattle.court_rules.specs.declared.act.Standing.{Standing}
use Rattle.docket_history.specs.CalendarItems.{calendar_of}
use Rattle.docket_history.specs.Histories.{History, items_of, standing_rows, deadline_rows, act_rows, acts_of_deadline}
use Rattle.docket_decisions.specs.Outcomes.{IsHistory, receipts}
use Rattle.docket_history.specs.ShortDays.{day_and_span_rows}
use Rattle.docket_history.specs.declared.row.ActRow.{ActRow}
use Rattle.docket_history.specs.declared.row.CalendarRow.{CalendarRow}
use Rattle.docket_history.specs.declared.row.DeadlineRow.{DeadlineRow}
use Rattle.docket_columns.specs.Cells.{calendar_cells, act_cells}
use Rattle.docket_sound.specs.Orders.{AreInOrder, calendar_order, act_order}
use Rattle.docket_sound.specs.Standings.{standing_of_run, standings_of}
use Rattle.docket_sound.proofs.HistoryShortDays.{standings_same}
use Rattle.docket_sound.proofs.SortedActs.{run_at, listed, same_deadlines, runs_are}
use Rattle.docket_sound.proofs.SortedRows.{days_listed}
use Rattle.docket_tables.specs.declared.table.Table.TheVariants as table
use Rattle.docket_scan.specs.Dockets.{standings_in}
use Rattle.docket_scan.proofs.DocketCells.{calendar_items, act_rows_alike}
use Rattle.docket_scan.proofs.DocketOrders.{typed, calendar_by_key, acts_by_key}
use Rattle.docket_scan.proofs.DocketReads.{AreSorted}

one_more : {X : Type 0} (xs : List X) (x : X) → length (xs ++ x ∷ []) ≡ suc (length xs)
one_more xs x = omega (arith, length-append xs (x ∷ []))

pub receipts_counted : (court : CourtSettings) (h : History) → length (receipts court h) ≡ length h
receipts_counted court [] = refl
receipts_counted court (c ∷ h) = one_more (receipts court h) _ ∙ ap suc (receipts_counted court h)

module _ (court : CourtSettings) (h : History) (is : IsHistory court h) where
  -- in the order of the acts, the deadlines stand where those of the history do
  in_order : (days : List CalendarRow) (acts : List ActRow) → AreInOrder calendar_order (day_and_span_rows (standing_rows h)) days → AreInOrder act_order (act_rows h) acts
      → standings_of (zone_of court) (calendar_of (items_of days)) acts ≡ map (λ d. standing (zone_of court) (calendar_of (items_of (standing_rows h))) (acts_of_deadline d.case d.number (act_rows h))) (listed court h is)
  in_order days acts of_days of_acts =
      let entered = calendar_of (items_of (standing_rows h)) in
      ap (λ rows. standings_of (zone_of court) (calendar_of (items_of rows)) acts) (days_listed court h is days of_days)
      ∙ standings_same (zone_of court) (standing_rows h) acts
      ∙ ap (map (standing_of_run (zone_of court) entered)) (runs_are court h is acts of_acts)
      ∙ map-map (standing_of_run (zone_of court) entered) (run_at (act_rows h)) (listed court h is)

  pub standings_counted : (test : Standing → Bool) (days : List CalendarRow) (acts : List ActRow)
      → AreSorted table.Calendar (map calendar_cells (day_and_span_rows (standing_rows h))) (map calendar_cells days) → AreSorted table.Acts (map act_cells (act_rows h)) (map act_cells acts)
      → count_by test (standings_of (zone_of court) (calendar_of (items_of days)) acts) ≡ count_by test (standings_in court h)
  standings_counted test days acts of_days of_acts =
      let d = typed table.Calendar calendar_cells calendar_order calendar_by_key (day_and_span_rows (standing_rows h)) (map calendar_cells days) of_days in
      let a = typed table.Acts act_cells act_order acts_by_key (act_rows h) (map act_cells acts) of_acts in
      let stands : DeadlineRow → Standing = λ d. standing (zone_of court) (calendar_of (items_of (standing_rows h))) (acts_of_deadline d.case d.number (act_rows h)) in
      ap₂ (λ items rows. count_by test (standings_of (zone_of court) (calendar_of items) rows)) (calendar_items days d.0 d.1) (act_rows_alike acts a.0 a.1)
      ∙ ap (count_by test) (in_order d.0 a.0 d.2 a.2)
      ∙ sum_by-IsPermutation _ _ _ (IsPermutation-map stands (deadline_rows h) (listed court h is) (same_deadlines court h is))
