-- The ends of a history in the order of their keys, and as they are expected of its acts.
use Rattle.std.proofs.Common.{◌≡◌, ◌∙◌, ℕ, List, [], ◌∷◌, ◌++◌, map, flat_map, Option, Some, None, refl, sym, ap, ap₂, subst}
use Rattle.std.proofs.lemmas.Cmp.{on_total}
use Rattle.std.specs.Cmp.{IsTotalOrder}
use Rattle.std.specs.List.{AllByRecursion}
use Rattle.std.specs.declared.cmp.Ordering.TheVariants.{Less}
use Rattle.std.specs.Prelude.{IsPermutation}
use Rattle.sqlite_trees.proofs.ListLemmas.{all_of, all_weaker, IsPermutation-flat_map}
use Rattle.civil_time.specs.Zone.{ZoneRules}
use Rattle.court_days.specs.Calendar.{Entered}
use Rattle.court_days.specs.Court.{CourtSettings, zone_of}
use Rattle.docket_history.specs.CalendarItems.{calendar_of}
use Rattle.docket_decisions.specs.EndRows.{end_row, row_of_deadline, end_rows}
use Rattle.docket_history.specs.Histories.{History, items_of, standing_rows, deadline_rows, act_rows}
use Rattle.docket_decisions.specs.Outcomes.{IsHistory}
use Rattle.docket_history.specs.ShortDays.{day_and_span_rows}
use Rattle.docket_decisions.specs.Tables.{rows_of}
use Rattle.docket_decisions.specs.declared.end_row.StoredEnd.{StoredEnd}
use Rattle.docket_decisions.specs.declared.end_row.EndTime.{EndTime}
use Rattle.docket_history.specs.declared.row.ActRow.{ActRow}
use Rattle.docket_history.specs.declared.row.CalendarRow.{CalendarRow}
use Rattle.docket_history.specs.declared.row.DeadlineRow.{DeadlineRow}
use Rattle.docket_sound.specs.Deadlines.{deadline_key}
use Rattle.docket_sound.specs.Dues.{dues_of_runs, dues_of}
use Rattle.docket_sound.specs.Orders.{AreInOrder, key_order, calendar_order, act_order, deadline_order, end_key, end_order}
use Rattle.docket_sound.proofs.HistoryShortDays.{dues_alike}
use Rattle.docket_sound.proofs.OrderLemmas.{Ascends, key_total, sorted_up, only_order, ascends_by}
use Rattle.docket_sound.proofs.SortedActs.{run_at, listed, same_deadlines, deadlines_up, runs_are}
use Rattle.docket_sound.proofs.SortedRows.{days_listed}

end_total : IsTotalOrder end_order
end_total = on_total end_key key_total

-- a deadline has one row at most, under its own key
end_keys : (k n : ℕ) (o : Option EndTime) → AllByRecursion (λ row. end_key row ≡ record { case = k; number = n }) (end_row k n o)
end_keys k n None = tt
end_keys k n (Some end) = (refl, tt)

end_alone : (k n : ℕ) (o : Option EndTime) → Ascends end_order (end_row k n o)
end_alone k n None = tt
end_alone k n (Some end) = (tt, tt)

module _ (zone : ZoneRules) (entered : Entered) (acts : List ActRow) where
  abbrev ends_at : DeadlineRow → List StoredEnd
  ends_at d = row_of_deadline zone entered acts d

  dues_by : (ds : List DeadlineRow) → dues_of_runs zone entered (map (run_at acts) ds) ≡ flat_map ends_at ds
  dues_by [] = refl
  dues_by (d ∷ ds) = ap (λ rows. ends_at d ++ rows) (dues_by ds)

  across_ends : (d e : DeadlineRow) → deadline_order d e ≡ Less → AllByRecursion (λ r. AllByRecursion (λ s. end_order r s ≡ Less) (ends_at e)) (ends_at d)
  across_ends d e lt =
      all_weaker (λ r. end_key r ≡ deadline_key d) (λ r. AllByRecursion (λ s. end_order r s ≡ Less) (ends_at e))
      (λ r one. all_weaker (λ s. end_key s ≡ deadline_key e) (λ s. end_order r s ≡ Less) (λ s other. ap₂ key_order one other ∙ lt) (ends_at e) (end_keys e.case e.number _))
      (ends_at d) (end_keys d.case d.number _)

  ends_up : (ds : List DeadlineRow) → Ascends deadline_order ds → Ascends end_order (flat_map ends_at ds)
  ends_up ds up =
      ascends_by (λ d e. deadline_order d e ≡ Less) (λ r s. end_order r s ≡ Less) ends_at across_ends ds up
      (all_of (λ d. Ascends end_order (ends_at d)) (λ d. end_alone d.case d.number _) ds)

module _ (court : CourtSettings) (h : History) (is : IsHistory court h) (days : List CalendarRow) (acts : List ActRow) (of_calendar : AreInOrder calendar_order (day_and_span_rows (standing_rows h)) days) (of_acts : AreInOrder act_order (act_rows h) acts) where
  abbrev entered : Entered
  entered = calendar_of (items_of (standing_rows h))

  abbrev by_deadline : List StoredEnd
  by_deadline = flat_map (ends_at (zone_of court) entered (act_rows h)) (listed court h is)

  expected : dues_of (zone_of court) (calendar_of (items_of days)) acts ≡ by_deadline
  expected =
      ap (λ rows. dues_of (zone_of court) (calendar_of (items_of rows)) acts) (days_listed court h is days of_calendar)
      ∙ dues_alike (zone_of court) (standing_rows h) acts
      ∙ ap (dues_of_runs (zone_of court) entered) (runs_are court h is acts of_acts)
      ∙ dues_by (zone_of court) entered (act_rows h) (listed court h is)

  same_ends : IsPermutation (end_rows court (rows_of court h)) by_deadline
  unfolding end_rows
  same_ends = IsPermutation-flat_map (ends_at (zone_of court) entered (act_rows h)) (deadline_rows h) (listed court h is) (same_deadlines court h is)

  up : Ascends end_order by_deadline
  up = ends_up (zone_of court) entered (act_rows h) (listed court h is) (deadlines_up court h is)

  pub ends_expected : AreInOrder end_order (end_rows court (rows_of court h)) (dues_of (zone_of court) (calendar_of (items_of days)) acts)
  ends_expected = subst (AreInOrder end_order (end_rows court (rows_of court h))) (sym expected) (record { same = same_ends; sorted = sorted_up end_order end_total by_deadline up })

  pub ends_stored : (ends : List StoredEnd) → AreInOrder end_order (end_rows court (rows_of court h)) ends → ends ≡ dues_of (zone_of court) (calendar_of (items_of days)) acts
  ends_stored ends order = only_order end_order end_total (end_rows court (rows_of court h)) by_deadline ends up same_ends order ∙ sym expected
