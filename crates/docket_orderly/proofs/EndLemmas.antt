-- The ends of a docket's deadlines are days and instants, and their rows hold what their type holds.
use Rattle.std.proofs.Common.{◌≡◌, ℕ, suc, ◌+◌, ◌≤◌, ◌==◌, Bool, true, false, cond, List, [], ◌∷◌, map, length, refl, arith}
use Rattle.std.specs.List.{AllByRecursion, flat_map}
use Rattle.std.proofs.lemmas.Bool.Decides.{nat_tests}
use Rattle.std.proofs.lemmas.List.Elements.{recursion_from_All}
use Rattle.court_days.specs.Calendar.{IsWithinLimits}
use Rattle.court_days.specs.Court.{CourtSettings, zone_of}
use Rattle.court_days.specs.declared.filing.End.{End}
use Rattle.court_days.proofs.CourtLemmas.{zone_of-is_zone}
use Rattle.court_rules.specs.Standings.{standing}
use Rattle.court_rules.specs.declared.act.Standing.{Standing}
use Rattle.court_rules.specs.declared.act.Standing.TheVariants.{Running, Suspended, Awaiting, Done, Vacated}
use Rattle.docket_history.specs.CalendarItems.{IsEnteredItem}
use Rattle.docket_history.specs.Histories.{History, items_of, standing_rows, deadline_rows, deadlines_of_case, act_rows, acts_of_deadline}
use Rattle.docket_history.specs.declared.row.DeadlineRow.{DeadlineRow}
use Rattle.docket_decisions.specs.EndRows.{IsDueEnd, calendar_in, end_row, end_rows, end_running, row_of_deadline}
use Rattle.docket_decisions.specs.Outcomes.{IsHistory}
use Rattle.docket_decisions.specs.Tables.{rows_of}
use Rattle.docket_decisions.proofs.EndBounds.{calendar_within, ends_are_due}
use Rattle.docket_decisions.proofs.LimitsKept.{within_limits}
use Rattle.docket_decisions.proofs.ListLemmas.{all_both}
use Rattle.docket_wire.specs.Valid.{IsCommand}
use Rattle.docket_columns.specs.Fits.{IsDeadlineRow, IsEndRow}
use Rattle.docket_columns.proofs.EndLemmas.{end_time_fits}
use Rattle.docket_orderly.specs.Orderly.{RunsFrom}
use Rattle.docket_orderly.proofs.ListLemmas.{all_by}
use Rattle.docket_orderly.proofs.RowLemmas.{deadlines_held, deadlines_run}

abbrev numbers : List DeadlineRow → List ℕ
numbers ds = map (λ (d : DeadlineRow). d.number) ds

-- what holds of the deadlines of each case holds of all
pub of_each : (P : ℕ → DeadlineRow → Type 0) (ds : List DeadlineRow) → ((k : ℕ) → AllByRecursion (P k) (deadlines_of_case k ds)) → AllByRecursion (λ d. P d.case d) ds
of_each P [] all = tt
of_each P (d ∷ ds) all = (first (d.case == d.case) (grind (arith, nat_tests)) (all d.case), of_each P ds (λ k. rest k (d.case == k) (all k)))
  where
    first : (b : Bool) → b ≡ true → AllByRecursion (P d.case) (cond b (d ∷ deadlines_of_case d.case ds) (deadlines_of_case d.case ds)) → P d.case d
    first true e h = h.0
    first false e h = absurd (let no = e in cc)

    rest : (k : ℕ) (b : Bool) → AllByRecursion (P k) (cond b (d ∷ deadlines_of_case k ds) (deadlines_of_case k ds)) → AllByRecursion (P k) (deadlines_of_case k ds)
    rest k true h = h.1
    rest k false h = h

abbrev IsAmong : ℕ → DeadlineRow → Type 0
IsAmong count d = (1 ≤ d.number) × (d.number ≤ count)

numbered_within : (n count : ℕ) (ds : List DeadlineRow) → 1 ≤ n → n + length ds ≤ count + 1 → RunsFrom n (numbers ds) → AllByRecursion (IsAmong count) ds
numbered_within n count [] low high runs = tt
numbered_within n count (d ∷ ds) low high runs =
    ((omega (arith, low, runs.0), omega (arith, high, runs.0)), numbered_within (suc n) count ds (omega (arith, low)) (omega (arith, high)) runs.1)

module _ (court : CourtSettings) (h : History) (is : IsHistory court h) where
  abbrev ds : List DeadlineRow
  ds = deadline_rows h

  -- where a deadline stands by the calendar and its acts
  abbrev stands : DeadlineRow → Standing
  stands d = standing (zone_of court) (calendar_in (rows_of court h)) (acts_of_deadline d.case d.number (act_rows h))

  among : AllByRecursion (λ (d : DeadlineRow). IsAmong (length (deadlines_of_case d.case ds)) d) ds
  among =
      of_each (λ k d. IsAmong (length (deadlines_of_case k ds)) d) ds
      (λ k. numbered_within 1 (length (deadlines_of_case k ds)) (deadlines_of_case k ds) (omega arith) (omega arith) (deadlines_run h k))

  limits : IsWithinLimits (calendar_in (rows_of court h))
  limits = calendar_within (items_of (standing_rows h)) (recursion_from_All IsEnteredItem (items_of (standing_rows h)) (within_limits court h is).items)

  -- where the time of a deadline runs, it ends with a day of the calendar or at an instant near such days
  abbrev pub HasEnd : DeadlineRow → Type 0
  HasEnd d = (end : End) → stands d ≡ Running end → IsDueEnd end

  pub ends_due : AllByRecursion HasEnd ds
  ends_due =
      all_by (λ (d : DeadlineRow). IsAmong (length (deadlines_of_case d.case ds)) d) HasEnd
      (λ d place end runs.
      ends_are_due (calendar_in (rows_of court h)) limits (zone_of court) (zone_of-is_zone court) (acts_of_deadline d.case d.number (act_rows h)) end ((within_limits court h is).acts d.case d.number place.0 place.1) runs) ds among

  row_held : (d : DeadlineRow) (s : Standing) → ((end : End) → s ≡ Running end → IsDueEnd end) → IsDeadlineRow d → AllByRecursion IsEndRow (end_row d.case d.number (end_running (zone_of court) s))
  row_held d (Running end) due fits = ((fits.0, fits.1, end_time_fits (zone_of court) end (zone_of-is_zone court) (due end refl)), tt)
  row_held d Suspended due fits = tt
  row_held d Awaiting due fits = tt
  row_held d Done due fits = tt
  row_held d Vacated due fits = tt

  rows_held : (rows : List DeadlineRow) → AllByRecursion HasEnd rows → AllByRecursion IsDeadlineRow rows → AllByRecursion IsEndRow (flat_map (row_of_deadline (zone_of court) (calendar_in (rows_of court h)) (act_rows h)) rows)
  rows_held [] due fits = tt
  rows_held (d ∷ rows) due fits = all_both IsEndRow _ _ (row_held d (stands d) due.0 fits.0) (rows_held rows due.1 fits.1)

  pub ends_held : AllByRecursion IsCommand h → AllByRecursion IsEndRow (end_rows court (rows_of court h))
  unfolding end_rows
  ends_held all = rows_held ds ends_due (deadlines_held court h is all)
