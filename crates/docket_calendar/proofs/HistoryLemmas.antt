-- The deadlines of a history whose times run, as they can be listed.
use Rattle.std.proofs.Common.{◌≡◌, ℕ, ◌<◌, List, length, All, refl, arith}
use Rattle.std.specs.List.{AllByRecursion}
use Rattle.std.proofs.lemmas.List.Elements.{All-from_recursion}
use Rattle.std.proofs.lemmas.List.Sorted.{All-permutation, IsPermutation-sym}
use Rattle.sqlite_keyed.proofs.SortLemmas.{IsPermutation-sort_by}
use Rattle.sqlite_trees.proofs.ListLemmas.{all-filter, all-flat_map}
use Rattle.court_days.specs.Court.{CourtSettings, zone_of}
use Rattle.court_days.specs.declared.filing.End.{End}
use Rattle.court_rules.specs.Standings.{standing}
use Rattle.court_rules.specs.declared.act.Standing.{Standing}
use Rattle.court_rules.specs.declared.act.Standing.TheVariants.{Running, Suspended, Awaiting, Done, Vacated}
use Rattle.docket_decisions.specs.EndRows.{IsDueEnd, calendar_in}
use Rattle.docket_history.specs.Histories.{History, case_rows, acts_of_deadline}
use Rattle.docket_decisions.specs.Outcomes.{IsHistory}
use Rattle.docket_decisions.specs.Tables.{Tables, rows_of}
use Rattle.docket_history.specs.declared.record.DueRow.{DueRow}
use Rattle.docket_history.specs.declared.row.DeadlineRow.{DeadlineRow}
use Rattle.docket_decisions.proofs.LimitsKept.{within_limits}
use Rattle.docket_columns.specs.Fits.{IsDeadlineRow}
use Rattle.docket_columns.proofs.RuleLemmas.{name_utf8}
use Rattle.docket_text.specs.CalendarOrder.{calendar_cmp, IsCalendar}
use Rattle.docket_text.proofs.OrderLemmas.{calendar_cmp_total}
use Rattle.docket_wire.specs.Valid.{IsCommand}
use Rattle.docket_tables.specs.Orderly.{IsCourtSettings}
use Rattle.docket_tables.proofs.Orderly.DeadlineLemmas.{no_deadlines}
use Rattle.docket_tables.proofs.Orderly.DocketLemmas.{orderly}
use Rattle.docket_tables.proofs.Orderly.EndLemmas.{ends_due}
use Rattle.docket_calendar.specs.Calendar.{row_where, due_of, running, due_within, calendar_rows}
use Rattle.docket_calendar.specs.DueCells.{IsDue}
use Rattle.docket_calendar.proofs.DueLemmas.{HaveEnds, all_two, few_listed}
use Rattle.docket_calendar.proofs.KeyLemmas.{Apart, apart, few_of_cases}
use Rattle.docket_calendar.proofs.Sorting.{sorted-sort_by}

-- the deadlines of the tables can be listed
pub record IsListable (court : CourtSettings) (t : Tables) : Type 0 where
  pub apart : Apart t.deadlines
  pub ends : HaveEnds court (calendar_in t) t.acts t.deadlines
  pub fit : AllByRecursion IsDeadlineRow t.deadlines
  pub few : length t.deadlines < 4_294_967_295

pub listable : (court : CourtSettings) (h : History) → IsCourtSettings court → IsHistory court h → AllByRecursion IsCommand h → IsListable court (rows_of court h)
listable court h settings is all =
    let t = rows_of court h in
    let ds = t.deadlines in
    let held = orderly court h settings is all in
    let within = within_limits court h is in
    let count = few_of_cases (length (case_rows h)) ds within.deadlines (no_deadlines court h is) in
    record {
      apart = apart ds held.deadlines_run;
      ends = ends_due court h is;
      fit = held.deadlines;
      few = omega (arith, count, within.cases);
    }

module _ (court : CourtSettings) (from to : ℕ) (t : Tables) (can : IsListable court t) where
  one_due : (d : DeadlineRow) (s : Standing) → ((end : End) → s ≡ Running end → IsDueEnd end) → IsDeadlineRow d → AllByRecursion (IsDue court (calendar_in t)) (row_where court (calendar_in t) d s)
  one_due d (Running end) due fit = ((due end refl, fit.0, fit.1, fit.2, name_utf8 d.rule fit.3, refl), tt)
  one_due d Suspended due fit = tt
  one_due d Awaiting due fit = tt
  one_due d Done due fit = tt
  one_due d Vacated due fit = tt

  all_due : AllByRecursion (IsDue court (calendar_in t)) (due_within court from to t)
  all_due =
      all-filter _ _ (running court t) (all-flat_map (IsDue court (calendar_in t)) (due_of court (calendar_in t) t.acts) t.deadlines
      (all_two _ _ (λ d. AllByRecursion (IsDue court (calendar_in t)) (due_of court (calendar_in t) t.acts d)) t.deadlines (λ d due fit. one_due d (standing (zone_of court) (calendar_in t) (acts_of_deadline d.case d.number t.acts)) due fit) can.ends can.fit))

  pub listed_due : (listed : List DueRow) → IsCalendar court (due_within court from to t) listed → All (IsDue court (calendar_in t)) listed
  listed_due listed calendar = All-permutation (IsDue court (calendar_in t)) (due_within court from to t) listed calendar.same (All-from_recursion (IsDue court (calendar_in t)) _ all_due)

  pub listed_few : (listed : List DueRow) → IsCalendar court (due_within court from to t) listed → length listed < 4_294_967_295
  listed_few listed calendar = omega (arith, few_listed court from to t listed calendar, can.few)

-- the calendar that is written is one of these rows
pub is_calendar : (court : CourtSettings) (h : History) (from to : ℕ) → IsCalendar court (due_within court from to (rows_of court h)) (calendar_rows court h from to)
is_calendar court h from to = record {
  same = IsPermutation-sym _ _ (IsPermutation-sort_by (calendar_cmp court) (calendar_cmp_total court) (due_within court from to (rows_of court h)));
  ordered = sorted-sort_by (calendar_cmp court) (calendar_cmp_total court) (due_within court from to (rows_of court h));
}
