-- The rows of a history in the order of their keys: its calendar, cases, parties, entries and deadlines.
use Rattle.std.proofs.Common.{◌≡◌, ◌∙◌, ℕ, suc, ◌<◌, ◌≤◌, ◌==◌, true, IsTrue, List, [], ◌∷◌, map, filter, length, sym, ap, subst, arith, Bool}
use Rattle.std.proofs.lemmas.Bool.Decides.{nat_tests}
use Rattle.std.proofs.lemmas.Cmp.{nat_cmp_total, on_total, tied_itself}
use Rattle.std.proofs.lemmas.List.{length-map}
use Rattle.std.proofs.lemmas.List.Elements.{filter_passes, recursion_from_All}
use Rattle.std.proofs.lemmas.List.Kept.{IsSortedBy-filter}
use Rattle.std.proofs.lemmas.List.Sorted.{ranks_by, IsPermutation-refl, IsPermutation-map}
use Rattle.std.specs.List.{AllByRecursion}
use Rattle.std.specs.Ordering.{nat_cmp, is_lt, on, ordering_then}
use Rattle.std.specs.declared.cmp.Ordering.TheVariants.{Less}
use Rattle.sqlite_keyed.proofs.SortLemmas.{sorted_unique}
use Rattle.sqlite_trees.proofs.ListLemmas.{all_weaker, all-permutation, all_from_map, IsPermutation-filter}
use Rattle.court_days.specs.Court.{CourtSettings}
use Rattle.docket_history.specs.Histories.{History, standing_rows, next_row, case_rows, party_rows, parties_of_case, entry_rows, deadline_rows, deadlines_of_case, local_rule_rows}
use Rattle.docket_decisions.specs.Outcomes.{IsHistory}
use Rattle.docket_history.specs.ShortDays.{day_and_span_rows, short_day_rows}
use Rattle.docket_history.specs.declared.row.CalendarRow.{CalendarRow}
use Rattle.docket_history.specs.declared.row.CaseRow.{CaseRow}
use Rattle.docket_history.specs.declared.row.DeadlineRow.{DeadlineRow}
use Rattle.docket_history.specs.declared.row.EntryRow.{EntryRow}
use Rattle.docket_history.specs.declared.row.LocalRuleRow.{LocalRuleRow}
use Rattle.docket_history.specs.declared.row.PartyRow.{PartyRow}
use Rattle.docket_history.specs.declared.row.ShortDayRow.{ShortDayRow}
use Rattle.docket_sound.specs.Calendars.{AreSoundCalendarRows}
use Rattle.docket_sound.specs.Cases.{AreSoundCases}
use Rattle.docket_sound.specs.Deadlines.{AreSoundDeadlines, deadline_key, has_party, is_sound_deadline}
use Rattle.docket_sound.specs.Entries.{AreSoundEntries, entry_key, is_sound_entry}
use Rattle.docket_sound.specs.KnownTexts.{is_one_of}
use Rattle.docket_sound.specs.LocalRules.{AreSoundLocalRules, rule_names}
use Rattle.docket_sound.specs.Numbers.{Rises, RunsFrom, IsOfCase, AreNumbered, numbers_in}
use Rattle.docket_sound.specs.Orders.{AreInOrder, key_order, calendar_order, short_day_order, local_rule_order, case_order, party_order, entry_order, deadline_order}
use Rattle.docket_sound.specs.Parties.{AreSoundParties, party_key, is_sound_party}
use Rattle.docket_sound.specs.ShortDays.{AreSoundShortDays}
use Rattle.docket_sound.specs.declared.numbering.Key.{Key}
use Rattle.docket_sound.proofs.HistoryCalendar.{sound_calendar}
use Rattle.docket_sound.proofs.HistoryDeadlines.{sound_deadlines}
use Rattle.docket_sound.proofs.HistoryLemmas.{sound_cases, sound_parties, sound_entries}
use Rattle.docket_sound.proofs.HistoryLocalRules.{sound_local_rules}
use Rattle.docket_sound.proofs.HistoryShortDays.{days_and_spans_sound, short_days_sound}
use Rattle.docket_sound.proofs.NumberLemmas.{numbers_are}
use Rattle.docket_sound.proofs.OrderLemmas.{Ascends, below, key_total, only_order}

-- numbers that run rise
runs_above : (m n : ℕ) (ns : List ℕ) → m < n → RunsFrom n ns → AllByRecursion (λ k. m < k) ns
runs_above m n [] lt runs = tt
runs_above m n (x ∷ ns) lt runs = (omega (arith, lt, runs.0), runs_above m (suc n) ns (omega (arith, lt)) runs.1)

pub runs_rise : (n : ℕ) (ns : List ℕ) → RunsFrom n ns → Rises ns
runs_rise n [] runs = tt
runs_rise n (x ∷ ns) runs = (runs_above x (suc n) ns (omega (arith, runs.0)) runs.1, runs_rise (suc n) ns runs.1)

-- rows whose numbers rise have one order
module _ {R : Type 0} (number : R → ℕ) where
  up_by : (rows : List R) → Rises (map number rows) → Ascends (on number nat_cmp) rows
  up_by [] rises = tt
  up_by (r ∷ rows) rises =
      (all_weaker (λ s. number r < number s) (λ s. on number nat_cmp r s ≡ Less) (λ s lt. below (number r) (number s) lt) rows (all_from_map (λ m. number r < m) number rows rises.0), up_by rows rises.1)

  pub as_listed : (all rows : List R) → Rises (map number all) → AreInOrder (on number nat_cmp) all rows → rows ≡ all
  as_listed all rows rises is = only_order (on number nat_cmp) (on_total number nat_cmp_total) all all rows (up_by all rises) (IsPermutation-refl all) is

less : (a b : Key) → a.case ≡ b.case → a.number < b.number → key_order a b ≡ Less
less a b same lt =
    ap (λ o. ordering_then o (nat_cmp a.number b.number)) (ap (nat_cmp a.case) (sym same) ∙ tied_itself nat_cmp_total a.case) ∙ below a.number b.number lt

-- rows that are numbered in their cases
module _ {R : Type 0} (key : R → Key) where
  abbrev of_case : ℕ → List R → List R
  of_case k rows = filter (λ r. (key r).case == k) rows

  abbrev AreOf : ℕ → List R → Type 0
  AreOf k rows = AllByRecursion (λ r. ((key r).case == k) ≡ true) rows

  same_case : (k : ℕ) (r s : R) → ((key r).case == k) ≡ true → ((key s).case == k) ≡ true → (key r).case ≡ (key s).case
  same_case k r s one other = grind (arith, nat_tests, one, other)

  before : (k n : ℕ) (r : R) (rows : List R) → ((key r).case == k) ≡ true → (key r).number < n → AreOf k rows → RunsFrom n (map (λ s. (key s).number) rows) → AllByRecursion (λ s. on key key_order r s ≡ Less) rows
  before k n r [] here lt of runs = tt
  before k n r (s ∷ rows) here lt of runs =
      (less (key r) (key s) (same_case k r s here of.0) (omega (arith, lt, runs.0)), before k (suc n) r rows here (omega (arith, lt)) of.1 runs.1)

  pub up_in : (k n : ℕ) (rows : List R) → AreOf k rows → RunsFrom n (map (λ s. (key s).number) rows) → Ascends (on key key_order) rows
  up_in k n [] of runs = tt
  up_in k n (r ∷ rows) of runs = (before k (suc n) r rows of.0 (omega (arith, runs.0)) of.1 runs.1, up_in k (suc n) rows of.1 runs.1)

  pub all_of_case : (k : ℕ) (rows : List R) → AreOf k (of_case k rows)
  all_of_case k rows = recursion_from_All (λ r. ((key r).case == k) ≡ true) (of_case k rows) (filter_passes (λ r. (key r).case == k) rows)

  pub up_case : (k : ℕ) (rows : List R) → RunsFrom 1 (numbers_in k (map key rows)) → Ascends (on key key_order) (of_case k rows)
  up_case k rows runs = up_in k 1 (of_case k rows) (all_of_case k rows) (subst (RunsFrom 1) (numbers_are key k rows) runs)

  module _ (cases most : ℕ) (all rows : List R) (numbered : AreNumbered cases most (map key all)) (is : AreInOrder (on key key_order) all rows) where
    -- in each case they are the same
    pub case_alike : (k : ℕ) → of_case k rows ≡ of_case k all
    case_alike k =
        let test : R → Bool = λ r. (key r).case == k in
        sorted_unique (on key key_order) (on_total key key_total) (of_case k all) (of_case k rows) (up_case k all (numbered.run k))
        (IsPermutation-filter test all rows is.same)
        (IsSortedBy-filter (λ r s. is_lt (on key key_order r s)) (ranks_by key_total key) test rows is.sorted)

    pub numbers_alike : (k : ℕ) → numbers_in k (map key all) ≡ numbers_in k (map key rows)
    numbers_alike k = numbers_are key k all ∙ ap (map (λ r. (key r).number)) (sym (case_alike k)) ∙ sym (numbers_are key k rows)

    pub still_numbered : AreNumbered cases most (map key rows)
    still_numbered = record {
      met = all-permutation (IsOfCase cases) (map key all) (map key rows) (IsPermutation-map key all rows is.same) numbered.met;
      run = λ k. subst (RunsFrom 1) (numbers_alike k) (numbered.run k);
      few = λ k. subst (λ ns. length ns ≤ most) (numbers_alike k) (numbered.few k);
    }

-- how many rows each case has
module _ {R : Type 0} (key : R → Key) (cases most : ℕ) (all rows : List R) (numbered : AreNumbered cases most (map key all)) (is : AreInOrder (on key key_order) all rows) where
  pub count_alike : (k : ℕ) → length (numbers_in k (map key rows)) ≡ length (of_case key k all)
  count_alike k = ap length (sym (numbers_alike key cases most all rows numbered is k) ∙ numbers_are key k all) ∙ length-map (of_case key k all) (λ r. (key r).number)

-- the tables
module _ (court : CourtSettings) (h : History) (is : IsHistory court h) where
  days_sound : AreSoundCalendarRows court (next_row h) (day_and_span_rows (standing_rows h))
  days_sound = days_and_spans_sound court (next_row h) (standing_rows h) (sound_calendar court h is)

  pub days_listed : (rows : List CalendarRow) → AreInOrder calendar_order (day_and_span_rows (standing_rows h)) rows → rows ≡ day_and_span_rows (standing_rows h)
  days_listed rows order = as_listed (λ (row : CalendarRow). row.number) (day_and_span_rows (standing_rows h)) rows days_sound.rising order

  pub sorted_calendar : (rows : List CalendarRow) → AreInOrder calendar_order (day_and_span_rows (standing_rows h)) rows → AreSoundCalendarRows court (next_row h) rows
  sorted_calendar rows order = subst (AreSoundCalendarRows court (next_row h)) (sym (days_listed rows order)) days_sound

  abbrev AreShort : List CalendarRow → List ShortDayRow → Type 0
  AreShort days rows = AreSoundShortDays court.close_minute (next_row h) (map (λ row. row.number) days) rows

  shorts_sound : AreShort (day_and_span_rows (standing_rows h)) (short_day_rows (standing_rows h))
  shorts_sound = short_days_sound court (next_row h) (standing_rows h) (sound_calendar court h is)

  pub shorts_listed : (rows : List ShortDayRow) → AreInOrder short_day_order (short_day_rows (standing_rows h)) rows → rows ≡ short_day_rows (standing_rows h)
  shorts_listed rows order = as_listed (λ (row : ShortDayRow). row.number) (short_day_rows (standing_rows h)) rows shorts_sound.rising order

  pub sorted_short_days : (days : List CalendarRow) (rows : List ShortDayRow) → AreInOrder calendar_order (day_and_span_rows (standing_rows h)) days
      → AreInOrder short_day_order (short_day_rows (standing_rows h)) rows → AreShort days rows
  sorted_short_days days rows of_days order =
      subst (λ l. AreShort l rows) (sym (days_listed days of_days)) (subst (AreShort (day_and_span_rows (standing_rows h))) (sym (shorts_listed rows order)) shorts_sound)

  pub sorted_cases : (rows : List CaseRow) → AreInOrder case_order (case_rows h) rows → AreSoundCases rows
  sorted_cases rows order =
      let sound = sound_cases court h is in
      subst AreSoundCases (sym (as_listed (λ (row : CaseRow). row.number) (case_rows h) rows (runs_rise 1 (map (λ (row : CaseRow). row.number) (case_rows h)) sound.numbered) order)) sound

  pub sorted_parties : (rows : List PartyRow) → AreInOrder party_order (party_rows h) rows → AreSoundParties (length (case_rows h)) rows
  sorted_parties rows order =
      let sound = sound_parties court h is in
      record {
        numbered = still_numbered party_key (length (case_rows h)) 1000 (party_rows h) rows sound.numbered order;
        within = all-permutation (λ row. IsTrue (is_sound_party row)) (party_rows h) rows order.same sound.within;
      }

  pub party_counts : (rows : List PartyRow) → AreInOrder party_order (party_rows h) rows → (k : ℕ) → length (numbers_in k (map party_key rows)) ≡ length (parties_of_case k (party_rows h))
  party_counts rows order = count_alike party_key (length (case_rows h)) 1000 (party_rows h) rows (sound_parties court h is).numbered order

  pub sorted_entries : (rows : List EntryRow) → AreInOrder entry_order (entry_rows h) rows → AreSoundEntries (length (case_rows h)) rows
  sorted_entries rows order =
      let sound = sound_entries court h is in
      record {
        numbered = still_numbered entry_key (length (case_rows h)) 10_000 (entry_rows h) rows sound.numbered order;
        within = all-permutation (λ row. IsTrue (is_sound_entry row)) (entry_rows h) rows order.same sound.within;
      }

  abbrev parties : ℕ → ℕ
  parties k = length (parties_of_case k (party_rows h))

  -- rules in the order of their numbers are the rows themselves
  pub rules_listed : (rules : List LocalRuleRow) → AreInOrder local_rule_order (local_rule_rows h) rules → rules ≡ local_rule_rows h
  rules_listed rules order =
      as_listed (λ (row : LocalRuleRow). row.number) (local_rule_rows h) rules (runs_rise 1 (map (λ (row : LocalRuleRow). row.number) (local_rule_rows h)) (sound_local_rules court h is).numbered) order

  pub sorted_local_rules : (rules : List LocalRuleRow) → AreInOrder local_rule_order (local_rule_rows h) rules → AreSoundLocalRules rules
  sorted_local_rules rules order = subst AreSoundLocalRules (sym (rules_listed rules order)) (sound_local_rules court h is)

  pub sorted_deadlines : (rules : List LocalRuleRow) (rows : List DeadlineRow) → AreInOrder local_rule_order (local_rule_rows h) rules → AreInOrder deadline_order (deadline_rows h) rows
      → AreSoundDeadlines (length (case_rows h)) parties (is_one_of (rule_names rules)) rows
  sorted_deadlines rules rows of_rules order =
      let sound = sound_deadlines court h is in
      let stands : List ℕ → Bool = is_one_of (rule_names (local_rule_rows h)) in
      subst (λ listed. AreSoundDeadlines (length (case_rows h)) parties (is_one_of (rule_names listed)) rows) (sym (rules_listed rules of_rules)) (record {
        numbered = still_numbered deadline_key (length (case_rows h)) 1000 (deadline_rows h) rows sound.numbered order;
        met = all-permutation (λ row. IsTrue (has_party parties row)) (deadline_rows h) rows order.same sound.met;
        within = all-permutation (λ row. IsTrue (is_sound_deadline stands row)) (deadline_rows h) rows order.same sound.within;
      })

  pub deadline_counts : (rows : List DeadlineRow) → AreInOrder deadline_order (deadline_rows h) rows → (k : ℕ) → length (numbers_in k (map deadline_key rows)) ≡ length (deadlines_of_case k (deadline_rows h))
  deadline_counts rows order = count_alike deadline_key (length (case_rows h)) 1000 (deadline_rows h) rows (sound_deadlines court h is).numbered order
