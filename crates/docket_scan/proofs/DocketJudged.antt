-- A docket's own tables are never reported unsound.
use Rattle.std.proofs.Common.{◌≡◌, ◌∙◌, inl, inr, ℕ, Bool, List, [], ◌∷◌, ◌++◌, ◌+◌, map, length, Result, Ok, Err, refl, sym, ap, ap₂, subst, arith}
use base.Stored.{Coded-set}
use Rattle.std.proofs.Math.Logic.{∥∥₁_elim}
use Rattle.std.proofs.lemmas.Bool.{false≢true}
use Rattle.std.proofs.lemmas.List.{length-map}
use Rattle.std.proofs.lemmas.List.Sorted.{length_permutation, IsPermutation-refl}
use Rattle.std.specs.Coded.{coded_ℕ}
use Rattle.std.specs.List.{AllByRecursion, count_by}
use Rattle.sqlite.specs.Held.{Held, state}
use Rattle.sqlite.specs.Order.{Row}
use Rattle.sqlite.specs.State.{State, HasCleanDisk}
use Rattle.sqlite.specs.Store.{Ghosts}
use Rattle.court_days.specs.Court.{CourtSettings, zone_of}
use Rattle.court_rules.specs.declared.act.Standing.{Standing}
use Rattle.docket_history.specs.CalendarItems.{calendar_of}
use Rattle.docket_history.specs.Histories.{History, items_of, next_row, standing_rows, case_rows, party_rows, entry_rows, deadline_rows, local_rule_rows}
use Rattle.docket_decisions.specs.Outcomes.{IsHistory, receipts}
use Rattle.docket_history.specs.ShortDays.{day_and_span_rows, short_day_rows}
use Rattle.docket_decisions.specs.Tables.{rows_of}
use Rattle.docket_decisions.proofs.ListLemmas.{all_front}
use Rattle.docket_decisions.specs.Refusals.{is_running, is_suspended, is_awaiting}
use Rattle.docket_history.specs.declared.row.LocalRuleRow.{LocalRuleRow}
use Rattle.docket_columns.specs.Cells.{court_cells_of, calendar_cells, short_day_cells, case_cells, party_cells, entry_cells, deadline_cells, act_cells, receipt_cells, local_rule_cells}
use Rattle.docket_columns.specs.declared.version.Version.{Version}
use Rattle.docket_columns.specs.declared.version.Version.TheVariants.{First, Second}
use Rattle.docket_sound.specs.KnownTexts.{is_one_of}
use Rattle.docket_sound.specs.LocalRules.{rule_names}
use Rattle.docket_sound.specs.Orders.{AreInOrder, local_rule_order}
use Rattle.docket_sound.specs.Receipts.{AreOfKnownKinds}
use Rattle.docket_sound.specs.Standings.{standings_of, is_done, is_vacated}
use Rattle.docket_sound.proofs.HistoryReceipts.{all_kinds_known}
use Rattle.docket_sound.proofs.HistoryShortDays.{in_two_tables}
use Rattle.docket_sound.proofs.SortedRows.{sorted_local_rules}
use Rattle.docket_wire.specs.Valid.{IsCommand}
use Rattle.docket_tables.specs.Contents.{rows_by, rows_in}
use Rattle.docket_tables.specs.Layouts.{Rows as Stored}
use Rattle.docket_tables.specs.Stands.{ShowsIn, HoldsRowsIn}
use Rattle.docket_tables.specs.Tables.{IsTableOf}
use Rattle.docket_tables.specs.declared.table.Table.{Table}
use Rattle.docket_tables.specs.declared.table.Table.TheVariants as table
use Rattle.docket_scan.specs.Dockets.{IsToldOfDocket, MayHold, holdings_in, standings_in}
use Rattle.docket_scan.specs.Holdings.{holdings_of}
use Rattle.docket_scan.specs.Judging.{AreRowsFor, IsBehindCourt, IsUnsoundIn, AreSoundBy, Holds, Rows, AreJudged, before, behind_court, cells_in, knows_later_kinds}
use Rattle.docket_scan.specs.Names.{AreNamesFor, names_of}
use Rattle.docket_scan.specs.Records.{receipt_cells as stored_receipt_cells, ArePartyRows, AreEntryRows, AreDeadlineRows, AreActRows}
use Rattle.docket_scan.specs.Scans.{AreRowsOf}
use Rattle.docket_scan.specs.Shapes.{has_table}
use Rattle.docket_scan.specs.declared.fault.AdoptFault.{AdoptFault}
use Rattle.docket_scan.specs.declared.fault.AdoptFault.TheVariants.{Damaged, NoMemory, StoreFailed}
use Rattle.docket_scan.specs.declared.holdings.Holdings.{Holdings}
use Rattle.docket_scan.proofs.DocketCounts.{receipts_counted, standings_counted}
use Rattle.docket_scan.proofs.DocketOrders.{local_rules_by_key, typed}
use Rattle.docket_scan.proofs.DocketReads.{AreSorted, never_unreadable, rows_sorted, first_sorted}
use Rattle.docket_scan.proofs.DocketStatements.{is_there}
use Rattle.docket_scan.proofs.DocketTables.{calendar_sound, short_days_sound, cases_sound, parties_sound, entries_sound, deadlines_sound, acts_sound, receipts_sound, ends_sound, local_rules_sound, parties_counted, deadlines_counted}
use Rattle.docket_scan.proofs.JudgingLemmas.{each_has}
use Rattle.docket_scan.proofs.KindLemmas.{no_local_rules_made, no_short_days_made}
use Rattle.docket_scan.proofs.LocalRuleLemmas.{names_are}

nothing : (a b : ⊥) → a ≡ b
nothing a b = absurd a

-- the rows of the docket of a history in a version, table by table
abbrev pub rows_of_docket : Version → CourtSettings → History → Stored
rows_of_docket v court h table.Court = court_cells_of v court (next_row h) ∷ []
rows_of_docket v court h t = rows_in court (rows_of court h) t

same_rows : (v : Version) (court : CourtSettings) (h : History) (t : Table) → rows_by v court (rows_of court h) t ≡ rows_of_docket v court h t
same_rows First court h table.Court = refl
same_rows First court h t = refl
same_rows Second court h table.Court = refl
same_rows Second court h t = refl

pub shows_docket : (v : Version) (s : State) (court : CourtSettings) (h : History) → ShowsIn v s (rows_by v court (rows_of court h)) → ShowsIn v s (rows_of_docket v court h)
shows_docket v s court h = subst (ShowsIn v s) (λ i t. same_rows v court h t i)

module _ (v : Version) (s : State) (rows : Stored) (shows : ShowsIn v s rows) where
  -- what is so of the rows of a table, in the order of its key, is so of those that its statement answers
  pub in_order : (t : Table) → IsTableOf v t → (found : List Row) → AreRowsOf t s found → (AreSorted t (rows t) found → ⊥) → ⊥
  in_order t is found read never = ∥∥₁_elim (rows_sorted v t is s shows.schema rows shows.holds found read) nothing never

  -- a table that is sound in each order of its rows by the key
  pub never_unsound : (t : Table) → IsTableOf v t → (AreSound : List Row → Type 0) → ((found : List Row) → AreSorted t (rows t) found → AreSound found) → IsUnsoundIn t s AreSound → ⊥
  never_unsound t is AreSound sound (inl missing) = false≢true (sym missing ∙ ap (λ d. has_table d t) shows.schema ∙ is_there v t is)
  never_unsound t is AreSound sound (inr (inl unreadable)) = never_unreadable v t is s shows.schema unreadable
  never_unsound t is AreSound sound (inr (inr (inl (first, begins, refuses)))) =
      let whole = first_sorted v t is s shows.schema rows shows.holds shows.is_open first begins in
      ∥∥₁_elim whole.1 nothing (λ it. refuses whole.0 (sound (first ++ whole.0) it))
  never_unsound t is AreSound sound (inr (inr (inr (found, read, refuses)))) = in_order t is found read (λ it. refuses (sound found it))

-- a table has as many rows as there are of these
counted : {R X : Type 0} (t : Table) (cells : R → Row) (others : X → Row) (all : List R) (rows : List X) → ∥ AreSorted t (map cells all) (map others rows) ∥₁ → length rows ≡ length all
counted t cells others all rows sorted =
    ∥∥₁_elim sorted (Coded-set coded_ℕ _ _) (λ it. sym (length-map rows others) ∙ length_permutation _ _ it.same ∙ length-map all cells)

none_in_order : AreInOrder local_rule_order [] []
none_in_order = record { same = IsPermutation-refl []; sorted = λ k d low high. absurd (omega (arith, high)) }

-- the names by which the deadlines are checked are those of the history's local rules
names_told : (v : Version) (s : State) (court : CourtSettings) (h : History) → IsHistory court h → MayHold v h → ShowsIn v s (rows_of_docket v court h) → (names : List (List ℕ)) → AreNamesFor v s names
    → ((rules : List LocalRuleRow) → AreInOrder local_rule_order (local_rule_rows h) rules → names ≡ rule_names rules → ⊥) → ⊥
names_told First s court h is may shows names none never =
    never [] (subst (λ (all : List LocalRuleRow). AreInOrder local_rule_order all []) (sym (no_local_rules_made h may)) none_in_order) none
names_told Second s court h is may shows names (inl (unreadable, none)) never = never_unreadable Second table.LocalRules tt s shows.schema unreadable
names_told Second s court h is may shows names (inr (rows, read, same)) never =
    in_order Second s (rows_of_docket Second court h) shows table.LocalRules tt rows read (λ sorted.
    let it = typed table.LocalRules local_rule_cells local_rule_order local_rules_by_key (local_rule_rows h) rows sorted in
    never it.0 it.2 (same ∙ ap names_of it.1 ∙ names_are it.0 (sorted_local_rules court h is it.0 it.2).within))

-- the kinds of its commands are known
kinds_known : (v : Version) (h : History) → MayHold v h → AreOfKnownKinds (knows_later_kinds v) h
kinds_known First h may = may
kinds_known Second h may = all_kinds_known h

module _ (v : Version) (s : State) (court : CourtSettings) (h : History) (is : IsHistory court h) (commands : AllByRecursion IsCommand h) (shows : ShowsIn v s (rows_of_docket v court h)) (may : MayHold v h) (r : Rows) where
  abbrev all : Stored
  all = rows_of_docket v court h

  abbrev Stand : Table → Type 0
  Stand t = AllByRecursion (Holds v s court (next_row h) r) (before t)

  abbrev IsUnsound : Table → Type 0
  IsUnsound t = IsUnsoundIn t s (AreSoundBy v t court (next_row h) r)

  sorted : (t : Table) → IsTableOf First t → AreRowsOf t s (cells_in t r) → ∥ AreSorted t (all t) (cells_in t r) ∥₁
  sorted t is = rows_sorted v t (each_has v t is) s shows.schema all shows.holds (cells_in t r)

  cases_told : AreRowsOf table.Cases s (map case_cells r.cases) → length r.cases ≡ length (case_rows h)
  cases_told read = counted table.Cases case_cells case_cells (case_rows h) r.cases (sorted table.Cases tt read)

  parties_never : Stand table.Parties → IsUnsound table.Parties → ⊥
  parties_never stand unsound =
      never_unsound v s all shows table.Parties (each_has v table.Parties tt) _ (parties_sound court h is commands) (subst (λ n. IsUnsoundIn table.Parties s (ArePartyRows n)) (cases_told stand.1.0.1) unsound)

  entries_never : Stand table.Entries → IsUnsound table.Entries → ⊥
  entries_never stand unsound =
      never_unsound v s all shows table.Entries (each_has v table.Entries tt) _ (entries_sound court h is commands) (subst (λ n. IsUnsoundIn table.Entries s (AreEntryRows n)) (cases_told stand.1.0.1) unsound)

  deadlines_never : AreNamesFor v s r.names → Stand table.Deadlines → IsUnsound table.Deadlines → ⊥
  deadlines_never named stand unsound =
      in_order v s all shows table.Parties (each_has v table.Parties tt) (map party_cells r.parties) stand.1.1.0.1 (λ parties.
      names_told v s court h is may shows r.names named (λ rules order names.
      let counts = ap₂ AreDeadlineRows (cases_told stand.1.0.1) (parties_counted court h is commands r.parties parties) in
      let judged = ap₂ (λ (judge : (List ℕ → Bool) → List Row → Type 0) (texts : List (List ℕ)). judge (is_one_of texts)) counts names in
      never_unsound v s all shows table.Deadlines (each_has v table.Deadlines tt) _ (deadlines_sound court h is commands rules order) (subst (IsUnsoundIn table.Deadlines s) judged unsound)))

  acts_never : Stand table.Acts → IsUnsound table.Acts → ⊥
  acts_never stand unsound =
      in_order v s all shows table.Deadlines (each_has v table.Deadlines tt) (map deadline_cells r.deadlines) stand.1.1.1.1.0.1 (λ deadlines.
      let judged = ap₂ (AreActRows court) (cases_told stand.1.0.1) (deadlines_counted court h is commands r.deadlines deadlines) in
      never_unsound v s all shows table.Acts (each_has v table.Acts tt) _ (acts_sound court h is commands) (subst (IsUnsoundIn table.Acts s) judged unsound))

  short_days_never : IsTableOf v table.ShortDays → Stand table.ShortDays → IsUnsound table.ShortDays → ⊥
  short_days_never has stand unsound =
      in_order v s all shows table.Calendar (each_has v table.Calendar tt) (map calendar_cells r.calendar) stand.0.1 (λ days.
      never_unsound v s all shows table.ShortDays has _ (short_days_sound court h is commands r.calendar days) unsound)

  ends_never : Stand table.Due → IsUnsound table.Due → ⊥
  ends_never stand unsound =
      in_order v s all shows table.Calendar (each_has v table.Calendar tt) (map calendar_cells r.calendar) stand.0.1 (λ days.
      in_order v s all shows table.Acts (each_has v table.Acts tt) (map act_cells r.acts) stand.1.1.1.1.1.0.1 (λ acts.
      never_unsound v s all shows table.Due (each_has v table.Due tt) _ (ends_sound court h is commands r.calendar r.acts days acts) unsound))

  never : (t : Table) → IsTableOf v t → AreNamesFor v s r.names → Stand t → IsUnsound t → ⊥
  never table.Court has named stand = never_unsound v s all shows table.Court has _ (λ found sorted. tt)
  never table.Calendar has named stand = never_unsound v s all shows table.Calendar has _ (calendar_sound court h is commands)
  never table.Cases has named stand = never_unsound v s all shows table.Cases has _ (cases_sound court h is commands)
  never table.Parties has named stand = parties_never stand
  never table.Entries has named stand = entries_never stand
  never table.Deadlines has named stand = deadlines_never named stand
  never table.Acts has named stand = acts_never stand
  never table.Receipts has named stand = never_unsound v s all shows table.Receipts has _ (receipts_sound court h is commands (knows_later_kinds v) (kinds_known v h may))
  never table.Due has named stand = ends_never stand
  never table.ShortDays has named stand = short_days_never has stand
  never table.LocalRules has named stand = never_unsound v s all shows table.LocalRules has _ (local_rules_sound court h is commands)

  standings_told : Stand table.ShortDays → (test : Standing → Bool) → count_by test (standings_of (zone_of court) (calendar_of (items_of r.calendar)) r.acts) ≡ count_by test (standings_in court h)
  standings_told stand test =
      ∥∥₁_elim (sorted table.Calendar tt stand.0.1) (Coded-set coded_ℕ _ _) (λ days.
      ∥∥₁_elim (sorted table.Acts tt stand.1.1.1.1.1.0.1) (Coded-set coded_ℕ _ _) (λ acts. standings_counted court h is test r.calendar r.acts days acts))

  calendar_told : Stand table.ShortDays → length r.short_days ≡ length (short_day_rows (standing_rows h)) → length r.calendar + length r.short_days ≡ length (standing_rows h)
  calendar_told stand short =
      let days = counted table.Calendar calendar_cells calendar_cells (day_and_span_rows (standing_rows h)) r.calendar (sorted table.Calendar tt stand.0.1) in
      omega (arith, days, short, in_two_tables (standing_rows h))

  held_told : Stand table.ShortDays → length r.short_days ≡ length (short_day_rows (standing_rows h)) → length r.local_rules ≡ length (local_rule_rows h) → holdings_of court r ≡ holdings_in court h
  held_told stand short rules = λ i. record {
    calendar_rows = calendar_told stand short i;
    local_rules = rules i;
    cases = cases_told stand.1.0.1 i;
    parties = counted table.Parties party_cells party_cells (party_rows h) r.parties (sorted table.Parties tt stand.1.1.0.1) i;
    entries = counted table.Entries entry_cells entry_cells (entry_rows h) r.entries (sorted table.Entries tt stand.1.1.1.0.1) i;
    deadlines = counted table.Deadlines deadline_cells deadline_cells (deadline_rows h) r.deadlines (sorted table.Deadlines tt stand.1.1.1.1.0.1) i;
    standings = record {
      running = standings_told stand is_running i;
      suspended = standings_told stand is_suspended i;
      awaiting = standings_told stand is_awaiting i;
      done = standings_told stand is_done i;
      vacated = standings_told stand is_vacated i;
    };
    receipts = (counted table.Receipts receipt_cells stored_receipt_cells (receipts court h) r.receipts (sorted table.Receipts tt stand.1.1.1.1.1.1.0.1) ∙ receipts_counted court h) i;
  }

-- the short days, which the first version does not have
short_days_told : (v : Version) (s : State) (court : CourtSettings) (h : History) → ShowsIn v s (rows_of_docket v court h) → (r : Rows) → AreRowsFor v r → MayHold v h
    → AllByRecursion (Holds v s court (next_row h) r) (behind_court v) → length r.short_days ≡ length (short_day_rows (standing_rows h))
short_days_told First s court h shows r none may stand = ap length none.0 ∙ sym (ap length (no_short_days_made h may))
short_days_told Second s court h shows r none may stand =
    counted table.ShortDays short_day_cells short_day_cells (short_day_rows (standing_rows h)) r.short_days
    (rows_sorted Second table.ShortDays tt s shows.schema (rows_of_docket Second court h) shows.holds (map short_day_cells r.short_days) stand.1.1.1.1.1.1.1.1.0.1)

-- nor does it have the local rules
local_rules_told : (v : Version) (s : State) (court : CourtSettings) (h : History) → ShowsIn v s (rows_of_docket v court h) → (r : Rows) → AreRowsFor v r → MayHold v h
    → AllByRecursion (Holds v s court (next_row h) r) (behind_court v) → length r.local_rules ≡ length (local_rule_rows h)
local_rules_told First s court h shows r none may stand = ap length none.1 ∙ sym (ap length (no_local_rules_made h may))
local_rules_told Second s court h shows r none may stand =
    counted table.LocalRules local_rule_cells local_rule_cells (local_rule_rows h) r.local_rules
    (rows_sorted Second table.LocalRules tt s shows.schema (rows_of_docket Second court h) shows.holds (map local_rule_cells r.local_rules) stand.1.1.1.1.1.1.1.1.1.0.1)

-- the tables behind the court's, up to that of ends
front : (v : Version) (Is : Table → Type 0) → AllByRecursion Is (behind_court v) → AllByRecursion Is (before table.ShortDays)
front First Is all = all
front Second Is all = all_front Is (before table.ShortDays) (table.ShortDays ∷ table.LocalRules ∷ []) all

-- so the check reports that the docket of a history holds what the history has, and no table of it as unsound
pub docket_told : {S : Type 0} (g : Ghosts S) (v : Version) (old : Held S) (new : State) (court : CourtSettings) (next : ℕ) (result : Result Holdings AdoptFault)
    → HasCleanDisk (state g old) → AreJudged v court next (state g old) new (λ r held. held ≡ holdings_of court r) result
    → (h : History) → IsHistory court h → AllByRecursion IsCommand h → MayHold v h → next ≡ next_row h → HoldsRowsIn g v old (rows_by v court (rows_of court h))
    → IsToldOfDocket court h result
docket_told g v old new court next result clean told h is commands may numbered holds = at result (subst (λ n. Told n result) numbered told)
  where
    s : State
    s = state g old

    Told : ℕ → Result Holdings AdoptFault → Type 0
    Told n = AreJudged v court n s new (λ r held. held ≡ holdings_of court r)

    shows : ShowsIn v s (rows_of_docket v court h)
    shows = shows_docket v s court h (holds.1 clean).shows

    has : (t : Table) → IsBehindCourt v t → IsTableOf v t
    has table.Court behind = absurd behind
    has t behind = behind

    at : (found : Result Holdings AdoptFault) → Told (next_row h) found → IsToldOfDocket court h found
    at (Ok held) (same, r, fits, named, stand, says) =
        says ∙ held_told v s court h is commands shows may r (front v _ stand) (short_days_told v s court h shows r fits may stand) (local_rules_told v s court h shows r fits may stand)
    at (Err (Damaged t)) (behind, stays, r, named, stand, unsound) = never v s court h is commands shows may r t (has t behind) named stand unsound
    at (Err NoMemory) fails = tt
    at (Err StoreFailed) fails = tt
    at (Err _) fails = absurd fails
