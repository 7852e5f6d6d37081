-- The cases, parties, entries and deadlines of a docket.
use Rattle.std.proofs.Common.{◌≡◌, ℕ, suc, ◌+◌, ◌≤◌, List, [], ◌∷◌, map, length, refl, sym, subst, arith}
use Rattle.std.specs.List.{AllByRecursion, filter_map}
use Rattle.court_days.specs.Court.{CourtSettings}
use Rattle.docket_command.specs.declared.command.Action.{Action}
use Rattle.docket_command.specs.declared.command.Action.TheVariants as action
use Rattle.docket_history.specs.Actions.{deadlines_made, opened}
use Rattle.docket_history.specs.Histories.{History, case_number, case_rows, party_rows, entry_rows, deadline_rows, parties_of_case, entries_of_case, deadlines_of_case, new_case, new_party, new_entry, new_deadlines, deadline_rows_from, rule_found, case_row, party_row, entry_row}
use Rattle.docket_history.specs.InOrder.{in_order, asked_in_order, gathered, party_added, entry_filed, made_in}
use Rattle.docket_decisions.specs.Outcomes.{IsHistory}
use Rattle.docket_history.specs.declared.row.CaseRow.{CaseRow}
use Rattle.docket_history.specs.declared.row.PartyRow.{PartyRow}
use Rattle.docket_history.specs.declared.row.EntryRow.{EntryRow}
use Rattle.docket_history.specs.declared.row.DeadlineRow.{DeadlineRow}
use Rattle.docket_decisions.proofs.InOrderLemmas.{cases_in_order, parties_in_order, entries_in_order, deadlines_in_order}
use Rattle.docket_decisions.proofs.LimitsKept.{within_limits}
use Rattle.docket_decisions.proofs.ListLemmas.{all_both}
use Rattle.docket_wire.specs.Valid.{IsAction, IsCommand}
use Rattle.docket_columns.specs.Fits.{IsCount, IsCaseRow, IsPartyRow, IsEntryRow, IsDeadlineRow}
use Rattle.docket_orderly.specs.Orderly.{RunsFrom}
use Rattle.docket_orderly.proofs.ActionLemmas.{NewDeadline, IsMaking, case_counts, deadlines_fine, deadlines_few}
use Rattle.docket_orderly.proofs.ListLemmas.{numbered_runs}
use Rattle.docket_orderly.proofs.LocalRuleLemmas.{found_for}

-- cases
one_case : (m : ℕ) (a : Action) → m ≤ 100_000 → IsAction a → AllByRecursion IsCaseRow (new_case m a)
unfolding IsAction
one_case m (action.OpenCase a) few is = ((omega (arith, few), is.0, is.1.0, is.1.1.0), tt)
one_case m _ few is = tt

pub cases_held : (court : CourtSettings) (h : History) → IsHistory court h → AllByRecursion IsCommand h → AllByRecursion IsCaseRow (case_rows h)
cases_held court [] is all = tt
cases_held court (c ∷ h) is all =
    all_both IsCaseRow (case_rows h) (new_case (length (case_rows h)) c.action) (cases_held court h is.1 all.1)
    (one_case (length (case_rows h)) c.action (within_limits court h is.1).cases all.0.1)

pub cases_run : (h : History) → RunsFrom 1 (map (λ (row : CaseRow). row.number) (case_rows h))
cases_run h =
    subst (λ (rows : List CaseRow). RunsFrom 1 (map (λ (row : CaseRow). row.number) rows)) (sym (cases_in_order h))
    (numbered_runs case_row (λ (row : CaseRow). row.number) (λ n a. refl) 1 (filter_map opened (in_order h)))

-- parties
one_party : (m : ℕ) (a : Action) → m ≤ 1000 → IsAction a → AllByRecursion IsPartyRow (new_party m a)
unfolding IsAction
one_party m (action.AddParty a) few is = ((is.0, omega (arith, few), is.1.0), tt)
one_party m _ few is = tt

pub parties_held : (court : CourtSettings) (h : History) → IsHistory court h → AllByRecursion IsCommand h → AllByRecursion IsPartyRow (party_rows h)
parties_held court [] is all = tt
parties_held court (c ∷ h) is all =
    let count = length (parties_of_case (case_number c.action) (party_rows h)) in
    all_both IsPartyRow (party_rows h) (new_party count c.action) (parties_held court h is.1 all.1)
    (one_party count c.action ((within_limits court h is.1).parties (case_number c.action)) all.0.1)

pub parties_run : (h : History) (k : ℕ) → RunsFrom 1 (map (λ (row : PartyRow). row.number) (parties_of_case k (party_rows h)))
parties_run h k =
    subst (λ (rows : List PartyRow). RunsFrom 1 (map (λ (row : PartyRow). row.number) rows)) (sym (parties_in_order k h))
    (numbered_runs party_row (λ (row : PartyRow). row.number) (λ n a. refl) 1 (filter_map (party_added k) (in_order h)))

-- entries
one_entry : (m : ℕ) (a : Action) → m ≤ 10_000 → IsAction a → AllByRecursion IsEntryRow (new_entry m a)
unfolding IsAction
one_entry m (action.FileEntry a) few is = ((is.0, omega (arith, few), is.1.0, is.1.1.0), tt)
one_entry m _ few is = tt

pub entries_held : (court : CourtSettings) (h : History) → IsHistory court h → AllByRecursion IsCommand h → AllByRecursion IsEntryRow (entry_rows h)
entries_held court [] is all = tt
entries_held court (c ∷ h) is all =
    let count = length (entries_of_case (case_number c.action) (entry_rows h)) in
    all_both IsEntryRow (entry_rows h) (new_entry count c.action) (entries_held court h is.1 all.1)
    (one_entry count c.action ((within_limits court h is.1).entries (case_number c.action)) all.0.1)

pub entries_run : (h : History) (k : ℕ) → RunsFrom 1 (map (λ (row : EntryRow). row.number) (entries_of_case k (entry_rows h)))
entries_run h k =
    subst (λ (rows : List EntryRow). RunsFrom 1 (map (λ (row : EntryRow). row.number) rows)) (sym (entries_in_order k h))
    (numbered_runs entry_row (λ (row : EntryRow). row.number) (λ n a. refl) 1 (filter_map (entry_filed k) (in_order h)))

-- deadlines
made_held : (k n : ℕ) (made : List NewDeadline) → IsCount k → n + length made ≤ 4_294_967_296 → AllByRecursion IsMaking made → AllByRecursion IsDeadlineRow (deadline_rows_from k n made)
made_held k n [] count few all = tt
made_held k n (d ∷ made) count few all = ((count, omega (arith, few), all.0.party, all.0.rule), made_held k (n + 1) made count (omega (arith, few)) all.1)

pub deadlines_held : (court : CourtSettings) (h : History) → IsHistory court h → AllByRecursion IsCommand h → AllByRecursion IsDeadlineRow (deadline_rows h)
deadlines_held court [] is all = tt
deadlines_held court (c ∷ h) is all =
    let count = length (deadlines_of_case (case_number c.action) (deadline_rows h)) in
    let few = (within_limits court h is.1).deadlines (case_number c.action) in
    let found = rule_found h c.action in
    all_both IsDeadlineRow (deadline_rows h) (new_deadlines found count c.action) (deadlines_held court h is.1 all.1)
    (made_held (case_number c.action) (count + 1) (deadlines_made found c.action) (case_counts c.action all.0.1)
    (omega (arith, few, deadlines_few found c.action)) (deadlines_fine found c.action (found_for court h is.1 c.action) all.0.1))

made_runs : (k n : ℕ) (made : List NewDeadline) → RunsFrom n (map (λ (row : DeadlineRow). row.number) (deadline_rows_from k n made))
made_runs k n [] = tt
made_runs k n (d ∷ made) =
    let next : n + 1 ≡ suc n = omega arith in
    (refl, subst (λ m. RunsFrom m (map (λ (row : DeadlineRow). row.number) (deadline_rows_from k (n + 1) made))) next (made_runs k (n + 1) made))

pub deadlines_run : (h : History) (k : ℕ) → RunsFrom 1 (map (λ (row : DeadlineRow). row.number) (deadlines_of_case k (deadline_rows h)))
deadlines_run h k =
    subst (λ (rows : List DeadlineRow). RunsFrom 1 (map (λ (row : DeadlineRow). row.number) rows)) (sym (deadlines_in_order k h))
    (made_runs k 1 (gathered (made_in k) (asked_in_order h)))
