-- The cases, parties and entries of a history, by an induction on it.
use Rattle.std.proofs.Common.{◌≡◌, ◌∙◌, ℕ, suc, ◌+◌, ◌<◌, ◌≤◌, ◌==◌, ◌&&◌, nat_le, Bool, true, false, IsTrue, cond, Some, None, List, [], ◌∷◌, ◌++◌, map, length, refl, sym, ap, subst, arith, append-nil, ⊎_elim}
use Rattle.std.proofs.lemmas.Bool.Decides.{nat_tests}
use Rattle.std.proofs.lemmas.Bool.{and_from, not-false}
use Rattle.std.proofs.lemmas.List.{length-append, map-append}
use Rattle.std.specs.Prelude.{filter, is_none}
use Rattle.std.specs.List.{AllByRecursion, list_any}
use Rattle.std.specs.Str.{bytes_eq}
use Rattle.court_days.specs.Court.{CourtSettings}
use Rattle.docket_command.specs.declared.command.Action.{Action}
use Rattle.docket_command.specs.declared.command.Action.TheVariants as action
use Rattle.docket_command.specs.declared.command.Command.{Command}
use Rattle.docket_history.specs.Histories.{History, case_rows, party_rows, entry_rows, new_case, new_party, new_entry, case_number, parties_of_case, entries_of_case}
use Rattle.docket_decisions.specs.Outcomes.{IsHistory, shown, shown_fresh, case_of_number}
use Rattle.docket_values.specs.Values.{bad_values, is_word, is_text, is_entered}
use Rattle.docket_history.specs.Views.{parties_in, entries_in}
use Rattle.docket_history.specs.declared.row.CaseRow.{CaseRow}
use Rattle.docket_history.specs.declared.row.EntryRow.{EntryRow}
use Rattle.docket_history.specs.declared.row.PartyRow.{PartyRow}
use Rattle.docket_history.specs.declared.view.CaseView.{CaseView}
use Rattle.docket_decisions.proofs.GoodValues.{all_good}
use Rattle.docket_decisions.proofs.Leading.{seen, case_numbered}
use Rattle.docket_decisions.proofs.Passed.{IsFree, not_at}
use Rattle.sqlite_trees.proofs.ListLemmas.{all-append}
use Rattle.docket_sound.specs.Numbers.{RunsFrom, AreNumbered, IsOfCase, numbers_in}
use Rattle.docket_sound.specs.Cases.{AreApart, is_sound_case, AreSoundCases}
use Rattle.docket_sound.specs.Entries.{entry_key, is_sound_entry, AreSoundEntries}
use Rattle.docket_sound.specs.Parties.{party_key, is_sound_party, AreSoundParties}
use Rattle.docket_sound.specs.declared.numbering.Key.{Key}
use Rattle.docket_sound.proofs.AcceptedLemmas.{freed}
use Rattle.docket_sound.proofs.CaseLemmas.{apart_more, none_labelled, long_numbers}
use Rattle.docket_sound.proofs.NumberLemmas.{runs_more, numbered_next, none_numbered}

-- cases
case_more : (rows : List CaseRow) (row : CaseRow) → AreSoundCases rows → row.number ≡ length rows + 1 → length rows < 100_000
    → list_any (λ (r : CaseRow). bytes_eq r.label row.label) rows ≡ false → is_sound_case row ≡ true → AreSoundCases (rows ++ row ∷ [])
case_more rows row sound number room new within = record {
  numbered = subst (RunsFrom 1) (sym (map-append (λ (r : CaseRow). r.number) rows (row ∷ [])))
      (runs_more 1 (map (λ (r : CaseRow). r.number) rows) row.number sound.numbered (omega (arith, number, long_numbers rows)));
  few = omega (arith, room, length-append rows (row ∷ []));
  apart = subst AreApart (sym (map-append (λ (r : CaseRow). r.label) rows (row ∷ []))) (apart_more (map (λ (r : CaseRow). r.label) rows) row.label sound.apart (none_labelled row.label rows new));
  within = all-append (λ r. IsTrue (is_sound_case r)) rows (row ∷ []) sound.within (within, tt);
}

case_step : (court : CourtSettings) (h : History) (c : Command) (a : Action) → c.action ≡ a → IsFree court (shown court h c) c → AreSoundCases (case_rows h) → AreSoundCases (case_rows h ++ new_case (length (case_rows h)) a)
case_step court h c (action.OpenCase a) is free sound =
    let good = all_good (bad_values court (action.OpenCase a)) (rw is at free.values) in
    let new = rw is at free.new in
    let room = rw is at free.room in
    case_more (case_rows h) (record { number = length (case_rows h) + 1; label = a.label; caption = a.caption; filed = a.filed }) sound refl (not_at 100_000 (length (case_rows h)) room) new
    (and_from _ (is_entered a.filed) (and_from (is_word 40 a.label) (is_text 200 a.caption) (not-false (is_word 40 a.label) good.0) (not-false (is_text 200 a.caption) good.1.0)) (not-false (is_entered a.filed) good.1.1.0))
case_step court h c _ is free sound = subst AreSoundCases (sym (append-nil (case_rows h))) sound

pub sound_cases : (court : CourtSettings) (h : History) → IsHistory court h → AreSoundCases (case_rows h)
sound_cases court [] is = record { numbered = tt; few = omega arith; apart = tt; within = tt }
sound_cases court (c ∷ h) is = case_step court h c c.action refl (freed court h c is.0.0 is.0.1) (sound_cases court h is.1)

-- the case that a command names is one of them
pub is_case : (h : History) (a : Action) (k : ℕ) → is_none (case_of_number h a k) ≡ false → (1 ≤ k) × (k ≤ length (case_rows h))
is_case h a k there = at (nat_le 1 k) (nat_le k (length (case_rows h))) refl refl there
  where
    found : CaseView
    found = case_numbered h a k

    at : (a b : Bool) → nat_le 1 k ≡ a → nat_le k (length (case_rows h)) ≡ b → is_none (cond (a && b) (Some found) None) ≡ false → (1 ≤ k) × (k ≤ length (case_rows h))
    at true true low high there = (grind (arith, nat_tests, low), grind (arith, nat_tests, high))
    at true false low high there = absurd cc
    at false b low high there = absurd cc

more_cases : (old new most : ℕ) (keys : List Key) → old ≤ new → AreNumbered old most keys → AreNumbered new most keys
more_cases old new most keys low all = record { met = wider keys all.met; run = all.run; few = all.few }
  where
    wider : (ks : List Key) → AllByRecursion (IsOfCase old) ks → AllByRecursion (IsOfCase new) ks
    wider [] met = tt
    wider (k ∷ ks) met = ((met.0.0, omega (arith, met.0.1, low)), wider ks met.1)

pub no_fewer_cases : (h : History) (c : Command) → length (case_rows h) ≤ length (case_rows (c ∷ h))
no_fewer_cases h c = omega (arith, length-append (case_rows h) (new_case (length (case_rows h)) c.action))

-- parties
count_kept : {R : Type 0} (key : R → Key) (case : R → ℕ) → ((r : R) → (key r).case ≡ case r) → (k : ℕ) (rows : List R) → length (numbers_in k (map key rows)) ≡ length (filter (λ r. case r == k) rows)
count_kept {R} key case is k [] = refl
count_kept {R} key case is k (r ∷ rows) = at (case r == k) (ap (λ n. n == k) (is r)) (count_kept key case is k rows)
  where
    at : (b : Bool) → ((key r).case == k) ≡ b → length (numbers_in k (map key rows)) ≡ length (filter (λ x. case x == k) rows)
        → length (map (λ (x : Key). x.number) (cond ((key r).case == k) (key r ∷ filter (λ x. x.case == k) (map key rows)) (filter (λ x. x.case == k) (map key rows)))) ≡ length (cond b (r ∷ filter (λ x. case x == k) rows) (filter (λ x. case x == k) rows))
    at true e more = ap (λ b. length (map (λ (x : Key). x.number) (cond b (key r ∷ filter (λ x. x.case == k) (map key rows)) (filter (λ x. x.case == k) (map key rows))))) e ∙ ap suc more
    at false e more = ap (λ b. length (map (λ (x : Key). x.number) (cond b (key r ∷ filter (λ x. x.case == k) (map key rows)) (filter (λ x. x.case == k) (map key rows))))) e ∙ more

numbered_more : {R : Type 0} (key : R → Key) (case : R → ℕ) (is : (r : R) → (key r).case ≡ case r) (cases most : ℕ) (rows : List R) (row : R) → AreNumbered cases most (map key rows) → IsOfCase cases (key row)
    → (key row).number ≡ length (filter (λ r. case r == case row) rows) + 1 → length (filter (λ r. case r == case row) rows) < most → AreNumbered cases most (map key (rows ++ row ∷ []))
numbered_more key case is cases most rows row all met number room =
    let count = ap (λ k. length (numbers_in k (map key rows))) (is row) ∙ count_kept key case is (case row) rows in
    subst (AreNumbered cases most) (sym (map-append key rows (row ∷ [])))
    (numbered_next cases most (map key rows) (key row) all (record { met = met; next = omega (arith, number, count); room = omega (arith, room, count) }))

party_step : (court : CourtSettings) (h : History) (c : Command) (a : Action) → c.action ≡ a → IsFree court (shown court h c) c → AreSoundParties (length (case_rows h)) (party_rows h)
    → AreSoundParties (length (case_rows h)) (party_rows h ++ new_party (length (parties_of_case (case_number a) (party_rows h))) a)
party_step court h c (action.AddParty a) is free sound =
    let good = all_good (bad_values court (action.AddParty a)) (rw is at free.values) in
    let there : is_none (case_of_number h (action.AddParty a) a.case) ≡ false = rw is at free.case in
    let of_case = is_case h (action.AddParty a) a.case there in
    let room = rw is at free.room in
    let same : parties_in (shown_fresh h (action.AddParty a)).case ≡ length (parties_of_case a.case (party_rows h)) = ⊎_elim (λ off. absurd (cc)) (λ found. ap parties_in found) (seen h (action.AddParty a) there) in
    let row : PartyRow = record { case = a.case; number = length (parties_of_case a.case (party_rows h)) + 1; name = a.name; role = a.role } in
    record {
      numbered = numbered_more party_key (λ (r : PartyRow). r.case) (λ r. refl) (length (case_rows h)) 1000 (party_rows h) row sound.numbered of_case refl (omega (arith, same, not_at 1000 _ room));
      within = all-append (λ (r : PartyRow). IsTrue (is_sound_party r)) (party_rows h) (row ∷ []) sound.within (not-false (is_text 100 a.name) good.0, tt);
    }
party_step court h c _ is free sound = subst (AreSoundParties (length (case_rows h))) (sym (append-nil (party_rows h))) sound

pub sound_parties : (court : CourtSettings) (h : History) → IsHistory court h → AreSoundParties (length (case_rows h)) (party_rows h)
sound_parties court [] is = record { numbered = none_numbered 0 1000; within = tt }
sound_parties court (c ∷ h) is =
    let all = party_step court h c c.action refl (freed court h c is.0.0 is.0.1) (sound_parties court h is.1) in
    record { numbered = more_cases (length (case_rows h)) (length (case_rows (c ∷ h))) 1000 _ (no_fewer_cases h c) all.numbered; within = all.within }

-- entries
entry_step : (court : CourtSettings) (h : History) (c : Command) (a : Action) → c.action ≡ a → IsFree court (shown court h c) c → AreSoundEntries (length (case_rows h)) (entry_rows h)
    → AreSoundEntries (length (case_rows h)) (entry_rows h ++ new_entry (length (entries_of_case (case_number a) (entry_rows h))) a)
entry_step court h c (action.FileEntry a) is free sound =
    let good = all_good (bad_values court (action.FileEntry a)) (rw is at free.values) in
    let there : is_none (case_of_number h (action.FileEntry a) a.case) ≡ false = rw is at free.case in
    let of_case = is_case h (action.FileEntry a) a.case there in
    let room = rw is at free.room in
    let same : entries_in (shown_fresh h (action.FileEntry a)).case ≡ length (entries_of_case a.case (entry_rows h)) = ⊎_elim (λ off. absurd (cc)) (λ found. ap entries_in found) (seen h (action.FileEntry a) there) in
    let row : EntryRow = record { case = a.case; number = length (entries_of_case a.case (entry_rows h)) + 1; day = a.day; text = a.text } in
    record {
      numbered = numbered_more entry_key (λ (r : EntryRow). r.case) (λ r. refl) (length (case_rows h)) 10_000 (entry_rows h) row sound.numbered of_case refl (omega (arith, same, not_at 10_000 _ room));
      within = all-append (λ (r : EntryRow). IsTrue (is_sound_entry r)) (entry_rows h) (row ∷ []) sound.within (and_from (is_entered a.day) (is_text 2000 a.text) (not-false (is_entered a.day) good.0) (not-false (is_text 2000 a.text) good.1.0), tt);
    }
entry_step court h c _ is free sound = subst (AreSoundEntries (length (case_rows h))) (sym (append-nil (entry_rows h))) sound

pub sound_entries : (court : CourtSettings) (h : History) → IsHistory court h → AreSoundEntries (length (case_rows h)) (entry_rows h)
sound_entries court [] is = record { numbered = none_numbered 0 10_000; within = tt }
sound_entries court (c ∷ h) is =
    let all = entry_step court h c c.action refl (freed court h c is.0.0 is.0.1) (sound_entries court h is.1) in
    record { numbered = more_cases (length (case_rows h)) (length (case_rows (c ∷ h))) 10_000 _ (no_fewer_cases h c) all.numbered; within = all.within }
