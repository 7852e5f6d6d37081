-- What histories define, as lists of what was asked, the oldest first.
use Rattle.std.proofs.Common.{◌≡◌, ◌↔◌, ℕ, suc, ◌+◌, ◌<◌, Bool, true, false, not, cond, Option, Some, None, List, [], ◌∷◌, ◌++◌, length, refl, sym, ap, subst, ◌∙◌, arith, append-nil, append_assoc, ⊎_elim}
use Rattle.std.specs.Prelude.{◌==◌, filter, unwrap_or, if◌then◌else◌}
use Rattle.std.specs.List.{All, Contains, filter_map, cons_option}
use Rattle.std.proofs.lemmas.Bool.Decides.{nat_tests}
use Rattle.std.proofs.lemmas.List.Elements.{filter-append, filter_map-append, All-nil, All-cons, All-head, All-tail, Contains-append_left, Contains-append_right, Contains-append_cases, Contains-push, Contains-push_cases, All-contains, All-contains_itself, All-filter, filter_passes}
use Rattle.docket_command.specs.declared.case_action.AddParty.{AddParty}
use Rattle.docket_command.specs.declared.case_action.FileEntry.{FileEntry}
use Rattle.docket_command.specs.declared.command.Command.{Command}
use Rattle.docket_command.specs.declared.command.Action.{Action}
use Rattle.docket_command.specs.declared.command.Action.TheVariants as action
use Rattle.docket_history.specs.Actions.{FoundRule, case_named, deadlines_made, row_withdrawn, rule_entered, opened}
use Rattle.docket_history.specs.Histories.{History, case_rows, party_rows, entry_rows, deadline_rows, parties_of_case, entries_of_case, deadlines_of_case, new_case, new_party, new_entry, new_deadlines, deadline_rows_from, case_number, standing_rows, without_row, local_rule_rows, new_local_rule, rule_found, local_rule_row, case_row, party_row, entry_row}
use Rattle.docket_history.specs.InOrder.{in_order, asked_in_order, numbered_by, gathered, party_added, entry_filed, is_number, made_in, calendar_added, Withdraws, IsAddedAndKept}
use Rattle.docket_history.proofs.Asked.{none_made}
use Rattle.docket_history.specs.declared.row.NewDeadline.{NewDeadline}
use Rattle.docket_history.specs.declared.row.CalendarRow.{CalendarRow}
use Rattle.docket_history.specs.declared.row.DeadlineRow.{DeadlineRow}
use Rattle.docket_history.specs.declared.row.EntryRow.{EntryRow}
use Rattle.docket_history.specs.declared.row.PartyRow.{PartyRow}

pub same_number : (m n : ℕ) → (m == n) ≡ true → m ≡ n
same_number m n e = grind (arith, nat_tests)

module _ {A R : Type 0} (row : ℕ → A → R) where
  pub numbered-append : (n : ℕ) (xs ys : List A) → numbered_by row n (xs ++ ys) ≡ numbered_by row n xs ++ numbered_by row (n + length xs) ys
  numbered-append n [] ys = let start : n ≡ n + 0 = omega arith in ap (λ m. numbered_by row m ys) start
  numbered-append n (x ∷ xs) ys = let next : n + 1 + length xs ≡ n + length (x ∷ xs) = omega arith in ap (λ rows. row n x ∷ rows) (numbered-append (n + 1) xs ys ∙ ap (λ m. numbered_by row (n + 1) xs ++ numbered_by row m ys) next)

  pub length-numbered_by : (n : ℕ) (xs : List A) → length (numbered_by row n xs) ≡ length xs
  length-numbered_by n [] = refl
  length-numbered_by n (x ∷ xs) = ap suc (length-numbered_by (n + 1) xs)

  -- rows so far are numbered, and so are they with those of one more action
  pub grows : (rows more : List R) (pick : Action → Option A) (asked : List Action) (a : Action) → rows ≡ numbered_by row 1 (filter_map pick asked) → more ≡ numbered_by row (length rows + 1) (filter_map pick (a ∷ [])) → rows ++ more ≡ numbered_by row 1 (filter_map pick (asked ++ a ∷ []))
  grows rows more pick asked a was new =
      let count : length rows + 1 ≡ 1 + length (filter_map pick asked) = omega (arith, ap length was, length-numbered_by 1 (filter_map pick asked)) in
      (λ i. was i ++ (new ∙ ap (λ m. numbered_by row m (filter_map pick (a ∷ []))) count) i)
      ∙ sym (numbered-append 1 (filter_map pick asked) (filter_map pick (a ∷ [])))
      ∙ ap (numbered_by row 1) (sym (filter_map-append pick asked (a ∷ [])))

-- cases
one_case : (m : ℕ) (a : Action) → new_case m a ≡ numbered_by case_row (m + 1) (filter_map opened (a ∷ []))
one_case m (action.OpenCase a) = refl
one_case m _ = refl

pub cases_in_order : (h : History) → case_rows h ≡ numbered_by case_row 1 (filter_map opened (in_order h))
cases_in_order [] = refl
cases_in_order (c ∷ h) = grows case_row (case_rows h) (new_case (length (case_rows h)) c.action) opened (in_order h) c.action (cases_in_order h) (one_case (length (case_rows h)) c.action)

-- local rules
one_rule : (m : ℕ) (a : Action) → new_local_rule m a ≡ numbered_by local_rule_row (m + 1) (filter_map rule_entered (a ∷ []))
one_rule m (action.LocalRule a) = refl
one_rule m _ = refl

pub rules_in_order : (h : History) → local_rule_rows h ≡ numbered_by local_rule_row 1 (filter_map rule_entered (in_order h))
rules_in_order [] = refl
rules_in_order (c ∷ h) = grows local_rule_row (local_rule_rows h) (new_local_rule (length (local_rule_rows h)) c.action) rule_entered (in_order h) c.action (rules_in_order h) (one_rule (length (local_rule_rows h)) c.action)

-- parties
party_if : (b : Bool) (m n : ℕ) (a : AddParty) → (b ≡ true → m ≡ n) → cond b (party_row (m + 1) a ∷ []) [] ≡ numbered_by party_row (n + 1) (cons_option (if b then Some a else None) [])
party_if true m n a same = ap (λ j. party_row (j + 1) a ∷ []) (same refl)
party_if false m n a same = refl

one_party : (k : ℕ) (rows : List PartyRow) (a : Action) → parties_of_case k (new_party (length (parties_of_case (case_number a) rows)) a) ≡ numbered_by party_row (length (parties_of_case k rows) + 1) (filter_map (party_added k) (a ∷ []))
one_party k rows (action.AddParty a) = party_if (a.case == k) _ _ a (λ e. ap (λ j. length (parties_of_case j rows)) (same_number a.case k e))
one_party k rows _ = refl

pub parties_in_order : (k : ℕ) (h : History) → parties_of_case k (party_rows h) ≡ numbered_by party_row 1 (filter_map (party_added k) (in_order h))
parties_in_order k [] = refl
parties_in_order k (c ∷ h) =
    filter-append (λ (row : PartyRow). row.case == k) (party_rows h) (new_party (length (parties_of_case (case_number c.action) (party_rows h))) c.action)
    ∙ grows party_row (parties_of_case k (party_rows h)) _ (party_added k) (in_order h) c.action (parties_in_order k h) (one_party k (party_rows h) c.action)

-- entries
entry_if : (b : Bool) (m n : ℕ) (a : FileEntry) → (b ≡ true → m ≡ n) → cond b (entry_row (m + 1) a ∷ []) [] ≡ numbered_by entry_row (n + 1) (cons_option (if b then Some a else None) [])
entry_if true m n a same = ap (λ j. entry_row (j + 1) a ∷ []) (same refl)
entry_if false m n a same = refl

one_entry : (k : ℕ) (rows : List EntryRow) (a : Action) → entries_of_case k (new_entry (length (entries_of_case (case_number a) rows)) a) ≡ numbered_by entry_row (length (entries_of_case k rows) + 1) (filter_map (entry_filed k) (a ∷ []))
one_entry k rows (action.FileEntry a) = entry_if (a.case == k) _ _ a (λ e. ap (λ j. length (entries_of_case j rows)) (same_number a.case k e))
one_entry k rows _ = refl

pub entries_in_order : (k : ℕ) (h : History) → entries_of_case k (entry_rows h) ≡ numbered_by entry_row 1 (filter_map (entry_filed k) (in_order h))
entries_in_order k [] = refl
entries_in_order k (c ∷ h) =
    filter-append (λ (row : EntryRow). row.case == k) (entry_rows h) (new_entry (length (entries_of_case (case_number c.action) (entry_rows h))) c.action)
    ∙ grows entry_row (entries_of_case k (entry_rows h)) _ (entry_filed k) (in_order h) c.action (entries_in_order k h) (one_entry k (entry_rows h) c.action)

-- deadlines
from-append : (k n : ℕ) (xs ys : List NewDeadline) → deadline_rows_from k n (xs ++ ys) ≡ deadline_rows_from k n xs ++ deadline_rows_from k (n + length xs) ys
from-append k n [] ys = let start : n ≡ n + 0 = omega arith in ap (λ m. deadline_rows_from k m ys) start
from-append k n (x ∷ xs) ys = let next : n + 1 + length xs ≡ n + length (x ∷ xs) = omega arith in ap (λ rows. record { case = k; number = n; party = x.party; rule = x.rule; initial = x.initial } ∷ rows) (from-append k (n + 1) xs ys ∙ ap (λ m. deadline_rows_from k (n + 1) xs ++ deadline_rows_from k m ys) next)

pub length-from : (k n : ℕ) (xs : List NewDeadline) → length (deadline_rows_from k n xs) ≡ length xs
length-from k n [] = refl
length-from k n (x ∷ xs) = ap suc (length-from k (n + 1) xs)

pub gathered-append : {A B : Type 0} (give : A → List B) (xs ys : List A) → gathered give (xs ++ ys) ≡ gathered give xs ++ gathered give ys
gathered-append give [] ys = refl
gathered-append give (x ∷ xs) ys = ap (λ rest. give x ++ rest) (gathered-append give xs ys) ∙ sym (append_assoc (give x) (gathered give xs) (gathered give ys))

pub of_case : (k j n : ℕ) (xs : List NewDeadline) (b : Bool) → (j == k) ≡ b → deadlines_of_case k (deadline_rows_from j n xs) ≡ cond b (deadline_rows_from j n xs) []
of_case k j n [] true e = refl
of_case k j n [] false e = refl
of_case k j n (x ∷ xs) true e =
    ap (λ t. cond t (record { case = j; number = n; party = x.party; rule = x.rule; initial = x.initial } ∷ deadlines_of_case k (deadline_rows_from j (n + 1) xs)) (deadlines_of_case k (deadline_rows_from j (n + 1) xs))) e
    ∙ ap (λ rows. record { case = j; number = n; party = x.party; rule = x.rule; initial = x.initial } ∷ rows) (of_case k j (n + 1) xs true e)
of_case k j n (x ∷ xs) false e =
    ap (λ t. cond t (record { case = j; number = n; party = x.party; rule = x.rule; initial = x.initial } ∷ deadlines_of_case k (deadline_rows_from j (n + 1) xs)) (deadlines_of_case k (deadline_rows_from j (n + 1) xs))) e
    ∙ of_case k j (n + 1) xs false e

deadlines_if : (b : Bool) (k j m n : ℕ) (xs : List NewDeadline) → (b ≡ true → j ≡ k) → (b ≡ true → m ≡ n) → cond b (deadline_rows_from j (m + 1) xs) [] ≡ deadline_rows_from k (n + 1) (if b then xs else [])
deadlines_if true k j m n xs here same = λ i. deadline_rows_from (here refl i) (same refl i + 1) xs
deadlines_if false k j m n xs here same = refl

abbrev pub nothing_by : Bool → List NewDeadline
nothing_by b = if b then [] else []

pub none_if : (b : Bool) → nothing_by b ≡ []
none_if true = refl
none_if false = refl

one_by : (k : ℕ) (rows : List DeadlineRow) (o : Option ℕ) (made : List NewDeadline) → (o ≡ None → made ≡ []) → deadlines_of_case k (deadline_rows_from (unwrap_or o 0) (length (deadlines_of_case (unwrap_or o 0) rows) + 1) made) ≡ deadline_rows_from k (length (deadlines_of_case k rows) + 1) (if is_number o k then made else [])
one_by k rows None made none = ap (λ xs. deadlines_of_case k (deadline_rows_from 0 (length (deadlines_of_case 0 rows) + 1) xs)) (none refl)
one_by k rows (Some j) made none =
    of_case k j _ made (j == k) refl
    ∙ deadlines_if (j == k) k j _ _ made (same_number j k) (λ e. ap (λ i. length (deadlines_of_case i rows)) (same_number j k e))

one_deadline : (k : ℕ) (rows : List DeadlineRow) (found : FoundRule) (a : Action) → deadlines_of_case k (new_deadlines found (length (deadlines_of_case (case_number a) rows)) a) ≡ deadline_rows_from k (length (deadlines_of_case k rows) + 1) (made_in k (found, a))
one_deadline k rows found a = one_by k rows (case_named a) (deadlines_made found a) (none_made found a)

pub deadlines_in_order : (k : ℕ) (h : History) → deadlines_of_case k (deadline_rows h) ≡ deadline_rows_from k 1 (gathered (made_in k) (asked_in_order h))
deadlines_in_order k [] = refl
deadlines_in_order k (c ∷ h) =
    let rows = deadline_rows h in
    let found = rule_found h c.action in
    let asked = gathered (made_in k) (asked_in_order h) in
    let was = deadlines_in_order k h in
    let count : length (deadlines_of_case k rows) + 1 ≡ 1 + length asked = omega (arith, ap length was, length-from k 1 asked) in
    filter-append (λ (row : DeadlineRow). row.case == k) rows (new_deadlines found (length (deadlines_of_case (case_number c.action) rows)) c.action)
    ∙ (λ i. was i ++ (one_deadline k rows found c.action ∙ ap (λ m. deadline_rows_from k m (made_in k (found, c.action))) count) i)
    ∙ sym (from-append k 1 asked (made_in k (found, c.action)))
    ∙ ap (deadline_rows_from k 1) (sym (gathered-append (made_in k) (asked_in_order h) ((found, c.action) ∷ []) ∙ ap (λ more. asked ++ more) (append-nil (made_in k (found, c.action)))))

-- the calendar
module _ {X : Type 0} (p : X → Bool) where
  single : (y x : X) → Contains (y ∷ []) x → y ≡ x
  single y x in_one = ⊎_elim (λ empty. absurd (let lt : empty.0 < 0 = empty.1 in omega (arith, lt))) (λ e. e) (Contains-push_cases [] y x in_one)

  kept_one : (b : Bool) (y x : X) (rest : List X) → b ≡ true → y ≡ x → Contains (cond b (y ∷ rest) rest) x
  kept_one true y x rest e same = subst (λ (z : X). Contains (z ∷ rest) x) (sym same) (Contains-append_left (x ∷ []) rest x (Contains-push [] x))
  kept_one false y x rest e same = absurd (cc)

  kept_rest : (b : Bool) (y x : X) (rest : List X) → Contains rest x → Contains (cond b (y ∷ rest) rest) x
  kept_rest true y x rest in_rest = Contains-append_right (y ∷ []) rest x in_rest
  kept_rest false y x rest in_rest = in_rest

  in_filter : (xs : List X) (x : X) → Contains xs x → p x ≡ true → Contains (filter p xs) x
  in_filter [] x in_all passes = in_all
  in_filter (y ∷ ys) x in_all passes =
      ⊎_elim
      (λ first. let same = single y x first in kept_one (p y) y x (filter p ys) (ap p same ∙ passes) same)
      (λ rest. kept_rest (p y) y x (filter p ys) (in_filter ys x rest passes))
      (Contains-append_cases (y ∷ []) ys x in_all)

  from_filter : (xs : List X) (x : X) → Contains (filter p xs) x → Contains xs x × (p x ≡ true)
  from_filter xs x in_some = (
    All-contains (Contains xs) (filter p xs) x (All-filter p (Contains xs) xs (All-contains_itself xs)) in_some,
    All-contains (λ (y : X). p y ≡ true) (filter p xs) x (filter_passes p xs) in_some,
  )

not_same : (m n : ℕ) → not (m == n) ≡ true → ¬ (Some n ≡ Some m)
not_same m n e same = let numbers : n ≡ m = cc in absurd (grind (arith, nat_tests, e, numbers))

other_test : (m n : ℕ) → ¬ (Some n ≡ Some m) → not (m == n) ≡ true
other_test m n apart = at (m == n) refl
  where
    at : (b : Bool) → (m == n) ≡ b → not b ≡ true
    at true e = absurd (apart (ap Some (sym (same_number m n e))))
    at false e = refl

kept_rows : (w : Option ℕ) (rows : List CalendarRow) (row : CalendarRow) → Contains (without_row w rows) row ↔ (Contains rows row × ¬ (w ≡ Some row.number))
kept_rows None rows row = (λ in_rows. (in_rows, λ e. cc), λ both. both.0)
kept_rows (Some number) rows row = (
  λ in_rows. let both = from_filter (λ (r : CalendarRow). not (r.number == number)) rows row in_rows in (both.0, not_same row.number number both.1),
  λ both. in_filter (λ (r : CalendarRow). not (r.number == number)) rows row both.0 (other_test row.number number both.1),
)

pub stands : (h : History) (row : CalendarRow) → Contains (standing_rows h) row → IsAddedAndKept h row
stands [] row (k, lt, e) = absurd (omega (arith, lt))
stands (c ∷ h) row in_all =
    ⊎_elim (λ was.
    let both = (kept_rows (row_withdrawn c.action) (standing_rows h) row).0 was in
    let before = stands h row both.0 in
    record {
      after = c ∷ before.after;
      command = before.command;
      before = before.before;
      history = ap (λ g. c ∷ g) before.history;
      added = before.added;
      kept = All-cons (λ (later : Command). ¬ (Withdraws row.number later)) c before.after both.1 before.kept;
    })
    (λ new. record { after = []; command = c; before = h; history = refl; added = new; kept = All-nil (λ (later : Command). ¬ (Withdraws row.number later)) })
    (Contains-append_cases (without_row (row_withdrawn c.action) (standing_rows h)) (calendar_added h c) row in_all)

still : (after : List Command) (c : Command) (before : History) (row : CalendarRow) → Contains (calendar_added before c) row → All (λ (later : Command). ¬ (Withdraws row.number later)) after → Contains (standing_rows (after ++ c ∷ before)) row
still [] c before row added kept = Contains-append_right (without_row (row_withdrawn c.action) (standing_rows before)) (calendar_added before c) row added
still (d ∷ after) c before row added kept =
    let P : Command → Type 0 = λ later. ¬ (Withdraws row.number later) in
    let was = still after c before row added (All-tail P d after kept) in
    Contains-append_left (without_row (row_withdrawn d.action) (standing_rows (after ++ c ∷ before))) (calendar_added (after ++ c ∷ before) d) row
    ((kept_rows (row_withdrawn d.action) (standing_rows (after ++ c ∷ before)) row).1 (was, All-head P d after kept))

pub kept_stands : (h : History) (row : CalendarRow) → IsAddedAndKept h row → Contains (standing_rows h) row
kept_stands h row is = subst (λ (g : History). Contains (standing_rows g) row) (sym is.history) (still is.after is.command is.before row is.added is.kept)
