-- The acts of a history in the order of their keys: a run for each deadline, in the order of deadlines.
use Rattle.std.proofs.Common.{◌≡◌, ◌∙◌, ℕ, suc, ◌+◌, ◌<◌, ◌≤◌, ◌==◌, ◌&&◌, ◌||◌, nat_le, Bool, true, false, cond, List, [], ◌∷◌, ◌++◌, map, flat_map, length, IsPermutation, refl, sym, ap, ap₂, subst, arith, append-nil, append_assoc}
use Rattle.std.proofs.lemmas.Bool.Decides.{nat_tests}
use Rattle.std.proofs.lemmas.Bool.{and_parts}
use Rattle.std.proofs.lemmas.Cmp.{on_total, tied_itself}
use Rattle.std.proofs.lemmas.List.{length-map}
use Rattle.std.proofs.lemmas.List.Elements.{filter_passes, recursion_from_All}
use Rattle.std.proofs.lemmas.List.Sorted.{list_any-IsPermutation}
use Rattle.std.specs.List.{AllByRecursion, list_any, list_all}
use Rattle.std.specs.Ordering.{nat_cmp, ordering_then}
use Rattle.std.specs.declared.cmp.Ordering.TheVariants.{Less, Equal}
use Rattle.sqlite_trees.proofs.ListLemmas.{all_of, all_weaker, all-map, all_from_map, all-flat_map, ascending_weaker, map-map}
use Rattle.sqlite_trees.specs.Tree.{IsAscending}
use Rattle.court_days.specs.Court.{CourtSettings, zone_of}
use Rattle.court_rules.specs.Acts.{acts_ok, is_within}
use Rattle.court_rules.specs.declared.act.Act.{Act}
use Rattle.docket_history.specs.Histories.{History, case_rows, deadline_rows, deadlines_of_case, act_rows, acts_of_deadline}
use Rattle.docket_decisions.specs.Outcomes.{IsHistory}
use Rattle.docket_history.specs.declared.row.ActRow.{ActRow}
use Rattle.docket_history.specs.declared.row.CaseRow.{CaseRow}
use Rattle.docket_history.specs.declared.row.DeadlineRow.{DeadlineRow}
use Rattle.docket_decisions.proofs.InOrderLemmas.{same_number}
use Rattle.docket_sound.specs.Acts.{AreSoundActs, IsSoundRun, are_lawful, is_on_entered_day}
use Rattle.docket_sound.specs.Deadlines.{deadline_key}
use Rattle.docket_sound.specs.Numbers.{Rises, RunsFrom, AreNumbered, IsOfCase, numbers_in}
use Rattle.docket_sound.specs.Orders.{AreInOrder, key_order, deadline_of, act_order, deadline_order}
use Rattle.docket_sound.specs.Runs.{Run, alone, is_on, with_row, runs_from, runs_of, run_key}
use Rattle.docket_sound.specs.declared.numbering.Key.{Key}
use Rattle.docket_sound.proofs.CaseLemmas.{long_numbers}
use Rattle.docket_sound.proofs.HistoryActs.{is_on_deadline, rows_on, IsThere, acts_numbered, acts_there, acts_lawful}
use Rattle.docket_sound.proofs.HistoryDeadlines.{sound_deadlines}
use Rattle.docket_sound.proofs.HistoryLemmas.{sound_cases}
use Rattle.docket_sound.proofs.NumberLemmas.{numbers_are}
use Rattle.docket_sound.proofs.OrderLemmas.{Ascends, IsApart, below, key_total, act_total, sorted_up, only_order, ascends_by, parted}
use Rattle.docket_sound.proofs.SortedRows.{runs_rise, all_of_case, up_case, still_numbered, count_alike}

-- numbers that run have each from the first to the last
any_number : (m n : ℕ) (ns : List ℕ) → RunsFrom n ns → n ≤ m → m < n + length ns → list_any (λ x. m == x) ns ≡ true
any_number m n [] runs low high = absurd (omega (arith, low, high))
any_number m n (x ∷ ns) runs low high = at (m == x) refl (λ more. any_number m (suc n) ns runs.1 more (omega (arith, high)))
  where
    at : (b : Bool) → (m == x) ≡ b → (suc n ≤ m → list_any (λ y. m == y) ns ≡ true) → (b || list_any (λ y. m == y) ns) ≡ true
    at true e later = refl
    at false e later =
        let apart : ¬ (m ≡ x) = λ same. absurd (grind (arith, nat_tests, e, same)) in
        later (omega (arith, low, apart, runs.0))

up_rises : (ns : List ℕ) → Rises ns → IsAscending (λ m n. m < n) ns
up_rises [] rises = tt
up_rises (n ∷ ns) rises = (rises.0, up_rises ns rises.1)

case_less : (a b : Key) → a.case < b.case → key_order a b ≡ Less
case_less a b lt = ap (λ o. ordering_then o (nat_cmp a.number b.number)) (below a.case b.case lt)

-- the rows on a deadline stand in order
all_on : (k n : ℕ) (rows : List ActRow) → AllByRecursion (λ row. is_on_deadline k n row ≡ true) (rows_on k n rows)
all_on k n rows = recursion_from_All (λ row. is_on_deadline k n row ≡ true) (rows_on k n rows) (filter_passes (is_on_deadline k n) rows)

key_is : (k n : ℕ) (row : ActRow) → is_on_deadline k n row ≡ true → deadline_of row ≡ record { case = k; number = n }
key_is k n row on =
    let case = same_number row.case k (and_parts (row.case == k) (row.deadline == n) on).0 in
    let deadline = same_number row.deadline n (and_parts (row.case == k) (row.deadline == n) on).1 in
    λ i. record { case = case i; number = deadline i }

module _ (k n : ℕ) where
  number_less : (r s : ActRow) → is_on_deadline k n r ≡ true → is_on_deadline k n s ≡ true → r.number < s.number → act_order r s ≡ Less
  number_less r s one other lt =
      let key : Key = record { case = k; number = n } in
      let same = ap₂ key_order (key_is k n r one) (key_is k n s other) ∙ tied_itself key_total key in
      ap (λ o. ordering_then o (nat_cmp r.number s.number)) same ∙ below r.number s.number lt

  before : (m : ℕ) (r : ActRow) (rows : List ActRow) → is_on_deadline k n r ≡ true → r.number < m → AllByRecursion (λ s. is_on_deadline k n s ≡ true) rows → RunsFrom m (map (λ (s : ActRow). s.number) rows)
      → AllByRecursion (λ s. act_order r s ≡ Less) rows
  before m r [] on lt all runs = tt
  before m r (s ∷ rows) on lt all runs = (number_less r s on all.0 (omega (arith, lt, runs.0)), before (suc m) r rows on (omega (arith, lt)) all.1 runs.1)

  up_on : (m : ℕ) (rows : List ActRow) → AllByRecursion (λ s. is_on_deadline k n s ≡ true) rows → RunsFrom m (map (λ (s : ActRow). s.number) rows) → Ascends act_order rows
  up_on m [] all runs = tt
  up_on m (r ∷ rows) all runs = (before (suc m) r rows all.0 (omega (arith, runs.0)) all.1 runs.1, up_on (suc m) rows all.1 runs.1)

-- a run takes the rows of its deadline, and ends at another
continues : (run : Run) (xs ys : List ActRow) → AllByRecursion (λ x. is_on run x ≡ true) xs → runs_from run (xs ++ ys) ≡ runs_from (record run { rows = run.rows ++ xs }) ys
continues run [] ys on = ap (λ rows. runs_from (record run { rows = rows }) ys) (sym (append-nil run.rows))
continues run (x ∷ xs) ys on =
    ap (λ b. cond b (runs_from (with_row run x) (xs ++ ys)) (run ∷ runs_from (alone x) (xs ++ ys))) on.0
    ∙ continues (with_row run x) xs ys on.1
    ∙ ap (λ rows. runs_from (record run { rows = rows }) ys) (append_assoc run.rows (x ∷ []) xs)

ends : (run : Run) (ys : List ActRow) → AllByRecursion (λ y. is_on run y ≡ false) ys → runs_from run ys ≡ run ∷ runs_of ys
ends run [] off = refl
ends run (y ∷ ys) off = ap (λ b. cond b (runs_from (with_row run y) ys) (run ∷ runs_from (alone y) ys)) off.0

one_run : (k n : ℕ) (rows rest : List ActRow) → 1 ≤ length rows → AllByRecursion (λ row. is_on_deadline k n row ≡ true) rows → AllByRecursion (λ row. is_on_deadline k n row ≡ false) rest
    → runs_of (rows ++ rest) ≡ (record { case = k; deadline = n; rows = rows }) ∷ runs_of rest
one_run k n [] rest some on off = absurd (omega (arith, some))
one_run k n (x ∷ xs) rest some on off =
    let case = same_number x.case k (and_parts (x.case == k) (x.deadline == n) on.0).0 in
    let deadline = same_number x.deadline n (and_parts (x.case == k) (x.deadline == n) on.0).1 in
    let first : Run = record { case = k; deadline = n; rows = x ∷ [] } in
    (λ i. runs_from (record { case = case i; deadline = deadline i; rows = x ∷ [] }) (xs ++ rest))
    ∙ continues first xs rest on.1
    ∙ ends (record { case = k; deadline = n; rows = x ∷ xs }) rest off

-- the rows on deadlines, one deadline after another
abbrev on_row : DeadlineRow → ActRow → Bool
on_row d row = is_on_deadline d.case d.number row

module _ (rows : List ActRow) where
  abbrev pub rows_of_one : DeadlineRow → List ActRow
  rows_of_one d = rows_on d.case d.number rows

  abbrev pub run_at : DeadlineRow → Run
  run_at d = record { case = d.case; deadline = d.number; rows = rows_of_one d }

  none_shared : (d e : DeadlineRow) → IsApart on_row d e → AllByRecursion (λ row. on_row d row ≡ false) (rows_of_one e)
  none_shared d e apart = all_weaker (λ row. on_row e row ≡ true) (λ row. on_row d row ≡ false) other (rows_of_one e) (all_on e.case e.number rows)
    where
      other : (row : ActRow) → on_row e row ≡ true → on_row d row ≡ false
      other row on = at (on_row d row) refl
        where
          at : (b : Bool) → on_row d row ≡ b → b ≡ false
          at true here = absurd (let clash : true ≡ false = sym on ∙ apart row here in cc)
          at false here = refl

  runs_by : (ds : List DeadlineRow) → IsAscending (IsApart on_row) ds → AllByRecursion (λ d. 1 ≤ length (rows_of_one d)) ds → runs_of (flat_map rows_of_one ds) ≡ map run_at ds
  runs_by [] apart some = refl
  runs_by (d ∷ ds) apart some =
      one_run d.case d.number (rows_of_one d) (flat_map rows_of_one ds) some.0 (all_on d.case d.number rows)
      (all-flat_map (λ row. on_row d row ≡ false) rows_of_one ds (all_weaker (IsApart on_row d) (λ e. AllByRecursion (λ row. on_row d row ≡ false) (rows_of_one e)) (λ e other. none_shared d e other) ds apart.0))
      ∙ ap (λ runs. run_at d ∷ runs) (runs_by ds apart.1 some.1)

-- deadlines in order are apart
apart_by : (d e : DeadlineRow) → deadline_order d e ≡ Less → IsApart on_row d e
apart_by d e lt row on = at (on_row e row) refl
  where
    at : (b : Bool) → on_row e row ≡ b → b ≡ false
    at true other =
        let same : deadline_key d ≡ deadline_key e = sym (key_is d.case d.number row on) ∙ key_is e.case e.number row other in
        absurd (let clash : Less ≡ Equal = sym lt ∙ ap (key_order (deadline_key d)) (sym same) ∙ tied_itself key_total (deadline_key d) in cc)
    at false other = refl

-- a deadline of a case is found by its number
any_in : (k n : ℕ) (ds : List DeadlineRow) → list_any (λ x. n == x) (map (λ (d : DeadlineRow). d.number) (deadlines_of_case k ds)) ≡ true → list_any (λ (d : DeadlineRow). k == d.case && n == d.number) ds ≡ true
any_in k n [] any = any
any_in k n (d ∷ ds) any = at (d.case == k) (n == d.number) refl refl any (any_in k n ds)
  where
    rest : List ℕ
    rest = map (λ (d : DeadlineRow). d.number) (deadlines_of_case k ds)

    later : Bool
    later = list_any (λ (d : DeadlineRow). k == d.case && n == d.number) ds

    turned : (d.case == k) ≡ true → (k == d.case) ≡ true
    turned e = grind (arith, nat_tests, e)

    or_true : (b : Bool) → later ≡ true → (b || later) ≡ true
    or_true true e = refl
    or_true false e = e

    at : (b c : Bool) → (d.case == k) ≡ b → (n == d.number) ≡ c → list_any (λ x. n == x) (map (λ (x : DeadlineRow). x.number) (cond b (d ∷ deadlines_of_case k ds) (deadlines_of_case k ds))) ≡ true
        → (list_any (λ x. n == x) rest ≡ true → later ≡ true) → (k == d.case && n == d.number || later) ≡ true
    at true true here same found more = ap₂ (λ x y. x && y || later) (turned here) same
    at true false here same found more = or_true (k == d.case && n == d.number) (more (ap (λ b. b || list_any (λ x. n == x) rest) (sym same) ∙ found))
    at false c here same found more = or_true (k == d.case && n == d.number) (more found)

-- the deadline is one of its case, by its number
abbrev IsPlaced : List DeadlineRow → DeadlineRow → Type 0
IsPlaced ds d = (1 ≤ d.number) × (d.number ≤ length (deadlines_of_case d.case ds))

placed_from : (ds : List DeadlineRow) (k m : ℕ) (some : List DeadlineRow) → AllByRecursion (λ d. (d.case == k) ≡ true) some → 1 ≤ m → RunsFrom m (map (λ (d : DeadlineRow). d.number) some) → m + length some ≤ length (deadlines_of_case k ds) + 1
    → AllByRecursion (IsPlaced ds) some
placed_from ds k m [] of low runs high = tt
placed_from ds k m (d ∷ some) of low runs high =
    let case = same_number d.case k of.0 in
    let most : length (deadlines_of_case d.case ds) ≡ length (deadlines_of_case k ds) = ap (λ j. length (deadlines_of_case j ds)) case in
    ((omega (arith, runs.0, low), omega (arith, runs.0, high, most)), placed_from ds k (suc m) some of.1 (omega (arith, low)) runs.1 (omega (arith, high)))

module _ (court : CourtSettings) (h : History) (is : IsHistory court h) where
  abbrev cases : ℕ
  cases = length (case_rows h)

  abbrev case_numbers : List ℕ
  case_numbers = map (λ (row : CaseRow). row.number) (case_rows h)

  -- the deadlines, case by case
  abbrev pub listed : List DeadlineRow
  listed = flat_map (λ k. deadlines_of_case k (deadline_rows h)) case_numbers

  numbered : AreNumbered cases 1000 (map deadline_key (deadline_rows h))
  numbered = (sound_deadlines court h is).numbered

  cases_run : RunsFrom 1 case_numbers
  cases_run = (sound_cases court h is).numbered

  cases_up : IsAscending (λ m n. m < n) case_numbers
  cases_up = up_rises case_numbers (runs_rise 1 case_numbers cases_run)

  has_case : (d : DeadlineRow) → IsOfCase cases (deadline_key d) → list_any (λ k. d.case == k) case_numbers ≡ true
  has_case d of = any_number d.case 1 case_numbers cases_run of.0 (omega (arith, of.1, long_numbers (case_rows h)))

  pub same_deadlines : IsPermutation (deadline_rows h) listed
  same_deadlines =
      parted (λ k (d : DeadlineRow). d.case == k) case_numbers (deadline_rows h)
      (ascending_weaker (λ m n. m < n) (IsApart (λ k (d : DeadlineRow). d.case == k)) (λ m n lt d on. grind (arith, nat_tests, lt, on)) case_numbers cases_up)
      (all_weaker (λ d. IsOfCase cases (deadline_key d)) (λ d. list_any (λ k. d.case == k) case_numbers ≡ true) has_case (deadline_rows h) (all_from_map (IsOfCase cases) deadline_key (deadline_rows h) numbered.met))

  across_cases : (j k : ℕ) → j < k → AllByRecursion (λ d. AllByRecursion (λ e. deadline_order d e ≡ Less) (deadlines_of_case k (deadline_rows h))) (deadlines_of_case j (deadline_rows h))
  across_cases j k lt =
      all_weaker (λ (d : DeadlineRow). (d.case == j) ≡ true) (λ d. AllByRecursion (λ e. deadline_order d e ≡ Less) (deadlines_of_case k (deadline_rows h)))
      (λ d one. all_weaker (λ (e : DeadlineRow). (e.case == k) ≡ true) (λ e. deadline_order d e ≡ Less)
      (λ e other. case_less (deadline_key d) (deadline_key e) (omega (arith, lt, same_number d.case j one, same_number e.case k other))) (deadlines_of_case k (deadline_rows h)) (all_of_case deadline_key k (deadline_rows h)))
      (deadlines_of_case j (deadline_rows h)) (all_of_case deadline_key j (deadline_rows h))

  pub deadlines_up : Ascends deadline_order listed
  deadlines_up =
      ascends_by (λ m n. m < n) (λ d e. deadline_order d e ≡ Less) (λ k. deadlines_of_case k (deadline_rows h)) across_cases case_numbers cases_up
      (all_of (λ k. Ascends deadline_order (deadlines_of_case k (deadline_rows h))) (λ k. up_case deadline_key k (deadline_rows h) (numbered.run k)) case_numbers)

  deadlines_apart : IsAscending (IsApart on_row) listed
  deadlines_apart = ascending_weaker (λ d e. deadline_order d e ≡ Less) (IsApart on_row) apart_by listed deadlines_up

  runs_in : (k : ℕ) → RunsFrom 1 (map (λ (d : DeadlineRow). d.number) (deadlines_of_case k (deadline_rows h)))
  runs_in k = subst (RunsFrom 1) (numbers_are deadline_key k (deadline_rows h)) (numbered.run k)

  listed_placed : AllByRecursion (IsPlaced (deadline_rows h)) listed
  listed_placed =
      all-flat_map (IsPlaced (deadline_rows h)) (λ k. deadlines_of_case k (deadline_rows h)) case_numbers
      (all_of (λ k. AllByRecursion (IsPlaced (deadline_rows h)) (deadlines_of_case k (deadline_rows h)))
      (λ k. placed_from (deadline_rows h) k 1 (deadlines_of_case k (deadline_rows h)) (all_of_case deadline_key k (deadline_rows h)) (omega arith) (runs_in k) (omega arith)) case_numbers)

  -- the acts, deadline by deadline
  has_deadline : (row : ActRow) → IsThere (deadline_rows h) row → list_any (λ d. on_row d row) listed ≡ true
  has_deadline row there =
      sym (list_any-IsPermutation (λ d. on_row d row) (deadline_rows h) listed same_deadlines)
      ∙ any_in row.case row.deadline (deadline_rows h)
      (any_number row.deadline 1 (map (λ (d : DeadlineRow). d.number) (deadlines_of_case row.case (deadline_rows h))) (runs_in row.case) there.0
      (omega (arith, there.1, length-map (deadlines_of_case row.case (deadline_rows h)) (λ (d : DeadlineRow). d.number))))

  abbrev acts_listed : List ActRow
  acts_listed = flat_map (rows_of_one (act_rows h)) listed

  same_acts : IsPermutation (act_rows h) acts_listed
  same_acts = parted on_row listed (act_rows h) deadlines_apart (all_weaker (IsThere (deadline_rows h)) (λ row. list_any (λ d. on_row d row) listed ≡ true) has_deadline (act_rows h) (acts_there court h is))

  across_deadlines : (d e : DeadlineRow) → deadline_order d e ≡ Less → AllByRecursion (λ r. AllByRecursion (λ s. act_order r s ≡ Less) (rows_of_one (act_rows h) e)) (rows_of_one (act_rows h) d)
  across_deadlines d e lt =
      all_weaker (λ r. on_row d r ≡ true) (λ r. AllByRecursion (λ s. act_order r s ≡ Less) (rows_of_one (act_rows h) e))
      (λ r one. all_weaker (λ s. on_row e s ≡ true) (λ s. act_order r s ≡ Less)
      (λ s other. ap (λ o. ordering_then o (nat_cmp r.number s.number)) (ap₂ key_order (key_is d.case d.number r one) (key_is e.case e.number s other) ∙ lt)) (rows_of_one (act_rows h) e) (all_on e.case e.number (act_rows h)))
      (rows_of_one (act_rows h) d) (all_on d.case d.number (act_rows h))

  acts_up : Ascends act_order acts_listed
  acts_up =
      ascends_by (λ d e. deadline_order d e ≡ Less) (λ r s. act_order r s ≡ Less) (rows_of_one (act_rows h)) across_deadlines listed deadlines_up
      (all_of (λ d. Ascends act_order (rows_of_one (act_rows h) d)) (λ d. up_on d.case d.number 1 (rows_of_one (act_rows h) d) (all_on d.case d.number (act_rows h)) (acts_numbered court h is d.case d.number)) listed)

  -- lawful acts are some
  some_acts : (acts : List Act) → are_lawful (zone_of court) acts ≡ true → 1 ≤ length acts
  some_acts acts lawful =
      let ok = (and_parts (acts_ok acts) (list_all (is_on_entered_day (zone_of court)) acts) lawful).0 in
      let within = (and_parts ((nat_le 1 (length acts) && nat_le (length acts) 100) && list_all is_within acts) _ ok).0 in
      let lengths = (and_parts (nat_le 1 (length acts) && nat_le (length acts) 100) (list_all is_within acts) within).0 in
      let least : nat_le 1 (length acts) ≡ true = (and_parts (nat_le 1 (length acts)) (nat_le (length acts) 100) lengths).0 in
      grind (arith, nat_tests, least)

  lawful_at : (d : DeadlineRow) → IsPlaced (deadline_rows h) d → are_lawful (zone_of court) (acts_of_deadline d.case d.number (act_rows h)) ≡ true
  lawful_at d place = acts_lawful court h is d.case d.number place.0 place.1

  some_rows : (d : DeadlineRow) → IsPlaced (deadline_rows h) d → 1 ≤ length (rows_of_one (act_rows h) d)
  some_rows d place = omega (arith, some_acts (acts_of_deadline d.case d.number (act_rows h)) (lawful_at d place), length-map (rows_of_one (act_rows h) d) (λ (row : ActRow). row.act))

  runs_listed : runs_of acts_listed ≡ map (run_at (act_rows h)) listed
  runs_listed = runs_by (act_rows h) listed deadlines_apart (all_weaker (IsPlaced (deadline_rows h)) (λ d. 1 ≤ length (rows_of_one (act_rows h) d)) some_rows listed listed_placed)

  pub deadlines_listed : AreInOrder deadline_order (deadline_rows h) listed
  deadlines_listed = record { same = same_deadlines; sorted = sorted_up deadline_order (on_total deadline_key key_total) listed deadlines_up }

  sound_run : (d : DeadlineRow) → IsPlaced (deadline_rows h) d → IsSoundRun (zone_of court) (run_at (act_rows h) d)
  sound_run d place = record { numbered = acts_numbered court h is d.case d.number; lawful = lawful_at d place }

  module _ (rows : List ActRow) (order : AreInOrder act_order (act_rows h) rows) where
    pub runs_are : runs_of rows ≡ map (run_at (act_rows h)) listed
    runs_are = ap runs_of (only_order act_order act_total (act_rows h) acts_listed rows acts_up same_acts order) ∙ runs_listed

    keys_are : map run_key (runs_of rows) ≡ map deadline_key listed
    keys_are = ap (map run_key) runs_are ∙ map-map run_key (run_at (act_rows h)) listed

    pub sorted_acts : AreSoundActs court cases (λ k. length (deadlines_of_case k (deadline_rows h))) rows
    sorted_acts = record {
      numbered = subst (AreNumbered cases 1000) (sym keys_are) (still_numbered deadline_key cases 1000 (deadline_rows h) listed numbered deadlines_listed);
      lawful = subst (AllByRecursion (IsSoundRun (zone_of court))) (sym runs_are)
          (all-map (IsSoundRun (zone_of court)) (run_at (act_rows h)) listed (all_weaker (IsPlaced (deadline_rows h)) (λ d. IsSoundRun (zone_of court) (run_at (act_rows h) d)) sound_run listed listed_placed));
      complete = λ k. ap (λ keys. length (numbers_in k keys)) keys_are ∙ count_alike deadline_key cases 1000 (deadline_rows h) listed numbered deadlines_listed k;
    }
