-- Acts that come one after another.
use Rattle.std.proofs.Common.{◌≡◌, ◌∙◌, ℕ, suc, ◌+◌, ◌-◌, ◌^◌, ◌<◌, ◌≤◌, ◌==◌, ◌&&◌, ◌||◌, not, nat_lt, nat_eq, Bool, true, false, cond, List, [], ◌∷◌, ◌++◌, map, length, get_or, refl, sym, ap, subst, arith, inl, inr, append-nil}
use Rattle.std.proofs.lemmas.Bool.{and_parts, cases_Bool, false≢true}
use Rattle.std.proofs.lemmas.Bool.Decides.{nat_tests}
use Rattle.std.proofs.lemmas.List.{length-append, map-append, append_assoc, length-map}
use Rattle.std.specs.List.{AllByRecursion, list_all}
use Rattle.civil_time.specs.Zone.{ZoneRules}
use Rattle.court_days.specs.Court.{CourtSettings, zone_of}
use Rattle.court_rules.specs.Acts.{acts_ok}
use Rattle.court_rules.specs.declared.act.Act.{Act}
use Rattle.docket_history.specs.declared.row.ActRow.{ActRow}
use Rattle.sqlite_trees.proofs.ListLemmas.{all-append}
use Rattle.docket_sound.specs.Acts.{are_lawful, is_on_entered_day, IsSoundRun, AreSoundActs, continues, may_go_on, may_close, begins, HasTakenActs}
use Rattle.docket_sound.specs.Counted.{counts_of, HasNumbered, cases_of, most_of}
use Rattle.docket_sound.specs.Dues.{last_dues, due_of_acts, dues_of_runs, dues_of}
use Rattle.docket_sound.specs.Runs.{Run, alone, is_on, with_row, runs_from, runs_of, run_key, closed_after, open_after}
use Rattle.docket_sound.specs.Standings.{counts_of_standings, last_standings, standing_of_run, standings_of_runs, standings_of}
use Rattle.docket_sound.specs.declared.standings.Standings.{Standings}
use Rattle.court_rules.specs.Standings.{standing}
use Rattle.court_rules.specs.declared.act.Standing.{Standing}
use Rattle.court_days.specs.Calendar.{Entered}
use Rattle.std.specs.Prelude.{Vec}
use Rattle.std.specs.declared.alloc.Global.{Global}
use Rattle.docket_decisions.specs.declared.end_row.StoredEnd.{StoredEnd}
use Rattle.docket_decisions.proofs.ListLemmas.{all_later}
use Rattle.docket_decisions.proofs.Passed.{few_acts}
use Rattle.docket_sound.specs.Numbers.{RunsFrom, AreNumbered}
use Rattle.docket_sound.specs.declared.act.ActCheck.{ActCheck}
use Rattle.docket_sound.specs.declared.numbering.Key.{Key}
use Rattle.docket_sound.specs.declared.numbering.Numbering.{Numbering}
use Rattle.docket_sound.proofs.NumberLemmas.{runs_more, runs_next}

-- rows in two parts
pub runs_split : (run : Run) (xs ys : List ActRow) → runs_from run (xs ++ ys) ≡ closed_after run xs ++ runs_from (open_after run xs) ys
runs_split run [] ys = refl
runs_split run (x ∷ xs) ys = at (is_on run x) (runs_split (with_row run x) xs ys) (runs_split (alone x) xs ys)
  where
    at : (b : Bool) → runs_from (with_row run x) (xs ++ ys) ≡ closed_after (with_row run x) xs ++ runs_from (open_after (with_row run x) xs) ys
        → runs_from (alone x) (xs ++ ys) ≡ closed_after (alone x) xs ++ runs_from (open_after (alone x) xs) ys
        → cond b (runs_from (with_row run x) (xs ++ ys)) (run ∷ runs_from (alone x) (xs ++ ys))
        ≡ cond b (closed_after (with_row run x) xs) (run ∷ closed_after (alone x) xs) ++ runs_from (cond b (open_after (with_row run x) xs) (open_after (alone x) xs)) ys
    at true same other = same
    at false same other = ap (λ l. run ∷ l) other

open_split : (run : Run) (xs ys : List ActRow) → open_after run (xs ++ ys) ≡ open_after (open_after run xs) ys
open_split run [] ys = refl
open_split run (x ∷ xs) ys = at (is_on run x) (open_split (with_row run x) xs ys) (open_split (alone x) xs ys)
  where
    at : (b : Bool) → open_after (with_row run x) (xs ++ ys) ≡ open_after (open_after (with_row run x) xs) ys → open_after (alone x) (xs ++ ys) ≡ open_after (open_after (alone x) xs) ys
        → cond b (open_after (with_row run x) (xs ++ ys)) (open_after (alone x) (xs ++ ys)) ≡ open_after (cond b (open_after (with_row run x) xs) (open_after (alone x) xs)) ys
    at true same other = same
    at false same other = other

closed_split : (run : Run) (xs ys : List ActRow) → closed_after run (xs ++ ys) ≡ closed_after run xs ++ closed_after (open_after run xs) ys
closed_split run [] ys = refl
closed_split run (x ∷ xs) ys = at (is_on run x) (closed_split (with_row run x) xs ys) (closed_split (alone x) xs ys)
  where
    at : (b : Bool) → closed_after (with_row run x) (xs ++ ys) ≡ closed_after (with_row run x) xs ++ closed_after (open_after (with_row run x) xs) ys
        → closed_after (alone x) (xs ++ ys) ≡ closed_after (alone x) xs ++ closed_after (open_after (alone x) xs) ys
        → cond b (closed_after (with_row run x) (xs ++ ys)) (run ∷ closed_after (alone x) (xs ++ ys))
        ≡ cond b (closed_after (with_row run x) xs) (run ∷ closed_after (alone x) xs) ++ closed_after (cond b (open_after (with_row run x) xs) (open_after (alone x) xs)) ys
    at true same other = same
    at false same other = ap (λ l. run ∷ l) other

-- a run under way has a row
some_rows : (run : Run) (xs : List ActRow) → 1 ≤ length run.rows → 1 ≤ length (open_after run xs).rows
some_rows run [] some = some
some_rows run (x ∷ xs) some = at (is_on run x) (some_rows (with_row run x) xs (omega (arith, length-append run.rows (x ∷ [])))) (some_rows (alone x) xs (omega arith))
  where
    at : (b : Bool) → 1 ≤ length (open_after (with_row run x) xs).rows → 1 ≤ length (open_after (alone x) xs).rows → 1 ≤ length (cond b (open_after (with_row run x) xs) (open_after (alone x) xs)).rows
    at true same other = same
    at false same other = other

-- the first run of those that begin with a run under way
pub record First (run : Run) (runs : List Run) : Type 0 where
  pub tail : List ActRow
  pub rest : List Run
  pub is : runs ≡ (record run { rows = run.rows ++ tail }) ∷ rest

first_run : (run : Run) (rows : List ActRow) → First run (runs_from run rows)
first_run run [] = record { tail = []; rest = []; is = ap (λ rs. (record run { rows = rs }) ∷ []) (sym (append-nil run.rows)) }
first_run run (x ∷ xs) = at (is_on run x) (first_run (with_row run x) xs)
  where
    at : (b : Bool) → First (with_row run x) (runs_from (with_row run x) xs) → First run (cond b (runs_from (with_row run x) xs) (run ∷ runs_from (alone x) xs))
    at true f = record { tail = x ∷ f.tail; rest = f.rest; is = f.is ∙ ap (λ rs. (record run { rows = rs }) ∷ f.rest) (append_assoc run.rows (x ∷ []) f.tail) }
    at false f = record { tail = []; rest = runs_from (alone x) xs; is = ap (λ rs. (record run { rows = rs }) ∷ runs_from (alone x) xs) (sym (append-nil run.rows)) }

-- lawful acts are at most a hundred
few_lawful : (zone : ZoneRules) (acts : List Act) → are_lawful zone acts ≡ true → length acts ≤ 100
few_lawful zone acts lawful = few_acts acts (and_parts (acts_ok acts) (list_all (is_on_entered_day zone) acts) lawful).0

same_key : (case deadline : ℕ) (run : Run) (row : ActRow) → case ≡ run.case → deadline ≡ run.deadline → (row.case == case && row.deadline == deadline) ≡ is_on run row
same_key case deadline run row c d = ap (λ k. row.case == k && row.deadline == deadline) c ∙ ap (λ n. row.case == run.case && row.deadline == n) d

runs_whole : (run : Run) (xs : List ActRow) → runs_from run xs ≡ closed_after run xs ++ open_after run xs ∷ []
runs_whole run xs = subst (λ l. runs_from run l ≡ closed_after run xs ++ open_after run xs ∷ []) (append-nil xs) (runs_split run xs [])

no_number : (n : ℕ) → 1 ≤ n → nat_eq n 0 ≡ false
no_number n some = grind (arith, nat_tests)

long_numbers : (rows : List ActRow) → length (map (λ (x : ActRow). x.number) rows) ≡ length rows
long_numbers rows = length-map rows (λ (x : ActRow). x.number)

-- the due rows of runs, in two parts
dues_both : (zone : ZoneRules) (entered : Entered) (xs ys : List Run) → dues_of_runs zone entered (xs ++ ys) ≡ dues_of_runs zone entered xs ++ dues_of_runs zone entered ys
dues_both zone entered [] ys = refl
dues_both zone entered (x ∷ xs) ys =
    ap (λ l. due_of_acts zone entered x.case x.deadline (map (λ (r : ActRow). r.act) x.rows) ++ l) (dues_both zone entered xs ys)
    ∙ sym (append_assoc (due_of_acts zone entered x.case x.deadline (map (λ (r : ActRow). r.act) x.rows)) (dues_of_runs zone entered xs) (dues_of_runs zone entered ys))

-- the closed runs are fewer than the rows
few_closed : (run : Run) (xs : List ActRow) → length (closed_after run xs) ≤ length xs
few_closed run [] = omega arith
few_closed run (x ∷ xs) = at (is_on run x) (few_closed (with_row run x) xs) (few_closed (alone x) xs)
  where
    at : (b : Bool) → length (closed_after (with_row run x) xs) ≤ length xs → length (closed_after (alone x) xs) ≤ length xs
        → length (cond b (closed_after (with_row run x) xs) (run ∷ closed_after (alone x) xs)) ≤ length (x ∷ xs)
    at true same other = omega (arith, same)
    at false same other = omega (arith, other)

-- the counts of standings with the run under way
abbrev pub CountsLast : ActCheck → Standings → Type 0
CountsLast check new =
    (l : List Standing) → check.standings ≡ counts_of_standings l → length l < 2 ^ 64 - 1 → new ≡ counts_of_standings (l ++ last_standings check)

-- what follows of rows that were taken
module _ (check : ActCheck) (r : ActRow) (rs : List ActRow) (row : ActRow) (has : HasTakenActs check (r ∷ rs)) where
  abbrev last : Run
  last = open_after (alone r) rs

  abbrev closed : List Run
  closed = closed_after (alone r) rs

  some : 1 ≤ length last.rows
  some = some_rows (alone r) rs (omega arith)

  count : length check.acts.items ≡ length last.rows
  count = ap length has.acts ∙ length-map last.rows (λ (x : ActRow). x.act)

  not_empty : nat_eq (length check.acts.items) 0 ≡ false
  not_empty = no_number (length check.acts.items) (omega (arith, some, count))

  pub on_last : continues check row ≡ is_on last row
  on_last = ap (λ b. not b && (row.case == check.case && row.deadline == check.deadline)) not_empty ∙ same_key check.case check.deadline last row has.case has.deadline

  -- the due row of the run under way
  pub last_is : last_dues check ≡ dues_of_runs (zone_of check.court) check.calendar (last ∷ [])
  last_is =
      ap (λ b. cond b [] (due_of_acts (zone_of check.court) check.calendar check.case check.deadline check.acts.items)) not_empty
      ∙ ap (λ k. due_of_acts (zone_of check.court) check.calendar k check.deadline check.acts.items) has.case
      ∙ ap (λ n. due_of_acts (zone_of check.court) check.calendar last.case n check.acts.items) has.deadline
      ∙ ap (due_of_acts (zone_of check.court) check.calendar last.case last.deadline) has.acts
      ∙ sym (append-nil (due_of_acts (zone_of check.court) check.calendar last.case last.deadline (map (λ (x : ActRow). x.act) last.rows)))

  last_stands : last_standings check ≡ standings_of_runs (zone_of check.court) check.calendar (last ∷ [])
  last_stands =
      ap (λ b. cond b [] (standing (zone_of check.court) check.calendar check.acts.items ∷ [])) not_empty
      ∙ ap (λ (acts : List Act). standing (zone_of check.court) check.calendar acts ∷ []) has.acts

  pub stand_all : (new : Standings) → CountsLast check new → length (r ∷ rs) < 2 ^ 64 → new ≡ counts_of_standings (standings_of_runs (zone_of check.court) check.calendar (closed ++ last ∷ []))
  stand_all new more few =
      let before = standings_of_runs (zone_of check.court) check.calendar closed in
      let short : length before < 2 ^ 64 - 1 = omega (arith, few, few_closed (alone r) rs, length-map closed (standing_of_run (zone_of check.court) check.calendar)) in
      more before (has.standings few) short ∙ ap (λ l. counts_of_standings (before ++ l)) last_stands
      ∙ ap counts_of_standings (sym (map-append (standing_of_run (zone_of check.court) check.calendar) closed (last ∷ [])))

  pub closes : may_close check ≡ are_lawful (zone_of check.court) (map (λ (x : ActRow). x.act) last.rows)
  closes = ap (λ b. b || are_lawful (zone_of check.court) check.acts.items) not_empty ∙ ap (are_lawful (zone_of check.court)) has.acts

  -- the runs of the rows with this one and more
  runs_on : (more : List ActRow) → is_on last row ≡ true → runs_from (alone r) (rs ++ row ∷ more) ≡ closed ++ runs_from (with_row last row) more
  runs_on more on = runs_split (alone r) rs (row ∷ more) ∙ ap (λ b. closed ++ cond b (runs_from (with_row last row) more) (last ∷ runs_from (alone row) more)) on

  runs_off : (more : List ActRow) → is_on last row ≡ false → runs_from (alone r) (rs ++ row ∷ more) ≡ closed ++ last ∷ runs_from (alone row) more
  runs_off more off = runs_split (alone r) rs (row ∷ more) ∙ ap (λ b. closed ++ cond b (runs_from (with_row last row) more) (last ∷ runs_from (alone row) more)) off

  keys_off : (more : List ActRow) → is_on last row ≡ false → map run_key (runs_from (alone r) (rs ++ row ∷ more)) ≡ map run_key (runs_of (r ∷ rs)) ++ map run_key (runs_from (alone row) more)
  keys_off more off =
      ap (map run_key) (runs_off more off ∙ sym (append_assoc closed (last ∷ []) (runs_from (alone row) more)) ∙ ap (λ l. l ++ runs_from (alone row) more) (sym (runs_whole (alone r) rs)))
      ∙ map-append run_key (runs_from (alone r) rs) (runs_from (alone row) more)

  pub act_fails : (more : List ActRow) → continues check row ≡ true → may_go_on check row ≡ false → AreSoundActs check.court (cases_of check.deadlines) (counts_of check.deadlines) (r ∷ (rs ++ row ∷ more)) → ⊥
  act_fails more on fail all =
      let here = sym on_last ∙ on in
      let first = first_run (with_row last row) more in
      let runs = runs_on more here ∙ ap (λ l. closed ++ l) first.is in
      let this = (all_later (IsSoundRun (zone_of check.court)) closed _ (subst (AllByRecursion (IsSoundRun (zone_of check.court))) runs all.lawful)).0 in
      let numbers = subst (RunsFrom 1) (ap (map (λ (x : ActRow). x.number)) (append_assoc last.rows (row ∷ []) first.tail) ∙ map-append (λ (x : ActRow). x.number) last.rows (row ∷ first.tail)) this.numbered in
      let next = runs_next 1 (map (λ (x : ActRow). x.number) last.rows) row.number (map (λ (x : ActRow). x.number) first.tail) numbers in
      let few = few_lawful (zone_of check.court) (map (λ (x : ActRow). x.act) ((last.rows ++ row ∷ []) ++ first.tail)) this.lawful in
      let long : length (map (λ (x : ActRow). x.act) ((last.rows ++ row ∷ []) ++ first.tail)) ≡ length last.rows + 1 + length first.tail =
      length-map ((last.rows ++ row ∷ []) ++ first.tail) (λ (x : ActRow). x.act) ∙ length-append (last.rows ++ row ∷ []) first.tail ∙ ap (λ n. n + length first.tail) (length-append last.rows (row ∷ [])) in
      let room : nat_lt (length check.acts.items) 100 ≡ true = grind (arith, nat_tests, count, few, long) in
      let number : (row.number == length check.acts.items + 1) ≡ true = grind (arith, nat_tests, count, next, long_numbers last.rows) in
      false≢true (sym fail ∙ rw (room, number) refl)

  pub close_fails : (more : List ActRow) → continues check row ≡ false → may_close check ≡ false → AreSoundActs check.court (cases_of check.deadlines) (counts_of check.deadlines) (r ∷ (rs ++ row ∷ more)) → ⊥
  close_fails more off fail all =
      let there = sym on_last ∙ off in
      let this = (all_later (IsSoundRun (zone_of check.court)) closed _ (subst (AllByRecursion (IsSoundRun (zone_of check.court))) (runs_off more there) all.lawful)).0 in
      false≢true (sym fail ∙ closes ∙ this.lawful)

  pub begin_fails : (more : List ActRow) → continues check row ≡ false → begins row ≡ false → AreSoundActs check.court (cases_of check.deadlines) (counts_of check.deadlines) (r ∷ (rs ++ row ∷ more)) → ⊥
  begin_fails more off fail all =
      let there = sym on_last ∙ off in
      let first = first_run (alone row) more in
      let those = all_later (IsSoundRun (zone_of check.court)) closed _ (subst (AllByRecursion (IsSoundRun (zone_of check.court))) (runs_off more there ∙ ap (λ l. closed ++ last ∷ l) first.is) all.lawful) in
      let one : row.number ≡ 1 = those.1.0.numbered.0 in
      let is : begins row ≡ true = grind (arith, nat_tests, one) in
      false≢true (sym fail ∙ is)

  pub key_fails : (more : List ActRow) → continues check row ≡ false → ((keys : List Key) → AreNumbered (cases_of check.deadlines) 1000 (map run_key (runs_of (r ∷ rs)) ++ run_key (alone row) ∷ keys) → ⊥)
      → AreSoundActs check.court (cases_of check.deadlines) (counts_of check.deadlines) (r ∷ (rs ++ row ∷ more)) → ⊥
  key_fails more off fails all =
      let there = sym on_last ∙ off in
      let first = first_run (alone row) more in
      let keys = keys_off more there ∙ ap (λ l. map run_key (runs_of (r ∷ rs)) ++ map run_key l) first.is in
      fails (map run_key first.rest) (subst (AreNumbered (cases_of check.deadlines) 1000) keys all.numbered)

  pub act_taken : (new : ActCheck) → new.court ≡ check.court → new.deadlines ≡ check.deadlines → new.runs ≡ check.runs → new.case ≡ check.case → new.deadline ≡ check.deadline → new.calendar ≡ check.calendar → new.dues ≡ check.dues → new.standings ≡ check.standings
      → new.acts.items ≡ check.acts.items ++ row.act ∷ [] → continues check row ≡ true → may_go_on check row ≡ true → HasTakenActs new (r ∷ (rs ++ row ∷ []))
  act_taken new court deadlines runs case deadline calendar dues standings acts on goes =
      let here = sym on_last ∙ on in
      let now : open_after (alone r) (rs ++ row ∷ []) ≡ with_row last row = open_split (alone r) rs (row ∷ []) ∙ ap (λ b. cond b (with_row last row) (alone row)) here in
      let shut : closed_after (alone r) (rs ++ row ∷ []) ≡ closed = closed_split (alone r) rs (row ∷ []) ∙ ap (λ b. closed ++ cond b [] (last ∷ [])) here ∙ append-nil closed in
      let keys : map run_key (runs_from (alone r) (rs ++ row ∷ [])) ≡ map run_key (runs_from (alone r) rs) =
      ap (map run_key) (runs_on [] here) ∙ map-append run_key closed (with_row last row ∷ []) ∙ sym (map-append run_key closed (last ∷ [])) ∙ ap (map run_key) (sym (runs_whole (alone r) rs)) in
      let number : row.number ≡ length check.acts.items + 1 = grind (arith, nat_tests, (and_parts (nat_lt (length check.acts.items) 100) (row.number == length check.acts.items + 1) goes).1) in
      record {
        most = ap most_of runs ∙ has.most;
        cases = ap cases_of runs ∙ has.cases ∙ sym (ap cases_of deadlines);
        made = ap (λ (n : Numbering). length n.counts.items) deadlines ∙ has.made ∙ sym (ap (λ (n : Numbering). cases_of n + 1) deadlines);
        acts = acts ∙ ap (λ l. l ++ row.act ∷ []) has.acts ∙ sym (ap (λ (run : Run). map (λ (x : ActRow). x.act) run.rows) now ∙ map-append (λ (x : ActRow). x.act) last.rows (row ∷ []));
        case = case ∙ has.case ∙ sym (ap (λ (run : Run). run.case) now);
        deadline = deadline ∙ has.deadline ∙ sym (ap (λ (run : Run). run.deadline) now);
        numbered = subst (RunsFrom 1) (sym (ap (λ (run : Run). map (λ (x : ActRow). x.number) run.rows) now ∙ map-append (λ (x : ActRow). x.number) last.rows (row ∷ [])))
            (runs_more 1 (map (λ (x : ActRow). x.number) last.rows) row.number has.numbered (omega (arith, number, count, long_numbers last.rows)));
        runs = subst (λ n. HasNumbered n (map run_key (runs_from (alone r) (rs ++ row ∷ [])))) (sym runs) (subst (HasNumbered check.runs) (sym keys) has.runs);
        lawful = subst (λ (k : CourtSettings). AllByRecursion (IsSoundRun (zone_of k)) (closed_after (alone r) (rs ++ row ∷ []))) (sym court)
            (subst (AllByRecursion (IsSoundRun (zone_of check.court))) (sym shut) has.lawful);
        dues = ap (λ (v : Vec StoredEnd Global). v.items) dues ∙ has.dues ∙ ap (dues_of_runs (zone_of check.court) check.calendar) (sym shut)
            ∙ ap (λ (k : CourtSettings). dues_of_runs (zone_of k) check.calendar (closed_after (alone r) (rs ++ row ∷ []))) (sym court)
            ∙ ap (λ (e : Entered). dues_of_runs (zone_of new.court) e (closed_after (alone r) (rs ++ row ∷ []))) (sym calendar);
        standings = λ few. standings ∙ has.standings (omega (arith, few, length-append rs (row ∷ [])))
            ∙ ap (λ l. counts_of_standings (standings_of_runs (zone_of check.court) check.calendar l)) (sym shut)
            ∙ ap (λ (k : CourtSettings). counts_of_standings (standings_of_runs (zone_of k) check.calendar (closed_after (alone r) (rs ++ row ∷ [])))) (sym court)
            ∙ ap (λ (e : Entered). counts_of_standings (standings_of_runs (zone_of new.court) e (closed_after (alone r) (rs ++ row ∷ [])))) (sym calendar);
      }

  pub begin_taken : (new : ActCheck) → new.court ≡ check.court → new.deadlines ≡ check.deadlines → most_of new.runs ≡ most_of check.runs → cases_of new.runs ≡ cases_of check.runs
      → HasNumbered new.runs (map run_key (runs_of (r ∷ rs)) ++ run_key (alone row) ∷ []) → new.case ≡ row.case → new.deadline ≡ row.deadline → new.calendar ≡ check.calendar → new.dues.items ≡ check.dues.items ++ last_dues check
      → CountsLast check new.standings → new.acts.items ≡ row.act ∷ [] → continues check row ≡ false → may_close check ≡ true → begins row ≡ true → HasTakenActs new (r ∷ (rs ++ row ∷ []))
  begin_taken new court deadlines most cases runs case deadline calendar dues standings acts off closed_well one =
      let there = sym on_last ∙ off in
      let now : open_after (alone r) (rs ++ row ∷ []) ≡ alone row = open_split (alone r) rs (row ∷ []) ∙ ap (λ b. cond b (with_row last row) (alone row)) there in
      let shut : closed_after (alone r) (rs ++ row ∷ []) ≡ closed ++ last ∷ [] = closed_split (alone r) rs (row ∷ []) ∙ ap (λ b. closed ++ cond b [] (last ∷ [])) there in
      let first : row.number ≡ 1 = grind (arith, nat_tests, one) in
      let this : IsSoundRun (zone_of check.court) last = record { numbered = has.numbered; lawful = sym closes ∙ closed_well } in
      record {
        most = most ∙ has.most;
        cases = cases ∙ has.cases ∙ sym (ap cases_of deadlines);
        made = ap (λ (n : Numbering). length n.counts.items) deadlines ∙ has.made ∙ sym (ap (λ (n : Numbering). cases_of n + 1) deadlines);
        acts = acts ∙ sym (ap (λ (run : Run). map (λ (x : ActRow). x.act) run.rows) now);
        case = case ∙ sym (ap (λ (run : Run). run.case) now);
        deadline = deadline ∙ sym (ap (λ (run : Run). run.deadline) now);
        numbered = subst (λ (run : Run). RunsFrom 1 (map (λ (x : ActRow). x.number) run.rows)) (sym now) (first, tt);
        runs = subst (HasNumbered new.runs) (sym (keys_off [] there)) runs;
        lawful = subst (λ (k : CourtSettings). AllByRecursion (IsSoundRun (zone_of k)) (closed_after (alone r) (rs ++ row ∷ []))) (sym court)
            (subst (AllByRecursion (IsSoundRun (zone_of check.court))) (sym shut) (all-append (IsSoundRun (zone_of check.court)) closed (last ∷ []) has.lawful (this, tt)));
        dues = dues ∙ ap (λ l. l ++ last_dues check) has.dues ∙ ap (λ l. dues_of_runs (zone_of check.court) check.calendar closed ++ l) last_is
            ∙ sym (dues_both (zone_of check.court) check.calendar closed (last ∷ [])) ∙ ap (dues_of_runs (zone_of check.court) check.calendar) (sym shut)
            ∙ ap (λ (k : CourtSettings). dues_of_runs (zone_of k) check.calendar (closed_after (alone r) (rs ++ row ∷ []))) (sym court)
            ∙ ap (λ (e : Entered). dues_of_runs (zone_of new.court) e (closed_after (alone r) (rs ++ row ∷ []))) (sym calendar);
        standings = λ few. stand_all new.standings standings (omega (arith, few, length-append rs (row ∷ [])))
            ∙ ap (λ l. counts_of_standings (standings_of_runs (zone_of check.court) check.calendar l)) (sym shut)
            ∙ ap (λ (k : CourtSettings). counts_of_standings (standings_of_runs (zone_of k) check.calendar (closed_after (alone r) (rs ++ row ∷ [])))) (sym court)
            ∙ ap (λ (e : Entered). counts_of_standings (standings_of_runs (zone_of new.court) e (closed_after (alone r) (rs ++ row ∷ [])))) (sym calendar);
      }

-- the same, also where no row was taken yet
none_continues : (check : ActCheck) (row : ActRow) → HasTakenActs check [] → continues check row ≡ false
none_continues check row has = ap (λ (acts : List Act). not (nat_eq (length acts) 0) && (row.case == check.case && row.deadline == check.deadline)) has.acts

one_off : (a b : Bool) → (a && b) ≡ false → a ≡ true → b ≡ false
one_off true b e is = e
one_off false b e is = absurd cc

pub go_refused : (check : ActCheck) (rows : List ActRow) (row : ActRow) (more : List ActRow) → HasTakenActs check rows → continues check row ≡ true → may_go_on check row ≡ false
    → AreSoundActs check.court (cases_of check.deadlines) (counts_of check.deadlines) (rows ++ row ∷ more) → ⊥
go_refused check [] row more has on fail all = false≢true (sym (none_continues check row has) ∙ on)
go_refused check (r ∷ rs) row more has on fail all = act_fails check r rs row has more on fail all

pub begin_refused : (check : ActCheck) (rows : List ActRow) (row : ActRow) (more : List ActRow) → HasTakenActs check rows → continues check row ≡ false → (may_close check && begins row) ≡ false
    → AreSoundActs check.court (cases_of check.deadlines) (counts_of check.deadlines) (rows ++ row ∷ more) → ⊥
begin_refused check [] row more has off fail all =
    let first = first_run (alone row) more in
    let those = subst (AllByRecursion (IsSoundRun (zone_of check.court))) first.is all.lawful in
    let one : row.number ≡ 1 = those.0.numbered.0 in
    let is : begins row ≡ true = grind (arith, nat_tests, one) in
    let shut : may_close check ≡ true = ap (λ (acts : List Act). nat_eq (length acts) 0 || are_lawful (zone_of check.court) acts) has.acts in
    false≢true (sym (one_off (may_close check) (begins row) fail shut) ∙ is)
begin_refused check (r ∷ rs) row more has off fail all = elim (cases_Bool (may_close check)) [
  | inl shut ↦ begin_fails check r rs row has more off (one_off (may_close check) (begins row) fail shut) all
  | inr unlawful ↦ close_fails check r rs row has more off unlawful all
]

pub key_refused : (check : ActCheck) (rows : List ActRow) (row : ActRow) (more : List ActRow) → HasTakenActs check rows → continues check row ≡ false
    → ((keys : List Key) → AreNumbered (cases_of check.deadlines) 1000 (map run_key (runs_of rows) ++ run_key (alone row) ∷ keys) → ⊥)
    → AreSoundActs check.court (cases_of check.deadlines) (counts_of check.deadlines) (rows ++ row ∷ more) → ⊥
key_refused check [] row more has off fails all =
    let first = first_run (alone row) more in
    fails (map run_key first.rest) (subst (λ (l : List Run). AreNumbered (cases_of check.deadlines) 1000 (map run_key l)) first.is all.numbered)
key_refused check (r ∷ rs) row more has off fails all = key_fails check r rs row has more off fails all

pub go_taken : (check : ActCheck) (rows : List ActRow) (row : ActRow) (new : ActCheck) → HasTakenActs check rows → new.court ≡ check.court → new.deadlines ≡ check.deadlines → new.runs ≡ check.runs
    → new.case ≡ check.case → new.deadline ≡ check.deadline → new.calendar ≡ check.calendar → new.dues ≡ check.dues → new.standings ≡ check.standings → new.acts.items ≡ check.acts.items ++ row.act ∷ [] → continues check row ≡ true → may_go_on check row ≡ true → HasTakenActs new (rows ++ row ∷ [])
go_taken check [] row new has court deadlines runs case deadline calendar dues standings acts on goes = absurd (false≢true (sym (none_continues check row has) ∙ on))
go_taken check (r ∷ rs) row new has court deadlines runs case deadline calendar dues standings acts on goes = act_taken check r rs row has new court deadlines runs case deadline calendar dues standings acts on goes

none_yet : (check : ActCheck) → check.acts.items ≡ [] → last_dues check ≡ []
none_yet check empty = ap (λ (acts : List Act). cond (nat_eq (length acts) 0) [] (due_of_acts (zone_of check.court) check.calendar check.case check.deadline acts)) empty

none_stands : (check : ActCheck) → check.acts.items ≡ [] → last_standings check ≡ []
none_stands check empty = ap (λ (acts : List Act). cond (nat_eq (length acts) 0) [] (standing (zone_of check.court) check.calendar acts ∷ [])) empty

pub new_taken : (check : ActCheck) (rows : List ActRow) (row : ActRow) (new : ActCheck) → HasTakenActs check rows → new.court ≡ check.court → new.deadlines ≡ check.deadlines → most_of new.runs ≡ most_of check.runs
    → cases_of new.runs ≡ cases_of check.runs → HasNumbered new.runs (map run_key (runs_of rows) ++ run_key (alone row) ∷ []) → new.case ≡ row.case → new.deadline ≡ row.deadline → new.calendar ≡ check.calendar → new.dues.items ≡ check.dues.items ++ last_dues check
    → CountsLast check new.standings → new.acts.items ≡ row.act ∷ [] → continues check row ≡ false → (may_close check && begins row) ≡ true → HasTakenActs new (rows ++ row ∷ [])
new_taken check [] row new has court deadlines most cases runs case deadline calendar dues standings acts off passes =
    let first : row.number ≡ 1 = grind (arith, nat_tests, (and_parts (may_close check) (begins row) passes).1) in
    record {
      most = most ∙ has.most;
      cases = cases ∙ has.cases ∙ sym (ap cases_of deadlines);
      made = ap (λ (n : Numbering). length n.counts.items) deadlines ∙ has.made ∙ sym (ap (λ (n : Numbering). cases_of n + 1) deadlines);
      acts = acts;
      case = case;
      deadline = deadline;
      numbered = (first, tt);
      runs = runs;
      lawful = tt;
      dues = dues ∙ ap (λ l. l ++ last_dues check) has.dues ∙ none_yet check has.acts;
      standings = λ few. standings [] (has.standings (omega arith)) (omega arith) ∙ ap counts_of_standings (none_stands check has.acts);
    }
new_taken check (r ∷ rs) row new has court deadlines most cases runs case deadline calendar dues standings acts off passes =
    let parts = and_parts (may_close check) (begins row) passes in
    begin_taken check r rs row has new court deadlines most cases runs case deadline calendar dues standings acts off parts.0 parts.1

-- where all rows were taken
same_items : (xs ys : List ℕ) → length xs ≡ length ys → ((k : ℕ) → get_or xs k 0 ≡ get_or ys k 0) → xs ≡ ys
same_items [] [] long each = refl
same_items [] (y ∷ ys) long each = absurd (omega (arith, long))
same_items (x ∷ xs) [] long each = absurd (omega (arith, long))
same_items (x ∷ xs) (y ∷ ys) long each =
    let here : x ≡ y = each 0 in
    ap (λ z. z ∷ xs) here ∙ ap (λ l. y ∷ l) (same_items xs ys (omega (arith, long)) (λ k. each (suc k)))

module _ (check : ActCheck) where
  all_lawful : (rows : List ActRow) → HasTakenActs check rows → may_close check ≡ true → AllByRecursion (IsSoundRun (zone_of check.court)) (runs_of rows)
  all_lawful [] has shut = tt
  all_lawful (r ∷ rs) has shut =
      let this : IsSoundRun (zone_of check.court) (open_after (alone r) rs) = record { numbered = has.numbered; lawful = sym (closes check r rs r has) ∙ shut } in
      subst (AllByRecursion (IsSoundRun (zone_of check.court))) (sym (runs_whole (alone r) rs)) (all-append (IsSoundRun (zone_of check.court)) (closed_after (alone r) rs) (open_after (alone r) rs ∷ []) has.lawful (this, tt))

  pub finished : (rows : List ActRow) → HasTakenActs check rows → may_close check ≡ true → check.runs.counts.items ≡ check.deadlines.counts.items
      → AreSoundActs check.court (cases_of check.deadlines) (counts_of check.deadlines) rows
  finished rows has shut same = record {
    numbered = subst (λ (m : ℕ). AreNumbered (cases_of check.deadlines) m (map run_key (runs_of rows))) has.most (subst (λ (n : ℕ). AreNumbered n (most_of check.runs) (map run_key (runs_of rows))) has.cases has.runs.numbered);
    lawful = all_lawful rows has shut;
    complete = λ k. sym (has.runs.counted k) ∙ ap (λ (l : List ℕ). get_or l k 0) same;
  }

  pub complete_counts : (rows : List ActRow) → HasTakenActs check rows → AreSoundActs check.court (cases_of check.deadlines) (counts_of check.deadlines) rows → check.runs.counts.items ≡ check.deadlines.counts.items
  complete_counts rows has all =
      same_items check.runs.counts.items check.deadlines.counts.items (omega (arith, has.runs.made, has.made, has.cases)) (λ k. has.runs.counted k ∙ all.complete k)

  pub lawful_close : (rows : List ActRow) → HasTakenActs check rows → AreSoundActs check.court (cases_of check.deadlines) (counts_of check.deadlines) rows → may_close check ≡ true
  lawful_close [] has all = ap (λ (acts : List Act). nat_eq (length acts) 0 || are_lawful (zone_of check.court) acts) has.acts
  lawful_close (r ∷ rs) has all =
      let runs = subst (AllByRecursion (IsSoundRun (zone_of check.court))) (runs_whole (alone r) rs) all.lawful in
      let this = (all_later (IsSoundRun (zone_of check.court)) (closed_after (alone r) rs) (open_after (alone r) rs ∷ []) runs).0 in
      closes check r rs r has ∙ this.lawful

  pub all_dues : (rows : List ActRow) → HasTakenActs check rows → check.dues.items ++ last_dues check ≡ dues_of (zone_of check.court) check.calendar rows
  all_dues [] has = ap (λ l. l ++ last_dues check) has.dues ∙ none_yet check has.acts
  all_dues (r ∷ rs) has =
      ap (λ l. l ++ last_dues check) has.dues ∙ ap (λ l. dues_of_runs (zone_of check.court) check.calendar (closed_after (alone r) rs) ++ l) (last_is check r rs r has)
      ∙ sym (dues_both (zone_of check.court) check.calendar (closed_after (alone r) rs) (open_after (alone r) rs ∷ [])) ∙ ap (dues_of_runs (zone_of check.court) check.calendar) (sym (runs_whole (alone r) rs))

  pub all_standings : (rows : List ActRow) → HasTakenActs check rows → length rows < 2 ^ 64 → (new : Standings) → CountsLast check new → new ≡ counts_of_standings (standings_of (zone_of check.court) check.calendar rows)
  all_standings [] has few new more = more [] (has.standings few) (omega arith) ∙ ap counts_of_standings (none_stands check has.acts)
  all_standings (r ∷ rs) has few new more =
      stand_all check r rs r has new more few ∙ ap (λ l. counts_of_standings (standings_of_runs (zone_of check.court) check.calendar l)) (sym (runs_whole (alone r) rs))
