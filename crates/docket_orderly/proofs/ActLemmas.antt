-- The acts of a docket.
use Rattle.std.proofs.Common.{◌≡◌, ◌⊎◌, inl, inr, ⊎_elim, ℕ, suc, ◌+◌, ◌<◌, ◌≤◌, Bool, true, false, ◌&&◌, cond, Option, Some, None, List, [], ◌∷◌, ◌++◌, map, length, refl, sym, ap, subst, ◌∙◌, arith, append-nil, append_assoc}
use Rattle.std.specs.Prelude.{◌==◌, nat_le, unwrap_or}
use Rattle.std.specs.List.{AllByRecursion}
use Rattle.std.proofs.lemmas.Bool.Decides.{nat_tests}
use Rattle.std.proofs.lemmas.Bool.{and_parts, and_right}
use Rattle.std.proofs.lemmas.List.{map-append, length-map}
use Rattle.std.proofs.lemmas.List.Elements.{filter-append}
use Rattle.court_days.specs.Court.{CourtSettings}
use Rattle.court_rules.specs.declared.act.Act.{Act}
use Rattle.docket_command.specs.declared.command.Action.{Action}
use Rattle.docket_history.specs.Actions.{deadline_named, deadlines_made, acts_made}
use Rattle.docket_history.specs.Histories.{History, case_number, deadline_number, deadline_rows, deadlines_of_case, act_rows, acts_of_deadline, first_acts, first_acts_from, later_acts, act_rows_on, rule_found}
use Rattle.docket_decisions.specs.Outcomes.{IsHistory}
use Rattle.docket_history.specs.declared.row.ActRow.{ActRow}
use Rattle.docket_decisions.proofs.InOrderLemmas.{same_number}
use Rattle.docket_history.proofs.Asked.{none_acted, none_acted_in}
use Rattle.docket_decisions.proofs.Leading.{seen}
use Rattle.docket_decisions.proofs.LimitsKept.{IsPassed, passed, all_kept, there_is, named_there, within_limits}
use Rattle.docket_decisions.proofs.Passed.{few_acts}
use Rattle.docket_decisions.proofs.ListLemmas.{all_both}
use Rattle.docket_wire.specs.Valid.{IsCommand}
use Rattle.docket_columns.specs.Fits.{IsCount, IsAct, IsActRow}
use Rattle.docket_orderly.specs.Orderly.{RunsFrom, acts_on}
use Rattle.docket_orderly.proofs.ActionLemmas.{NewDeadline, IsMaking, case_counts, deadline_counts, deadlines_fine, deadlines_few, acts_fine, acts_few}
use Rattle.docket_orderly.proofs.ListLemmas.{runs_both}
use Rattle.docket_orderly.proofs.LocalRuleLemmas.{found_for}

-- a number is that of one of so many, or of none
placed : (n count : ℕ) → ((n ≡ 0) ⊎ (count < n)) ⊎ ((1 ≤ n) × (n ≤ count))
placed n count = at (nat_le 1 n) (nat_le n count) refl refl
  where
    at : (b c : Bool) → nat_le 1 n ≡ b → nat_le n count ≡ c → ((n ≡ 0) ⊎ (count < n)) ⊎ ((1 ≤ n) × (n ≤ count))
    at true true low high = inr (grind (arith, nat_tests, low), grind (arith, nat_tests, high))
    at true false low high = inl (inr (grind (arith, nat_tests, high)))
    at false c low high = inl (inl (grind (arith, nat_tests, low)))

few_of_deadline : (court : CourtSettings) (h : History) → IsHistory court h → (k n : ℕ) → length (acts_of_deadline k n (act_rows h)) ≤ 100
few_of_deadline court h is k n =
    ⊎_elim
    (λ none. omega (arith, ap length ((all_kept court h is k n).absent none)))
    (λ there. few_acts (acts_of_deadline k n (act_rows h)) ((all_kept court h is k n).sound there.0 there.1).lawful.0)
    (placed n (length (deadlines_of_case k (deadline_rows h))))

-- first acts and later ones
firsts_held : (k n : ℕ) (made : List NewDeadline) → IsCount k → n + length made ≤ 4_294_967_296 → AllByRecursion IsMaking made → AllByRecursion IsActRow (first_acts_from k n made)
firsts_held k n [] count few all = tt
firsts_held k n (d ∷ made) count few all = ((count, omega (arith, few), omega arith, all.0.first), firsts_held k (n + 1) made count (omega (arith, few)) all.1)

later_held : (k n m : ℕ) (acts : List Act) → IsCount k → IsCount n → m + length acts ≤ 4_294_967_296 → AllByRecursion IsAct acts → AllByRecursion IsActRow (act_rows_on k n m acts)
later_held k n m [] case deadline few all = tt
later_held k n m (act ∷ acts) case deadline few all = ((case, deadline, omega (arith, few), all.0), later_held k n (m + 1) acts case deadline (omega (arith, few)) all.1)

pub acts_held : (court : CourtSettings) (h : History) → IsHistory court h → AllByRecursion IsCommand h → AllByRecursion IsActRow (act_rows h)
acts_held court [] is all = tt
acts_held court (c ∷ h) is all =
    let a = c.action in
    let found = rule_found h a in
    let made = length (deadlines_of_case (case_number a) (deadline_rows h)) in
    let acts = length (acts_of_deadline (case_number a) (deadline_number a) (act_rows h)) in
    let few = (within_limits court h is.1).deadlines (case_number a) in
    all_both IsActRow (act_rows h) (first_acts found made a ++ later_acts acts a) (acts_held court h is.1 all.1)
    (all_both IsActRow (first_acts found made a) (later_acts acts a)
    (firsts_held (case_number a) (made + 1) (deadlines_made found a) (case_counts a all.0.1) (omega (arith, few, deadlines_few found a)) (deadlines_fine found a (found_for court h is.1 a) all.0.1))
    (later_held (case_number a) (deadline_number a) (acts + 1) (acts_made a) (case_counts a all.0.1) (deadline_counts a all.0.1)
    (omega (arith, few_of_deadline court h is.1 (case_number a) (deadline_number a), acts_few a)) (acts_fine a all.0.1)))

abbrev numbers : List ActRow → List ℕ
numbers rows = map (λ (row : ActRow). row.number) rows

acts_on-append : (k n : ℕ) (xs ys : List ActRow) → acts_on k n (xs ++ ys) ≡ acts_on k n xs ++ acts_on k n ys
acts_on-append k n xs ys = filter-append (λ (row : ActRow). row.case == k && row.deadline == n) xs ys

-- the first acts of new deadlines, and which are those of one
module _ (k n : ℕ) where
  first_off : (j m : ℕ) (d : NewDeadline) (made : List NewDeadline) → (j == k && m == n) ≡ false → acts_on k n (first_acts_from j (m + 1) made) ≡ [] → acts_on k n (first_acts_from j m (d ∷ made)) ≡ []
  first_off j m d made off none = ap (λ b. cond b (record { case = j; deadline = m; number = 1; act = d.first } ∷ acts_on k n (first_acts_from j (m + 1) made)) (acts_on k n (first_acts_from j (m + 1) made))) off ∙ none

  firsts_elsewhere : (j m : ℕ) (made : List NewDeadline) → (j == k) ≡ false → acts_on k n (first_acts_from j m made) ≡ []
  firsts_elsewhere j m [] off = refl
  firsts_elsewhere j m (d ∷ made) off = first_off j m d made (ap (λ b. b && m == n) off) (firsts_elsewhere j (m + 1) made off)

  firsts_after : (j m : ℕ) (made : List NewDeadline) → n < m → acts_on k n (first_acts_from j m made) ≡ []
  firsts_after j m [] lt = refl
  firsts_after j m (d ∷ made) lt =
      let other : (m == n) ≡ false = grind (arith, nat_tests, lt) in
      first_off j m d made (ap (λ b. j == k && b) other ∙ and_right (j == k) false refl) (firsts_after j (m + 1) made (omega (arith, lt)))

  firsts_run : (j m : ℕ) (made : List NewDeadline) → RunsFrom 1 (numbers (acts_on k n (first_acts_from j m made)))
  firsts_run j m [] = tt
  firsts_run j m (d ∷ made) = at (j == k && m == n) refl (firsts_run j (m + 1) made)
    where
      row : ActRow
      row = record { case = j; deadline = m; number = 1; act = d.first }

      rest : List ActRow
      rest = acts_on k n (first_acts_from j (m + 1) made)

      at : (b : Bool) → (j == k && m == n) ≡ b → RunsFrom 1 (numbers rest) → RunsFrom 1 (numbers (cond (j == k && m == n) (row ∷ rest) rest))
      at true e more =
          let here : m ≡ n = same_number m n (and_parts (j == k) (m == n) e).1 in
          let none : rest ≡ [] = firsts_after j (m + 1) made (omega (arith, here)) in
          subst (λ b. RunsFrom 1 (numbers (cond b (row ∷ rest) rest))) (sym e) (subst (λ (rows : List ActRow). RunsFrom 1 (numbers (row ∷ rows))) (sym none) (refl, tt))
      at false e more = subst (λ b. RunsFrom 1 (numbers (cond b (row ∷ rest) rest))) (sym e) more

  -- later acts are all on one deadline
  later_if : (j d m : ℕ) (acts : List Act) (b : Bool) → (j == k && d == n) ≡ b → acts_on k n (act_rows_on j d m acts) ≡ cond b (act_rows_on j d m acts) []
  later_if j d m [] true e = refl
  later_if j d m [] false e = refl
  later_if j d m (act ∷ acts) true e =
      ap (λ b. cond b (record { case = j; deadline = d; number = m; act = act } ∷ acts_on k n (act_rows_on j d (m + 1) acts)) (acts_on k n (act_rows_on j d (m + 1) acts))) e
      ∙ ap (λ rows. record { case = j; deadline = d; number = m; act = act } ∷ rows) (later_if j d (m + 1) acts true e)
  later_if j d m (act ∷ acts) false e =
      ap (λ b. cond b (record { case = j; deadline = d; number = m; act = act } ∷ acts_on k n (act_rows_on j d (m + 1) acts)) (acts_on k n (act_rows_on j d (m + 1) acts))) e
      ∙ later_if j d (m + 1) acts false e

later_runs : (j d m : ℕ) (acts : List Act) → RunsFrom m (numbers (act_rows_on j d m acts))
later_runs j d m [] = tt
later_runs j d m (act ∷ acts) = let next : m + 1 ≡ suc m = omega arith in (refl, subst (λ i. RunsFrom i (numbers (act_rows_on j d (m + 1) acts))) next (later_runs j d (m + 1) acts))

-- the deadline that gets an act is there
pub deadline_there : (court : CourtSettings) (h : History) (a : Action) (new : Act) (more : List Act) → IsPassed court h a → acts_made a ≡ new ∷ more → (1 ≤ deadline_number a) × (deadline_number a ≤ length (deadlines_of_case (case_number a) (deadline_rows h)))
deadline_there court h a new more p e = by_name (deadline_named a) refl
  where
    by_name : (o : Option ℕ) → deadline_named a ≡ o → (1 ≤ deadline_number a) × (deadline_number a ≤ length (deadlines_of_case (case_number a) (deadline_rows h)))
    by_name None is = absurd (let clash : [] ≡ new ∷ more = sym (none_acted a is) ∙ e in cc)
    by_name (Some m) is =
        ⊎_elim
        (λ off. absurd (let clash : [] ≡ new ∷ more = sym (none_acted_in a off) ∙ e in cc))
        (λ case_is.
        let number_is : deadline_number a ≡ m = ap (λ d. unwrap_or d 0) is in
        let place = there_is h (case_number a) m (named_there h a m is case_is p.deadline) in
        (omega (arith, place.0, number_is), omega (arith, place.1, number_is)))
        (seen h a p.case)

no_rows : (rows : List ActRow) → map (λ (row : ActRow). row.act) rows ≡ [] → rows ≡ []
no_rows [] e = refl
no_rows (row ∷ rows) e = absurd (cc)

abbrev AreRun : List ActRow → Type 0
AreRun rows = RunsFrom 1 (numbers rows)

-- with the acts of one action more
module _ (court : CourtSettings) (h : History) (is : IsHistory court h) (a : Action) (p : IsPassed court h a) (k n : ℕ) (was : AreRun (acts_on k n (act_rows h))) where
  abbrev j : ℕ
  j = case_number a

  abbrev count : ℕ
  count = length (deadlines_of_case j (deadline_rows h))

  abbrev made : List NewDeadline
  made = deadlines_made (rule_found h a) a

  abbrev old : List ActRow
  old = acts_on k n (act_rows h)

  abbrev firsts : List ActRow
  firsts = acts_on k n (first_acts (rule_found h a) count a)

  none_new : firsts ≡ [] → AreRun (old ++ firsts)
  none_new none = subst (λ (rows : List ActRow). AreRun (old ++ rows)) (sym none) (subst AreRun (sym (append-nil old)) was)

  with_firsts : AreRun (old ++ firsts)
  with_firsts = at (j == k) (nat_le n count) refl refl
    where
      at : (b c : Bool) → (j == k) ≡ b → nat_le n count ≡ c → AreRun (old ++ firsts)
      at false c other low = none_new (firsts_elsewhere k n j (count + 1) made other)
      at true true here low = none_new (firsts_after k n j (count + 1) made (grind (arith, nat_tests, low)))
      at true false here low =
          let same : length (deadlines_of_case k (deadline_rows h)) ≡ count = ap (λ i. length (deadlines_of_case i (deadline_rows h))) (sym (same_number j k here)) in
          let past : count < n = grind (arith, nat_tests, low) in
          let none : old ≡ [] = no_rows old ((all_kept court h is k n).absent (inr (omega (arith, same, past)))) in
          subst (λ (rows : List ActRow). AreRun (rows ++ firsts)) (sym none) (firsts_run k n j (count + 1) made)

  abbrev d : ℕ
  d = deadline_number a

  abbrev size : ℕ
  size = length (acts_of_deadline j d (act_rows h))

  abbrev AreRunWith : List Act → Type 0
  AreRunWith news = AreRun ((old ++ firsts) ++ acts_on k n (act_rows_on j d (size + 1) news))

  none_later : (news : List Act) → acts_on k n (act_rows_on j d (size + 1) news) ≡ [] → AreRunWith news
  none_later news none = subst (λ (rows : List ActRow). AreRun ((old ++ firsts) ++ rows)) (sym none) (subst AreRun (sym (append-nil (old ++ firsts))) with_firsts)

  some_later : (news : List Act) → j ≡ k → d ≡ n → firsts ≡ [] → AreRun ((old ++ firsts) ++ act_rows_on j d (size + 1) news)
  some_later news here there none =
      let later = act_rows_on j d (size + 1) news in
      let same : size ≡ length (acts_of_deadline k n (act_rows h)) = λ i. length (acts_of_deadline (here i) (there i) (act_rows h)) in
      let next : size + 1 ≡ 1 + length (numbers old) = omega (arith, same, length-map old (λ (row : ActRow). row.act), length-map old (λ (row : ActRow). row.number)) in
      let all : numbers (old ++ later) ≡ numbers old ++ numbers later = map-append (λ (row : ActRow). row.number) old later in
      subst (λ (rows : List ActRow). AreRun ((old ++ rows) ++ later)) (sym none)
      (subst (λ (rows : List ActRow). AreRun (rows ++ later)) (sym (append-nil old))
      (subst (RunsFrom 1) (sym all)
      (runs_both 1 (numbers old) (numbers later) was (subst (λ m. RunsFrom m (numbers later)) next (later_runs j d (size + 1) news)))))

  with_later : (news : List Act) → acts_made a ≡ news → AreRunWith news
  with_later [] e = none_later [] refl
  with_later (new ∷ more) e = at (j == k && d == n) refl
    where
      at : (b : Bool) → (j == k && d == n) ≡ b → AreRunWith (new ∷ more)
      at false other = none_later (new ∷ more) (later_if k n j d (size + 1) (new ∷ more) false other)
      at true both =
          let here : j ≡ k = same_number j k (and_parts (j == k) (d == n) both).0 in
          let there : d ≡ n = same_number d n (and_parts (j == k) (d == n) both).1 in
          let none = firsts_after k n j (count + 1) made (omega (arith, there, (deadline_there court h a new more p e).1)) in
          subst (λ (rows : List ActRow). AreRun ((old ++ firsts) ++ rows)) (sym (later_if k n j d (size + 1) (new ∷ more) true both))
          (some_later (new ∷ more) here there none)

  abbrev begun : List ActRow
  begun = first_acts (rule_found h a) count a

  pub acts_step : AreRun (acts_on k n (act_rows h ++ (begun ++ later_acts size a)))
  acts_step =
      let all : acts_on k n (act_rows h ++ (begun ++ later_acts size a)) ≡ (old ++ firsts) ++ acts_on k n (later_acts size a) =
      acts_on-append k n (act_rows h) (begun ++ later_acts size a)
      ∙ ap (λ rows. old ++ rows) (acts_on-append k n begun (later_acts size a))
      ∙ sym (append_assoc old firsts (acts_on k n (later_acts size a))) in
      subst AreRun (sym all) (with_later (acts_made a) refl)

pub acts_run : (court : CourtSettings) (h : History) → IsHistory court h → (k n : ℕ) → RunsFrom 1 (numbers (acts_on k n (act_rows h)))
acts_run court [] is k n = tt
acts_run court (c ∷ h) is k n = acts_step court h is.1 c.action (passed court h c is.0.0 is.0.1) k n (acts_run court h is.1 k n)
