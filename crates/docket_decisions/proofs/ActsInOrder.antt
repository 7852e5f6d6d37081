-- The acts of a deadline are its first act, followed by those of the commands that name it.
use Rattle.std.proofs.Common.{◌≡◌, ◌⊎◌, inl, inr, ℕ, zero, suc, ◌+◌, ◌<◌, ◌≤◌, Bool, true, false, cond, ◌&&◌, Option, Some, None, List, [], ◌∷◌, ◌++◌, length, refl, sym, ap, subst, ◌∙◌, arith, append-nil, append_assoc, length-append, ⊎_elim}
use Rattle.std.specs.Prelude.{◌==◌, slice_get, is_none, unwrap_or, if◌then◌else◌}
use Rattle.std.proofs.lemmas.Bool.Decides.{nat_tests}
use Rattle.std.proofs.lemmas.Bool.{and_parts}
use Rattle.std.proofs.lemmas.Option.{slice_get_within}
use Rattle.court_days.specs.Court.{CourtSettings, zone_of}
use Rattle.court_rules.specs.declared.act.Act.{Act}
use Rattle.docket_command.specs.declared.command.Action.{Action}
use Rattle.docket_history.specs.Actions.{case_named, deadline_named, deadlines_made, acts_made}
use Rattle.docket_history.specs.Histories.{History, first_acts_from, act_rows_on, act_rows, deadline_rows, deadlines, deadlines_of_case, acts_of_deadline, first_acts, case_number, deadline_number, rule_found}
use Rattle.docket_history.specs.InOrder.{in_order, asked_in_order, gathered, is_number, made_in, acts_on}
use Rattle.docket_decisions.specs.Outcomes.{IsHistory, shown_fresh}
use Rattle.docket_history.specs.Times.{standing_shown}
use Rattle.docket_history.specs.Views.{acts_in, deadline_at, deadline_shown}
use Rattle.docket_history.specs.declared.row.NewDeadline.{NewDeadline}
use Rattle.docket_history.specs.declared.row.ActRow.{ActRow}
use Rattle.docket_decisions.proofs.ActsKept.{acts_more}
use Rattle.docket_decisions.proofs.InOrderLemmas.{deadlines_in_order, gathered-append, length-from, same_number}
use Rattle.docket_history.proofs.Asked.{none_made, none_acted, none_acted_in}
use Rattle.docket_decisions.proofs.Leading.{seen}
use Rattle.docket_decisions.proofs.LaterActs.{IsNextOf, may_follow}
use Rattle.docket_decisions.proofs.LimitsKept.{all_kept, passed, there_is, named_there, IsPassed}

-- the acts of deadline n, where these were made, and those the later acts on it
record IsTold (n : ℕ) (made : List NewDeadline) (later acts : List Act) : Type 0 where
  pub found : (m : ℕ) (d : NewDeadline) → n ≡ m + 1 → slice_get made m ≡ Some d → acts ≡ d.first ∷ later
  pub missing : (n ≡ 0) ⊎ (length made < n) → later ≡ []

-- lists with one more at their end
last_is : (xs : List NewDeadline) (x : NewDeadline) → slice_get (xs ++ x ∷ []) (length xs) ≡ Some x
last_is [] x = refl
last_is (y ∷ ys) x = last_is ys x

earlier : (xs : List NewDeadline) (x : NewDeadline) (m : ℕ) → m < length xs → slice_get (xs ++ x ∷ []) m ≡ slice_get xs m
earlier [] x m lt = absurd (omega (arith, lt))
earlier (y ∷ ys) x zero lt = refl
earlier (y ∷ ys) x (suc m) lt = earlier ys x m (omega (arith, lt))

-- a deadline is made
module _ (n : ℕ) (made : List NewDeadline) (later acts : List Act) (d : NewDeadline) (count : ℕ) (was : IsTold n made later acts) (absent : (n ≡ 0) ⊎ (length made < n) → acts ≡ []) where
  made_here : count ≡ length made → (b : Bool) → (count + 1 == n) ≡ b → IsTold n (made ++ d ∷ []) later (acts ++ cond b (d.first ∷ []) [])
  made_here same true e =
      let place : count + 1 ≡ n = same_number (count + 1) n e in
      let past : length made < n = omega (arith, same, place) in
      record {
        found = λ m found n_is at.
            let here : m ≡ length made = omega (arith, n_is, place, same) in
            let one : Some d ≡ Some found = sym (ap (slice_get (made ++ d ∷ [])) here ∙ last_is made d) ∙ at in
            let equal : d ≡ found = cc in
            (λ i. absent (inr past) i ++ d.first ∷ []) ∙ (λ i. (equal i).first ∷ sym (was.missing (inr past)) i);
        missing = λ which. was.missing (inr past);
      }
  made_here same false e =
      let apart : ¬ (count + 1 ≡ n) = λ equal. absurd (grind (arith, nat_tests, e, equal)) in
      record {
        found = λ m found n_is at.
            let within : m < length (made ++ d ∷ []) = slice_get_within (made ++ d ∷ []) m found at in
            let size = length-append made (d ∷ []) in
            let before : m < length made = omega (arith, within, size, same, n_is, apart) in
            append-nil acts ∙ was.found m found n_is (sym (earlier made d m before) ∙ at);
        missing = λ which. was.missing (⊎_elim (λ z. inl z) (λ lt. inr (omega (arith, lt, length-append made (d ∷ [])))) which);
      }

-- deadlines of another case are made
other_case : (k n j : ℕ) → (j == k) ≡ false → (number : ℕ) → (j == k && number == n) ≡ false
other_case k n j e number = ap (λ b. b && number == n) e

firsts_elsewhere : (k n j : ℕ) → (j == k) ≡ false → (xs : List NewDeadline) (rows : List ActRow) (number : ℕ) → acts_of_deadline k n (rows ++ first_acts_from j number xs) ≡ acts_of_deadline k n rows
firsts_elsewhere k n j e [] rows number = ap (acts_of_deadline k n) (append-nil rows)
firsts_elsewhere k n j e (d ∷ xs) rows number =
    let row : ActRow = record { case = j; deadline = number; number = 1; act = d.first } in
    ap (acts_of_deadline k n) (sym (append_assoc rows (row ∷ []) (first_acts_from j (number + 1) xs)))
    ∙ firsts_elsewhere k n j e xs (rows ++ row ∷ []) (number + 1)
    ∙ acts_more rows row k n
    ∙ ap (λ b. acts_of_deadline k n rows ++ cond b (d.first ∷ []) []) (other_case k n j e number)
    ∙ append-nil _

-- deadlines of this case are made
not_yet : (n count size : ℕ) → count ≡ size → (n ≡ 0) ⊎ (size + 1 < n) → (count + 1 == n) ≡ false
not_yet n count size same (inl z) = grind (arith, nat_tests, z)
not_yet n count size same (inr lt) = grind (arith, nat_tests, lt, same)

module _ (k n : ℕ) where
  here_is : (count : ℕ) → (k == k && count + 1 == n) ≡ (count + 1 == n)
  here_is count = ap (λ b. b && count + 1 == n) (same k)
    where
      same : (m : ℕ) → (m == m) ≡ true
      same m = grind (arith, nat_tests)

  firsts_told : (xs made : List NewDeadline) (later : List Act) (rows : List ActRow) (count : ℕ) → count ≡ length made → IsTold n made later (acts_of_deadline k n rows)
      → ((n ≡ 0) ⊎ (length made < n) → acts_of_deadline k n rows ≡ []) → IsTold n (made ++ xs) later (acts_of_deadline k n (rows ++ first_acts_from k (count + 1) xs))
  firsts_told [] made later rows count size was absent =
      subst (λ (ds : List NewDeadline). IsTold n ds later (acts_of_deadline k n (rows ++ []))) (sym (append-nil made))
      (subst (λ (all : List ActRow). IsTold n made later (acts_of_deadline k n all)) (sym (append-nil rows)) was)
  firsts_told (d ∷ xs) made later rows count size was absent =
      let row : ActRow = record { case = k; deadline = count + 1; number = 1; act = d.first } in
      let acts : acts_of_deadline k n (rows ++ row ∷ []) ≡ acts_of_deadline k n rows ++ cond (count + 1 == n) (d.first ∷ []) [] =
      acts_more rows row k n ∙ ap (λ b. acts_of_deadline k n rows ++ cond b (d.first ∷ []) []) (here_is count) in
      let one : IsTold n (made ++ d ∷ []) later (acts_of_deadline k n (rows ++ row ∷ [])) =
      subst (λ (l : List Act). IsTold n (made ++ d ∷ []) later l) (sym acts)
      (made_here n made later (acts_of_deadline k n rows) d count was absent size (count + 1 == n) refl) in
      let longer : length (made ++ d ∷ []) ≡ length made + 1 = length-append made (d ∷ []) in
      let missing : (n ≡ 0) ⊎ (length (made ++ d ∷ []) < n) → acts_of_deadline k n (rows ++ row ∷ []) ≡ [] = λ which.
      let early : (n ≡ 0) ⊎ (length made + 1 < n) = ⊎_elim (λ z. inl z) (λ lt. inr (omega (arith, lt, longer))) which in
      let before : (n ≡ 0) ⊎ (length made < n) = ⊎_elim (λ z. inl z) (λ lt. inr (omega (arith, lt))) early in
      acts ∙ ap (λ b. acts_of_deadline k n rows ++ cond b (d.first ∷ []) []) (not_yet n count (length made) size early) ∙ append-nil _ ∙ absent before in
      let all = firsts_told xs (made ++ d ∷ []) later (rows ++ row ∷ []) (count + 1) (omega (arith, size, longer)) one missing in
      subst (λ (ds : List NewDeadline). IsTold n ds later (acts_of_deadline k n (rows ++ row ∷ first_acts_from k (count + 1 + 1) xs))) (append_assoc made (d ∷ []) xs)
      (subst (λ (more : List ActRow). IsTold n ((made ++ d ∷ []) ++ xs) later (acts_of_deadline k n more)) (append_assoc rows (row ∷ []) (first_acts_from k (count + 1 + 1) xs)) all)

-- an act on a deadline
acted : (n : ℕ) (made : List NewDeadline) (later acts : List Act) (new : Act) (b : Bool) → IsTold n made later acts → (b ≡ true → (1 ≤ n) × (n ≤ length made)) → IsTold n made (later ++ ((if b then new ∷ [] else []) ++ [])) (acts ++ cond b (new ∷ []) [])
acted n made later acts new true was there = record {
  found = λ m d n_is at. ap (λ a. a ++ new ∷ []) (was.found m d n_is at);
  missing = λ which. absurd (⊎_elim (λ z. omega (arith, z, (there refl).0)) (λ lt. omega (arith, lt, (there refl).1)) which);
}
acted n made later acts new false was there = record {
  found = λ m d n_is at. append-nil acts ∙ was.found m d n_is at ∙ ap (λ l. d.first ∷ l) (sym (append-nil later));
  missing = λ which. append-nil later ∙ was.missing which;
}

abbrev made_of : ℕ → History → List NewDeadline
made_of k h = gathered (made_in k) (asked_in_order h)

abbrev later_of : ℕ → ℕ → History → List Act
later_of k n h = gathered (acts_on k n) (in_order h)

abbrev Told : ℕ → ℕ → History → Type 0
Told k n h = IsTold n (made_of k h) (later_of k n h) (acts_of_deadline k n (act_rows h))

count_is : (k : ℕ) (h : History) → length (deadlines_of_case k (deadline_rows h)) ≡ length (made_of k h)
count_is k h = ap length (deadlines_in_order k h) ∙ length-from k 1 (made_of k h)

-- with what one more action adds
abbrev ToldAfter : ℕ → ℕ → History → Action → List Act → Type 0
ToldAfter k n h a news =
    let count = length (deadlines_of_case (case_number a) (deadline_rows h)) in
    let number = length (acts_of_deadline (case_number a) (deadline_number a) (act_rows h)) + 1 in
    IsTold n (made_of k h ++ (made_in k (rule_found h a, a) ++ [])) (later_of k n h ++ ((if is_number (case_named a) k && is_number (deadline_named a) n then news else []) ++ []))
    (acts_of_deadline k n (act_rows h ++ (first_acts (rule_found h a) count a ++ act_rows_on (case_number a) (deadline_number a) number news)))

abbrev no_acts_by : Bool → List Act
no_acts_by b = if b then [] else []

none_by : (b : Bool) → no_acts_by b ≡ []
none_by true = refl
none_by false = refl

module _ (court : CourtSettings) (h : History) (is : IsHistory court h) (k n : ℕ) (was : Told k n h) (a : Action) (p : IsPassed court h a) where
  absent : (n ≡ 0) ⊎ (length (made_of k h) < n) → acts_of_deadline k n (act_rows h) ≡ []
  absent which = (all_kept court h is k n).absent (⊎_elim (λ z. inl z) (λ lt. inr (omega (arith, lt, count_is k h))) which)

  -- with the deadlines that it makes
  firsts_by : (o : Option ℕ) (xs : List NewDeadline) → (o ≡ None → xs ≡ []) → IsTold n (made_of k h ++ (if is_number o k then xs else [])) (later_of k n h)
      (acts_of_deadline k n (act_rows h ++ first_acts_from (unwrap_or o 0) (length (deadlines_of_case (unwrap_or o 0) (deadline_rows h)) + 1) xs))
  firsts_by None xs none =
      let rows : act_rows h ++ first_acts_from 0 (length (deadlines_of_case 0 (deadline_rows h)) + 1) xs ≡ act_rows h = ap (λ ys. act_rows h ++ first_acts_from 0 (length (deadlines_of_case 0 (deadline_rows h)) + 1) ys) (none refl) ∙ append-nil (act_rows h) in
      subst (λ (ds : List NewDeadline). IsTold n ds (later_of k n h) (acts_of_deadline k n (act_rows h ++ first_acts_from 0 (length (deadlines_of_case 0 (deadline_rows h)) + 1) xs))) (sym (append-nil (made_of k h)))
      (subst (λ (all : List ActRow). IsTold n (made_of k h) (later_of k n h) (acts_of_deadline k n all)) (sym rows) was)
  firsts_by (Some j) xs none = by_case (j == k) refl
    where
      by_case : (b : Bool) → (j == k) ≡ b → IsTold n (made_of k h ++ (if j == k then xs else [])) (later_of k n h) (acts_of_deadline k n (act_rows h ++ first_acts_from j (length (deadlines_of_case j (deadline_rows h)) + 1) xs))
      by_case true e =
          let j_is = same_number j k e in
          subst (λ (b : Bool). IsTold n (made_of k h ++ (if b then xs else [])) (later_of k n h) (acts_of_deadline k n (act_rows h ++ first_acts_from j (length (deadlines_of_case j (deadline_rows h)) + 1) xs))) (sym e)
          (subst (λ (i : ℕ). IsTold n (made_of k h ++ xs) (later_of k n h) (acts_of_deadline k n (act_rows h ++ first_acts_from i (length (deadlines_of_case i (deadline_rows h)) + 1) xs))) (sym j_is)
          (firsts_told k n xs (made_of k h) (later_of k n h) (act_rows h) (length (deadlines_of_case k (deadline_rows h))) (count_is k h) was absent))
      by_case false e =
          subst (λ (b : Bool). IsTold n (made_of k h ++ (if b then xs else [])) (later_of k n h) (acts_of_deadline k n (act_rows h ++ first_acts_from j (length (deadlines_of_case j (deadline_rows h)) + 1) xs))) (sym e)
          (subst (λ (ds : List NewDeadline). IsTold n ds (later_of k n h) (acts_of_deadline k n (act_rows h ++ first_acts_from j (length (deadlines_of_case j (deadline_rows h)) + 1) xs))) (sym (append-nil (made_of k h)))
          (subst (λ (acts : List Act). IsTold n (made_of k h) (later_of k n h) acts) (sym (firsts_elsewhere k n j e xs (act_rows h) _)) was))

  firsts : IsTold n (made_of k h ++ made_in k (rule_found h a, a)) (later_of k n h) (acts_of_deadline k n (act_rows h ++ first_acts (rule_found h a) (length (deadlines_of_case (case_number a) (deadline_rows h))) a))
  firsts = firsts_by (case_named a) (deadlines_made (rule_found h a) a) (none_made (rule_found h a) a)

  -- and with the act on the deadline that it names
  plain : ToldAfter k n h a []
  plain =
      let count = length (deadlines_of_case (case_number a) (deadline_rows h)) in
      let rows : act_rows h ++ (first_acts (rule_found h a) count a ++ []) ≡ act_rows h ++ first_acts (rule_found h a) count a = ap (λ xs. act_rows h ++ xs) (append-nil (first_acts (rule_found h a) count a)) in
      let later : later_of k n h ++ ((if is_number (case_named a) k && is_number (deadline_named a) n then [] else []) ++ []) ≡ later_of k n h =
      ap (λ xs. later_of k n h ++ (xs ++ [])) (none_by (is_number (case_named a) k && is_number (deadline_named a) n)) ∙ append-nil (later_of k n h) in
      let made : made_of k h ++ (made_in k (rule_found h a, a) ++ []) ≡ made_of k h ++ made_in k (rule_found h a, a) = ap (λ xs. made_of k h ++ xs) (append-nil (made_in k (rule_found h a, a))) in
      let P : List NewDeadline × List Act × List Act → Type 0 = λ q. IsTold n q.0 q.1 q.2 in
      subst P (λ i. (sym made i, sym later i, acts_of_deadline k n (sym rows i))) firsts

  one_act : (new : Act) (j m : ℕ) → case_named a ≡ Some j → deadline_named a ≡ Some m → (1 ≤ m) × (m ≤ length (deadlines_of_case j (deadline_rows h))) → ToldAfter k n h a (new ∷ [])
  one_act new j m of_case on_deadline place =
      let count = length (deadlines_of_case (case_number a) (deadline_rows h)) in
      let number = length (acts_of_deadline (case_number a) (deadline_number a) (act_rows h)) + 1 in
      let row : ActRow = record { case = case_number a; deadline = deadline_number a; number = number; act = new } in
      let case_is : case_number a ≡ j = ap (λ o. unwrap_or o 0) of_case in
      let deadline_is : deadline_number a ≡ m = ap (λ o. unwrap_or o 0) on_deadline in
      let test : (is_number (case_named a) k && is_number (deadline_named a) n) ≡ (j == k && m == n) = (λ i. is_number (of_case i) k && is_number (on_deadline i) n) in
      let on_row : (case_number a == k && deadline_number a == n) ≡ (j == k && m == n) = (λ i. case_is i == k && deadline_is i == n) in
      let rows : act_rows h ++ (first_acts (rule_found h a) count a ++ row ∷ []) ≡ (act_rows h ++ first_acts (rule_found h a) count a) ++ row ∷ [] = sym (append_assoc (act_rows h) (first_acts (rule_found h a) count a) (row ∷ [])) in
      let acts : acts_of_deadline k n ((act_rows h ++ first_acts (rule_found h a) count a) ++ row ∷ []) ≡ acts_of_deadline k n (act_rows h ++ first_acts (rule_found h a) count a) ++ cond (j == k && m == n) (new ∷ []) [] =
      acts_more (act_rows h ++ first_acts (rule_found h a) count a) row k n ∙ ap (λ b. acts_of_deadline k n (act_rows h ++ first_acts (rule_found h a) count a) ++ cond b (new ∷ []) []) on_row in
      let there : (j == k && m == n) ≡ true → (1 ≤ n) × (n ≤ length (made_of k h ++ made_in k (rule_found h a, a))) = λ e.
      let both = and_parts (j == k) (m == n) e in
      let j_is = same_number j k both.0 in
      let m_is = same_number m n both.1 in
      let high : m ≤ length (deadlines_of_case k (deadline_rows h)) = subst (λ (i : ℕ). m ≤ length (deadlines_of_case i (deadline_rows h))) j_is place.1 in
      (omega (arith, place.0, m_is), omega (arith, high, m_is, count_is k h, length-append (made_of k h) (made_in k (rule_found h a, a)))) in
      let made : made_of k h ++ (made_in k (rule_found h a, a) ++ []) ≡ made_of k h ++ made_in k (rule_found h a, a) = ap (λ xs. made_of k h ++ xs) (append-nil (made_in k (rule_found h a, a))) in
      let P : List NewDeadline × List Act × List Act → Type 0 = λ q. IsTold n q.0 q.1 q.2 in
      subst P (λ i. (sym made i, later_of k n h ++ ((if sym test i then new ∷ [] else []) ++ []), sym (ap (acts_of_deadline k n) rows ∙ acts) i))
      (acted n (made_of k h ++ made_in k (rule_found h a, a)) (later_of k n h) (acts_of_deadline k n (act_rows h ++ first_acts (rule_found h a) count a)) new (j == k && m == n) firsts there)

  by_names : (new : Act) → acts_made a ≡ new ∷ [] → (o : Option ℕ) → case_named a ≡ o → (m : Option ℕ) → deadline_named a ≡ m → ToldAfter k n h a (new ∷ [])
  by_names new e None of_case m on_deadline = absurd (let clash : [] ≡ new ∷ [] = sym (none_acted_in a of_case) ∙ e in cc)
  by_names new e (Some j) of_case None on_deadline = absurd (let clash : [] ≡ new ∷ [] = sym (none_acted a on_deadline) ∙ e in cc)
  by_names new e (Some j) of_case (Some m) on_deadline =
      ⊎_elim
      (λ off. absurd (let clash : [] ≡ new ∷ [] = sym (none_acted_in a off) ∙ e in cc))
      (λ case_is.
      let named : is_none (deadline_at (deadlines (case_number a) h) m) ≡ false = named_there h a m on_deadline case_is p.deadline in
      let number_is : case_number a ≡ j = ap (λ d. unwrap_or d 0) of_case in
      let place = there_is h (case_number a) m named in
      one_act new j m of_case on_deadline (place.0, subst (λ (i : ℕ). m ≤ length (deadlines_of_case i (deadline_rows h))) number_is place.1))
      (seen h a p.case)

  by_acts : (news : List Act) → acts_made a ≡ news → IsNextOf (zone_of court) (standing_shown court (shown_fresh h a)) (acts_in (deadline_shown (shown_fresh h a))) news → ToldAfter k n h a (acts_made a)
  by_acts [] e follows = subst (ToldAfter k n h a) (sym e) plain
  by_acts (new ∷ []) e follows = subst (ToldAfter k n h a) (sym e) (by_names new e (case_named a) refl (deadline_named a) refl)
  by_acts (new ∷ other ∷ more) e follows = absurd follows

  told_step : ToldAfter k n h a (acts_made a)
  told_step = by_acts (acts_made a) refl (may_follow court (shown_fresh h a) a p.values p.opened p.awaited p.room)

told : (court : CourtSettings) (h : History) → IsHistory court h → (k n : ℕ) → Told k n h
told court [] is k n = record { found = λ m d n_is at. absurd (cc); missing = λ which. refl }
told court (c ∷ h) is k n =
    let step = told_step court h is.1 k n (told court h is.1 k n) c.action (passed court h c is.0.0 is.0.1) in
    let P : List NewDeadline × List Act → Type 0 = λ q. IsTold n q.0 q.1 (acts_of_deadline k n (act_rows (c ∷ h))) in
    subst P (λ i. (sym (gathered-append (made_in k) (asked_in_order h) ((rule_found h c.action, c.action) ∷ [])) i, sym (gathered-append (acts_on k n) (in_order h) (c.action ∷ [])) i)) step

pub acts_in_order : (court : CourtSettings) (h : History) → IsHistory court h → (k n : ℕ) (d : NewDeadline) → slice_get (gathered (made_in k) (asked_in_order h)) n ≡ Some d
    → acts_of_deadline k (n + 1) (act_rows h) ≡ d.first ∷ gathered (acts_on k (n + 1)) (in_order h)
acts_in_order court h is k n d at = (told court h is k (n + 1)).found n d refl at
