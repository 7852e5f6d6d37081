-- The acts of every deadline of a history are lawful.
use Rattle.std.proofs.Common.{◌≡◌, ◌⊎◌, inl, inr, ℕ, ◌+◌, ◌<◌, ◌≤◌, Bool, true, false, cond, ◌&&◌, List, [], ◌∷◌, ◌++◌, map, length, refl, sym, ap, subst, ◌∙◌, arith, append-nil, append_assoc, length-append}
use Rattle.std.specs.Prelude.{◌==◌, filter}
use Rattle.std.proofs.lemmas.Bool.Decides.{nat_tests}
use Rattle.std.proofs.lemmas.Bool.{and_right}
use Rattle.std.proofs.lemmas.List.{map-append}
use Rattle.std.proofs.lemmas.List.Elements.{filter-append}
use Rattle.civil_time.specs.Zone.{ZoneRules}
use Rattle.court_days.specs.Calendar.{Entered}
use Rattle.court_rules.proofs.Chains.{first, next}
use Rattle.court_rules.specs.Acts.{is_within}
use Rattle.court_rules.specs.Standings.{AreActs, standing, may_come, begins_on_entered_day}
use Rattle.court_rules.specs.declared.act.Act.{Act}
use Rattle.docket_history.specs.Histories.{deadlines_of_case, acts_of_deadline, deadline_rows_from, first_acts_from}
use Rattle.docket_decisions.specs.Refusals.{is_over}
use Rattle.docket_history.specs.declared.row.NewDeadline.{NewDeadline}
use Rattle.docket_history.specs.declared.row.ActRow.{ActRow}
use Rattle.docket_history.specs.declared.row.DeadlineRow.{DeadlineRow}
use Rattle.docket_decisions.proofs.FirstActs.{IsFirst, AreFirst}
use Rattle.docket_decisions.proofs.InOrderLemmas.{same_number}

-- lawful acts; where they are not over, there is room for one more
pub record AreSound (zone : ZoneRules) (acts : List Act) : Type 0 where
  pub lawful : AreActs zone acts
  pub room : (entered : Entered) → is_over (standing zone entered acts) ≡ false → length acts < 100

-- one act that may be the first
pub first_sound : (zone : ZoneRules) (act : Act) → IsFirst zone act → AreSound zone (act ∷ [])
first_sound zone act is = record { lawful = first zone act is.within is.begins is.may; room = λ entered over. omega arith }

-- sound acts with one more
pub more_sound : (zone : ZoneRules) (entered : Entered) (acts : List Act) (new : Act) → AreSound zone acts → is_within new ≡ true → begins_on_entered_day zone new ≡ true
    → may_come (standing zone entered acts) new ≡ true → length acts < 100
    → ((e : Entered) → is_over (standing zone e (acts ++ new ∷ [])) ≡ false → length acts < 99) → AreSound zone (acts ++ new ∷ [])
more_sound zone entered acts new sound within begins may short less = record {
  lawful = next zone entered acts new sound.lawful short within begins may;
  room = λ e over. let few = less e over in omega (arith, few, length-append acts (new ∷ []));
}

-- the acts of a deadline with one more row
picked : (b : Bool) (row : ActRow) → map (λ (r : ActRow). r.act) (cond b (row ∷ []) []) ≡ cond b (row.act ∷ []) []
picked true row = refl
picked false row = refl

pub acts_more : (rows : List ActRow) (row : ActRow) (k n : ℕ) → acts_of_deadline k n (rows ++ row ∷ []) ≡ acts_of_deadline k n rows ++ cond (row.case == k && row.deadline == n) (row.act ∷ []) []
acts_more rows row k n =
    let test : ActRow → Bool = λ r. r.case == k && r.deadline == n in
    ap (map (λ (r : ActRow). r.act)) (filter-append test rows (row ∷ []))
    ∙ map-append (λ (r : ActRow). r.act) (filter test rows) (cond (test row) (row ∷ []) [])
    ∙ ap (λ more. acts_of_deadline k n rows ++ more) (picked (test row) row)

-- the deadlines of a case with one more row
counted_one : (b : Bool) (row : DeadlineRow) → length (cond b (row ∷ []) []) ≡ cond b 1 0
counted_one true row = refl
counted_one false row = refl

pub count_more : (rows : List DeadlineRow) (row : DeadlineRow) (k : ℕ) → length (deadlines_of_case k (rows ++ row ∷ [])) ≡ length (deadlines_of_case k rows) + cond (row.case == k) 1 0
count_more rows row k =
    ap length (filter-append (λ (r : DeadlineRow). r.case == k) rows (row ∷ []))
    ∙ length-append (deadlines_of_case k rows) (cond (row.case == k) (row ∷ []) [])
    ∙ ap (λ n. length (deadlines_of_case k rows) + n) (counted_one (row.case == k) row)

-- more rows are no fewer deadlines
pub no_fewer : (k : ℕ) (ds new : List DeadlineRow) → length (deadlines_of_case k ds) ≤ length (deadlines_of_case k (ds ++ new))
no_fewer k ds new =
    let all : length (deadlines_of_case k (ds ++ new)) ≡ length (deadlines_of_case k ds) + length (deadlines_of_case k new) =
    ap length (filter-append (λ (r : DeadlineRow). r.case == k) ds new) ∙ length-append (deadlines_of_case k ds) (deadlines_of_case k new) in
    omega (arith, all)

-- the acts of deadline n of case k are sound, if there is one; otherwise there are none
pub record IsKept (zone : ZoneRules) (ds : List DeadlineRow) (rows : List ActRow) (k n : ℕ) : Type 0 where
  pub absent : (n ≡ 0) ⊎ (length (deadlines_of_case k ds) < n) → acts_of_deadline k n rows ≡ []
  pub sound : 1 ≤ n → n ≤ length (deadlines_of_case k ds) → AreSound zone (acts_of_deadline k n rows)

other_number : (m n : ℕ) → (m == n) ≡ false → ¬ (m ≡ n)
other_number m n e = grind (arith, nat_tests)

-- with the first act of a new deadline
module _ (zone : ZoneRules) (ds : List DeadlineRow) (rows : List ActRow) (d : DeadlineRow) (row : ActRow) (case : row.case ≡ d.case) (number : row.deadline ≡ length (deadlines_of_case d.case ds) + 1) (first : AreSound zone (row.act ∷ [])) where
  module _ (k n : ℕ) (was : IsKept zone ds rows k n) where
    unchanged : (m : ℕ) → length (deadlines_of_case k (ds ++ d ∷ [])) ≡ m → (n ≤ m → 1 ≤ n → n ≤ length (deadlines_of_case k ds)) → length (deadlines_of_case k ds) ≤ m → (row.case == k && row.deadline == n) ≡ false → IsKept zone (ds ++ d ∷ []) (rows ++ row ∷ []) k n
    unchanged m count within more off =
        let same : acts_of_deadline k n (rows ++ row ∷ []) ≡ acts_of_deadline k n rows = acts_more rows row k n ∙ ap (λ b. acts_of_deadline k n rows ++ cond b (row.act ∷ []) []) off ∙ append-nil _ in
        record {
          absent = λ which. same ∙ was.absent (elim which [ inl e ↦ inl e | inr lt ↦ inr (omega (arith, lt, count, more)) ]);
          sound = λ low high. subst (AreSound zone) (sym same) (was.sound low (within (omega (arith, high, count)) low));
        }

    new_one : d.case ≡ k → row.deadline ≡ n → IsKept zone (ds ++ d ∷ []) (rows ++ row ∷ []) k n
    new_one here last =
        let count : length (deadlines_of_case k (ds ++ d ∷ [])) ≡ length (deadlines_of_case k ds) + 1 = count_more ds d k ∙ ap (λ b. length (deadlines_of_case k ds) + cond b 1 0) (let same : (d.case == k) ≡ true = grind (arith, nat_tests) in same) in
        let place : n ≡ length (deadlines_of_case k ds) + 1 = sym last ∙ number ∙ ap (λ j. length (deadlines_of_case j ds) + 1) here in
        let both : (row.case == k && row.deadline == n) ≡ true = let at : row.case ≡ k = case ∙ here in grind (arith, nat_tests) in
        let only : acts_of_deadline k n (rows ++ row ∷ []) ≡ row.act ∷ [] = acts_more rows row k n ∙ ap (λ b. acts_of_deadline k n rows ++ cond b (row.act ∷ []) []) both ∙ ap (λ acts. acts ++ row.act ∷ []) (was.absent (inr (omega (arith, place)))) in
        record {
          absent = λ which. absurd (elim which [ inl e ↦ omega (arith, e, place) | inr lt ↦ omega (arith, lt, count, place) ]);
          sound = λ low high. subst (AreSound zone) (sym only) first;
        }

    by_number : (b : Bool) → (row.deadline == n) ≡ b → d.case ≡ k → IsKept zone (ds ++ d ∷ []) (rows ++ row ∷ []) k n
    by_number true e here = new_one here (same_number _ _ e)
    by_number false e here =
        let count : length (deadlines_of_case k (ds ++ d ∷ [])) ≡ length (deadlines_of_case k ds) + 1 = count_more ds d k ∙ ap (λ b. length (deadlines_of_case k ds) + cond b 1 0) (let same : (d.case == k) ≡ true = grind (arith, nat_tests) in same) in
        let place : row.deadline ≡ length (deadlines_of_case k ds) + 1 = number ∙ ap (λ j. length (deadlines_of_case j ds) + 1) here in
        let apart = other_number row.deadline n e in
        unchanged (length (deadlines_of_case k ds) + 1) count (λ high low. omega (arith, high, low, place, apart)) (omega arith) (ap (λ b. row.case == k && b) e ∙ and_right (row.case == k) false refl)

    by_case : (b : Bool) → (d.case == k) ≡ b → IsKept zone (ds ++ d ∷ []) (rows ++ row ∷ []) k n
    by_case true e = by_number (row.deadline == n) refl (same_number _ _ e)
    by_case false e =
        let count : length (deadlines_of_case k (ds ++ d ∷ [])) ≡ length (deadlines_of_case k ds) = count_more ds d k ∙ ap (λ b. length (deadlines_of_case k ds) + cond b 1 0) e ∙ omega arith in
        unchanged (length (deadlines_of_case k ds)) count (λ high low. high) (omega arith) (ap (λ j. j == k && row.deadline == n) case ∙ ap (λ b. b && row.deadline == n) e)

    pub with_first : IsKept zone (ds ++ d ∷ []) (rows ++ row ∷ []) k n
    with_first = by_case (d.case == k) refl

-- with an act on a deadline that is there
module _ (zone : ZoneRules) (ds : List DeadlineRow) (rows : List ActRow) (row : ActRow) (low : 1 ≤ row.deadline) (high : row.deadline ≤ length (deadlines_of_case row.case ds)) (more : AreSound zone (acts_of_deadline row.case row.deadline rows ++ row.act ∷ [])) where
  module _ (k n : ℕ) (was : IsKept zone ds rows k n) where
    by_row : (b : Bool) → (row.case == k && row.deadline == n) ≡ b → IsKept zone ds (rows ++ row ∷ []) k n
    by_row false e =
        let same : acts_of_deadline k n (rows ++ row ∷ []) ≡ acts_of_deadline k n rows = acts_more rows row k n ∙ ap (λ b. acts_of_deadline k n rows ++ cond b (row.act ∷ []) []) e ∙ append-nil _ in
        record {
          absent = λ which. same ∙ was.absent which;
          sound = λ l h. subst (AreSound zone) (sym same) (was.sound l h);
        }
    by_row true e =
        let at : row.case ≡ k = grind (arith, nat_tests) in
        let on : row.deadline ≡ n = grind (arith, nat_tests) in
        let there : n ≤ length (deadlines_of_case k ds) = subst (λ (j : ℕ). n ≤ length (deadlines_of_case j ds)) at (omega (arith, high, on)) in
        let all : acts_of_deadline k n (rows ++ row ∷ []) ≡ acts_of_deadline k n rows ++ row.act ∷ [] = acts_more rows row k n ∙ ap (λ b. acts_of_deadline k n rows ++ cond b (row.act ∷ []) []) e in
        let moved : acts_of_deadline row.case row.deadline rows ≡ acts_of_deadline k n rows = λ i. acts_of_deadline (at i) (on i) rows in
        record {
          absent = λ which. absurd (elim which [ inl z ↦ omega (arith, z, on, low) | inr lt ↦ omega (arith, lt, there) ]);
          sound = λ l h. subst (AreSound zone) (sym (all ∙ ap (λ acts. acts ++ row.act ∷ []) (sym moved))) more;
        }

    pub with_later : IsKept zone ds (rows ++ row ∷ []) k n
    with_later = by_row (row.case == k && row.deadline == n) refl

-- with the first acts of new deadlines
same_case : (k : ℕ) → (k == k) ≡ true
same_case k = grind (arith, nat_tests)

module _ (zone : ZoneRules) (k : ℕ) where
  pub with_firsts : (made : List NewDeadline) (ds : List DeadlineRow) (rows : List ActRow) (count : ℕ) → count ≡ length (deadlines_of_case k ds) → AreFirst zone made
      → ((j m : ℕ) → IsKept zone ds rows j m) → (j m : ℕ) → IsKept zone (ds ++ deadline_rows_from k (count + 1) made) (rows ++ first_acts_from k (count + 1) made) j m
  with_firsts [] ds rows count is first was j m = rw (append-nil ds, append-nil rows) (was j m)
  with_firsts (d ∷ made) ds rows count is first was j m =
      let drow : DeadlineRow = record { case = k; number = count + 1; party = d.party; rule = d.rule; initial = d.initial } in
      let arow : ActRow = record { case = k; deadline = count + 1; number = 1; act = d.first } in
      let counted : count + 1 ≡ length (deadlines_of_case k (ds ++ drow ∷ [])) =
      ap (λ n. n + 1) is ∙ sym (count_more ds drow k ∙ ap (λ b. length (deadlines_of_case k ds) + cond b 1 0) (same_case k)) in
      let rest = with_firsts made (ds ++ drow ∷ []) (rows ++ arow ∷ []) (count + 1) counted first.1
      (λ i l. with_first zone ds rows drow arow refl (ap (λ n. n + 1) is) (first_sound zone d.first first.0) i l (was i l)) j m in
      subst (λ (all : List ActRow). IsKept zone (ds ++ drow ∷ deadline_rows_from k (count + 1 + 1) made) all j m) (append_assoc rows (arow ∷ []) (first_acts_from k (count + 1 + 1) made))
      (subst (λ (all : List DeadlineRow). IsKept zone all ((rows ++ arow ∷ []) ++ first_acts_from k (count + 1 + 1) made) j m) (append_assoc ds (drow ∷ []) (deadline_rows_from k (count + 1 + 1) made)) rest)

-- which are no acts of the deadlines before
other_one : (k number n : ℕ) → n < number → (k == k && number == n) ≡ false
other_one k number n less = grind (arith, nat_tests)

pub firsts_other : (k : ℕ) (made : List NewDeadline) (rows : List ActRow) (number n : ℕ) → n < number → acts_of_deadline k n (rows ++ first_acts_from k number made) ≡ acts_of_deadline k n rows
firsts_other k [] rows number n less = ap (acts_of_deadline k n) (append-nil rows)
firsts_other k (d ∷ made) rows number n less =
    let arow : ActRow = record { case = k; deadline = number; number = 1; act = d.first } in
    ap (acts_of_deadline k n) (sym (append_assoc rows (arow ∷ []) (first_acts_from k (number + 1) made)))
    ∙ firsts_other k made (rows ++ arow ∷ []) (number + 1) n (omega (arith, less))
    ∙ acts_more rows arow k n
    ∙ ap (λ b. acts_of_deadline k n rows ++ cond b (d.first ∷ []) []) (other_one k number n less)
    ∙ append-nil _
