-- The acts of a deadline where rows of acts are added, and those that changes add.
use Rattle.std.proofs.Common.{◌≡◌, ◌∙◌, ◌<◌, ◌⊎◌, inl, inr, ℕ, ◌+◌, ◌==◌, ◌&&◌, Bool, true, false, cond, List, [], ◌∷◌, ◌++◌, map, filter, length, refl, sym, ap, ap₂, arith, append-nil, append_assoc}
use Rattle.std.proofs.lemmas.Bool.Decides.{nat_tests}
use Rattle.std.proofs.lemmas.Bool.{and_right}
use Rattle.std.proofs.lemmas.List.{map-append}
use Rattle.std.proofs.lemmas.List.Elements.{filter-append}
use Rattle.court_rules.specs.declared.act.Act.{Act}
use Rattle.docket_decisions.specs.EndMoves.{acts_before}
use Rattle.docket_history.specs.Histories.{acts_of_deadline, first_acts_from, act_rows_on}
use Rattle.docket_decisions.specs.Tables.{Tables, changed, all_changed}
use Rattle.docket_history.specs.declared.row.NewDeadline.{NewDeadline}
use Rattle.docket_history.specs.declared.row.ActRow.{ActRow}
use Rattle.docket_history.specs.declared.row.Change.{Change}
use Rattle.docket_history.specs.declared.row.Change.TheVariants.{AddCalendar, RemoveCalendar, AddCase, AddParty, AddEntry, AddDeadline, AddAct, AddLocalRule}

-- the acts of a deadline, among those of more rows

pub acts_both : (k n : ℕ) (xs ys : List ActRow) → acts_of_deadline k n (xs ++ ys) ≡ acts_of_deadline k n xs ++ acts_of_deadline k n ys
acts_both k n xs ys =
    ap (map (λ (row : ActRow). row.act)) (filter-append (λ (row : ActRow). row.case == k && row.deadline == n) xs ys)
    ∙ map-append (λ (row : ActRow). row.act) (filter (λ (row : ActRow). row.case == k && row.deadline == n) xs) (filter (λ (row : ActRow). row.case == k && row.deadline == n) ys)

pub one_act : (k n : ℕ) (row : ActRow) (rows : List ActRow) (b : Bool) → (row.case == k && row.deadline == n) ≡ b → acts_of_deadline k n (row ∷ rows) ≡ cond b (row.act ∷ acts_of_deadline k n rows) (acts_of_deadline k n rows)
one_act k n row rows true e = ap (λ b. map (λ (r : ActRow). r.act) (cond b (row ∷ filter (λ (r : ActRow). r.case == k && r.deadline == n) rows) (filter (λ (r : ActRow). r.case == k && r.deadline == n) rows))) e
one_act k n row rows false e = ap (λ b. map (λ (r : ActRow). r.act) (cond b (row ∷ filter (λ (r : ActRow). r.case == k && r.deadline == n) rows) (filter (λ (r : ActRow). r.case == k && r.deadline == n) rows))) e

pub both_same : (k n : ℕ) → (k == k && n == n) ≡ true
both_same k n = let a : (k == k) ≡ true = grind (arith, nat_tests) in let b : (n == n) ≡ true = grind (arith, nat_tests) in ap₂ (λ x y. x && y) a b

pub turned : (j m k n : ℕ) → (j == k && m == n) ≡ false → (k == j && n == m) ≡ false
turned j m k n e = grind (arith, nat_tests, e)

-- of another case, or of a deadline before the new ones
abbrev pub IsEarlier : ℕ → ℕ → ℕ → ℕ → Type 0
IsEarlier j n k m = ((k == j) ≡ false) ⊎ (n < m)

pub is_earlier : (j n k m : ℕ) → IsEarlier j n k m → (k == j && m == n) ≡ false
is_earlier j n k m (inl other) = ap (λ b. b && m == n) other
is_earlier j n k m (inr low) = let other : (m == n) ≡ false = grind (arith, nat_tests, low) in ap (λ b. (k == j) && b) other ∙ and_right (k == j) false refl

pub no_firsts : (j n k m : ℕ) (made : List NewDeadline) → IsEarlier j n k m → acts_of_deadline j n (first_acts_from k m made) ≡ []
no_firsts j n k m [] off = refl
no_firsts j n k m (d ∷ made) off =
    one_act j n (record { case = k; deadline = m; number = 1; act = d.first }) (first_acts_from k (m + 1) made) false (is_earlier j n k m off)
    ∙ no_firsts j n k (m + 1) made (elim off [ inl other ↦ inl other | inr low ↦ inr (omega (arith, low)) ])

pub no_later : (j n k d m : ℕ) (acts : List Act) → (k == j && d == n) ≡ false → acts_of_deadline j n (act_rows_on k d m acts) ≡ []
no_later j n k d m [] off = refl
no_later j n k d m (act ∷ acts) off = one_act j n (record { case = k; deadline = d; number = m; act = act }) (act_rows_on k d (m + 1) acts) false off ∙ no_later j n k d (m + 1) acts off

pub its_later : (k n m : ℕ) (acts : List Act) → acts_of_deadline k n (act_rows_on k n m acts) ≡ acts
its_later k n m [] = refl
its_later k n m (act ∷ acts) = one_act k n (record { case = k; deadline = n; number = m; act = act }) (act_rows_on k n (m + 1) acts) true (both_same k n) ∙ ap (λ xs. act ∷ xs) (its_later k n (m + 1) acts)

pub named_before : (named : List Act) (k n : ℕ) (act : Act) → acts_before named (record { case = k; deadline = n; number = length named + 1; act = act }) ≡ named
named_before [] k n act = refl
named_before (x ∷ named) k n act =
    let more : (length (x ∷ named) + 1 == 1) ≡ false = grind (arith, nat_tests) in
    ap (λ b. cond b [] (x ∷ named)) more

-- the acts that changes add

abbrev pub acts_added : List Change → List ActRow
acts_added [] = []
acts_added (AddAct row ∷ xs) = row ∷ acts_added xs
acts_added (AddCalendar row ∷ xs) = acts_added xs
acts_added (RemoveCalendar number ∷ xs) = acts_added xs
acts_added (AddCase row ∷ xs) = acts_added xs
acts_added (AddParty row ∷ xs) = acts_added xs
acts_added (AddEntry row ∷ xs) = acts_added xs
acts_added (AddDeadline row ∷ xs) = acts_added xs
acts_added (AddLocalRule row ∷ xs) = acts_added xs

pub acts_are : (changes : List Change) (t : Tables) → (all_changed changes t).acts ≡ t.acts ++ acts_added changes
acts_are [] t = sym (append-nil t.acts)
acts_are (AddAct row ∷ xs) t = acts_are xs (changed (AddAct row) t) ∙ append_assoc t.acts (row ∷ []) (acts_added xs)
acts_are (AddCalendar row ∷ xs) t = acts_are xs (changed (AddCalendar row) t)
acts_are (RemoveCalendar number ∷ xs) t = acts_are xs (changed (RemoveCalendar number) t)
acts_are (AddCase row ∷ xs) t = acts_are xs (changed (AddCase row) t)
acts_are (AddParty row ∷ xs) t = acts_are xs (changed (AddParty row) t)
acts_are (AddEntry row ∷ xs) t = acts_are xs (changed (AddEntry row) t)
acts_are (AddDeadline row ∷ xs) t = acts_are xs (changed (AddDeadline row) t)
acts_are (AddLocalRule row ∷ xs) t = acts_are xs (changed (AddLocalRule row) t)
