-- The acts of a case given to its deadlines, one deadline after another.
use Rattle.std.proofs.Common.{◌≡◌, ◌∙◌, ◌==◌, ◌+◌, ◌<◌, ◌≤◌, ℕ, zero, suc, List, [], ◌∷◌, ◌++◌, map, length, get_or, take, drop, false, cond, sym, refl, ap, subst, arith}
use Rattle.std.specs.List.Sorted.{IsNonDecreasingBy, IsPartitionPoint}
use Rattle.std.proofs.lemmas.Bool.Decides.{nat_tests}
use Rattle.std.proofs.lemmas.List.Sorted.{IsNonDecreasingBy-drop}
use Rattle.court_rules.specs.declared.act.Act.{Act}
use Rattle.docket_history.specs.Histories.{deadlines_from}
use Rattle.docket_history.specs.declared.row.ActRow.{ActRow}
use Rattle.docket_history.specs.declared.row.DeadlineRow.{DeadlineRow}
use Rattle.docket_history.specs.declared.view.DeadlineView.{DeadlineView}
use Rattle.docket_orderly.specs.Orderly.{RunsFrom, acts_on}
use Rattle.docket_tables.proofs.CaseActs.{of_deadline}
use Rattle.docket_applying.proofs.ViewLemmas.{shown_with, shown_more, number_at}

-- rows are cut behind deadline n: none before the cut is of a later one, and all behind it are
abbrev IsCut : ℕ → List ActRow → ℕ → Type 0
IsCut n = IsPartitionPoint (λ (row : ActRow). row.deadline ≤ n) (λ (row : ActRow). n < row.deadline)

cut_tail : (n p : ℕ) (row : ActRow) (rows : List ActRow) → IsCut n (row ∷ rows) (suc p) → IsCut n rows p
cut_tail n p row rows cut =
    (λ i d low high. cut.0 (suc i) d (omega arith) (omega (arith, high)), λ i d low high. cut.1 (suc i) d (omega (arith, low)) (omega (arith, high)))

none_behind : (n : ℕ) (rows : List ActRow) → ((i : ℕ) (d : ActRow) → i < length rows → n < (get_or rows i d).deadline) → of_deadline n rows ≡ []
none_behind n [] behind = refl
none_behind n (row ∷ rows) behind =
    let other : (row.deadline == n) ≡ false = grind (arith, nat_tests, behind zero row (omega arith)) in
    ap (λ b. cond b (row ∷ of_deadline n rows) (of_deadline n rows)) other ∙ none_behind n rows (λ i d low. behind (suc i) d (omega (arith, low)))

-- the acts of deadline n stand before the cut
pub before_cut : (n p : ℕ) (rows : List ActRow) → IsCut n rows p → of_deadline n (take p rows) ≡ of_deadline n rows
before_cut n zero rows cut = sym (none_behind n rows (λ i d low. cut.1 i d (omega arith) low))
before_cut n (suc p) [] cut = refl
before_cut n (suc p) (row ∷ rows) cut = ap (λ ys. cond (row.deadline == n) (row ∷ ys) ys) (before_cut n p rows (cut_tail n p row rows cut))

-- and those of a later one behind it
pub behind_cut : (n p m : ℕ) (rows : List ActRow) → n < m → IsCut n rows p → p ≤ length rows → of_deadline m (drop p rows) ≡ of_deadline m rows
behind_cut n zero m rows later cut within = refl
behind_cut n (suc p) m [] later cut within = refl
behind_cut n (suc p) m (row ∷ rows) later cut within =
    let other : (row.deadline == m) ≡ false = grind (arith, nat_tests, later, cut.0 zero row (omega arith) (omega arith)) in
    behind_cut n p m rows later (cut_tail n p row rows cut) (omega (arith, within)) ∙ sym (ap (λ b. cond b (row ∷ of_deadline m rows) (of_deadline m rows)) other)

-- one deadline more has its acts, which are cut off, and those of the later ones are left
pub next_shown : (k i : ℕ) (all : List ActRow) (rows : List DeadlineRow) (row : DeadlineRow) (found more : List DeadlineView) (list : List Act) (rest mine later : List ActRow) (count : ℕ) → row ≡ get_or rows i row → RunsFrom 1 (map (λ r. r.number) rows) → i < length rows
    → (found ≡ deadlines_from k 1 all (take i rows)) × ((n : ℕ) → i < n → of_deadline n rest ≡ acts_on k n all) × IsNonDecreasingBy (λ (row : ActRow). row.deadline) rest
    → count ≤ length rest → (IsNonDecreasingBy (λ (row : ActRow). row.deadline) rest → IsCut row.number rest count) → mine ≡ take count rest → later ≡ drop count rest
    → list ≡ map (λ row. row.act) (of_deadline row.number mine) → more ≡ found ++ shown_with row list ∷ []
    → (more ≡ deadlines_from k 1 all (take (i + 1) rows)) × ((n : ℕ) → i + 1 < n → of_deadline n later ≡ acts_on k n all) × IsNonDecreasingBy (λ (row : ActRow). row.deadline) later
next_shown k i all rows row found more list rest mine later count there runs low was within cuts front back listed pushed =
    let number = row.number in
    let number_is : number ≡ 1 + i = ap (λ (r : DeadlineRow). r.number) there ∙ number_at 1 i rows row runs low in
    let cut = cuts was.2 in
    let acts = ap (of_deadline number) front ∙ before_cut number count rest cut ∙ was.1 number (omega (arith, number_is)) in (
      shown_more k i all rows row found more list there runs low was.0 (listed ∙ ap (map (λ row. row.act)) acts) pushed,
      λ n after. ap (of_deadline n) back ∙ behind_cut number count n rest (omega (arith, number_is, after)) cut within ∙ was.1 n (omega (arith, after)),
      subst (IsNonDecreasingBy (λ (row : ActRow). row.deadline)) (sym back) (IsNonDecreasingBy-drop (λ (row : ActRow). row.deadline) count rest was.2),
    )
