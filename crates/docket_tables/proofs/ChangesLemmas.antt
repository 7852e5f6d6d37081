-- Changes, one after another.
use Rattle.std.proofs.Common.{◌≡◌, ◌∙◌, ◌+◌, ◌<◌, ◌≤◌, ℕ, List, [], ◌∷◌, ◌++◌, length, take, get_or, refl, sym, ap, arith}
use Rattle.std.proofs.lemmas.List.{take_more, length-take}
use Rattle.docket_decisions.specs.Tables.{Tables, changed, all_changed}
use Rattle.docket_history.specs.declared.row.Change.{Change}
use Rattle.docket_history.specs.declared.row.Change.TheVariants.{AddCalendar, RemoveCalendar, AddCase, AddParty, AddEntry, AddDeadline, AddAct, AddLocalRule}

all_changed-append : (xs : List Change) (x : Change) (t : Tables) → all_changed (xs ++ x ∷ []) t ≡ changed x (all_changed xs t)
all_changed-append [] x t = refl
all_changed-append (y ∷ ys) x t = all_changed-append ys x (changed y t)

one_counted : (x : Change) (t : Tables) → (changed x t).next_row ≤ t.next_row + 1
one_counted (AddCalendar row) t = omega arith
one_counted (RemoveCalendar number) t = omega arith
one_counted (AddCase row) t = omega arith
one_counted (AddParty row) t = omega arith
one_counted (AddEntry row) t = omega arith
one_counted (AddDeadline row) t = omega arith
one_counted (AddAct row) t = omega arith
one_counted (AddLocalRule row) t = omega arith

all_counted : (xs : List Change) (t : Tables) → (all_changed xs t).next_row ≤ t.next_row + length xs
all_counted [] t = omega arith
all_counted (x ∷ xs) t = omega (arith, all_counted xs (changed x t), one_counted x t)

-- before each of them, the numbers of calendar rows are at most so many more
pub counted_within : (xs : List Change) (t : Tables) (i : ℕ) → i < length xs → (all_changed (take i xs) t).next_row + 1 ≤ t.next_row + length xs
counted_within xs t i inside = omega (arith, all_counted (take i xs) t, length-take i xs, inside)

pub changed_next : (xs : List Change) (x : Change) (t : Tables) (i : ℕ) → i < length xs → x ≡ get_or xs i x → changed x (all_changed (take i xs) t) ≡ all_changed (take (i + 1) xs) t
changed_next xs x t i inside is =
    sym (all_changed-append (take i xs) x t) ∙ ap (λ y. all_changed (take i xs ++ y ∷ []) t) is ∙ ap (λ ys. all_changed ys t) (sym (take_more xs i x inside))
