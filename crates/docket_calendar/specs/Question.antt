-- The question for the deadlines whose time runs to a day of a range, in the order of the calendar.
use Rattle.std.specs.Prelude.{ℕ, List, [], ◌∷◌, pos, codes}
use Rattle.sqlite_value.specs.declared.value.Value.TheVariants.{Int}
use Rattle.sqlite_value.specs.Order.{Row}

abbrev pub question : List ℕ
question = codes "SELECT due.day, due.moment, due.case_no, due.deadline_no, deadline.party, deadline.rule FROM due JOIN deadline ON deadline.case_no = due.case_no AND deadline.number = due.deadline_no WHERE due.day >= ?1 AND due.day <= ?2 ORDER BY due.day, due.moment, due.case_no, due.deadline_no"

-- the days of the range, both included
abbrev pub days_asked : ℕ → ℕ → Row
days_asked from to = Int (pos from) ∷ Int (pos to) ∷ []
