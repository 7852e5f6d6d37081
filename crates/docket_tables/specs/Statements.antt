-- The statements that change rows which stand.
use Rattle.std.specs.Prelude.{codes, List, ℕ}

-- the calendar loses a row
abbrev pub delete_text : List ℕ
delete_text = codes "DELETE FROM calendar WHERE row_no = ?1"

-- the short days lose one
abbrev pub delete_short_day_text : List ℕ
delete_short_day_text = codes "DELETE FROM short_day WHERE row_no = ?1"

-- the end of a deadline goes
abbrev pub delete_end_text : List ℕ
delete_end_text = codes "DELETE FROM due WHERE case_no = ?1 AND deadline_no = ?2"

-- the end of a deadline moves
abbrev pub move_end_text : List ℕ
move_end_text = codes "UPDATE due SET day = ?3, moment = ?4 WHERE case_no = ?1 AND deadline_no = ?2"

-- a number of a calendar row is used
abbrev pub count_text : List ℕ
count_text = codes "UPDATE court SET next_row = next_row + 1 WHERE id = 1"
