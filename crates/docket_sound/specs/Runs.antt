-- The rows of acts, deadline by deadline.
use Rattle.std.specs.Prelude.{ℕ, Bool, ◌==◌, ◌&&◌, if◌then◌else◌, List, [], ◌∷◌, ◌++◌}
use Rattle.docket_history.specs.declared.row.ActRow.{ActRow}
use Rattle.docket_sound.specs.declared.numbering.Key.{Key}

-- rows on one deadline that follow one another
pub record Run : Type 0 where
  pub case : ℕ
  pub deadline : ℕ
  pub rows : List ActRow

abbrev pub alone : ActRow → Run
alone row = record { case = row.case; deadline = row.deadline; rows = row ∷ [] }

abbrev pub is_on : Run → ActRow → Bool
is_on run row = row.case == run.case && row.deadline == run.deadline

abbrev pub with_row : Run → ActRow → Run
with_row run row = record run { rows = run.rows ++ row ∷ [] }

-- the runs of rows, where the first of them is under way
abbrev pub runs_from : Run → List ActRow → List Run
runs_from run [] = run ∷ []
runs_from run (row ∷ rows) =
    if is_on run row then runs_from (with_row run row) rows
    else run ∷ runs_from (alone row) rows

-- rows as runs, each of one deadline
abbrev pub runs_of : List ActRow → List Run
runs_of [] = []
runs_of (row ∷ rows) = runs_from (alone row) rows

abbrev pub run_key : Run → Key
run_key run = record { case = run.case; number = run.deadline }

-- what is closed of the runs, and the run under way

abbrev pub closed_after : Run → List ActRow → List Run
closed_after run [] = []
closed_after run (row ∷ rows) =
    if is_on run row then closed_after (with_row run row) rows
    else run ∷ closed_after (alone row) rows

abbrev pub open_after : Run → List ActRow → Run
open_after run [] = run
open_after run (row ∷ rows) = if is_on run row then open_after (with_row run row) rows else open_after (alone row) rows

abbrev pub closed_of : List ActRow → List Run
closed_of [] = []
closed_of (row ∷ rows) = closed_after (alone row) rows

abbrev pub open_of : List ActRow → Run
open_of [] = record { case = 0; deadline = 0; rows = [] }
open_of (row ∷ rows) = open_after (alone row) rows
