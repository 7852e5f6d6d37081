-- What a part of a run did, for the functions that the run is made of.
use Rattle.std.specs.Prelude.{◌≡◌, ℕ, ◌+◌, ◌≤◌, List, [], ◌++◌, length, take, Option}
use Rattle.std.specs.Io.KnownBytes.{Appends}
use Rattle.line_io.specs.Lines.{lines_from, lines_of}
use Rattle.line_io.specs.Report.{LineAnswer, text_of, bad_of, after_of, within}
use Rattle.line_io.specs.declared.lines.Progress.{Progress}

-- This holds from each state that is shown, and for each part of a line of which this is kept, as long as what the
-- answers rely on is not lost.
abbrev pub FromEach : {S : Type 0} → Type 0 → (S → Type 0) → ℕ → List ℕ → (S → List ℕ → Type 0) → Type 0
FromEach {S} Trusted Shows most kept Holds = (s : S) (part : List ℕ) → Shows s → Trusted → kept ≡ take most part → Holds s part

-- What was pending, and then the text, went out, but for what is pending now.
pub record Sends (before now : Option (List ℕ)) (pending text left : List ℕ) : Type 0 where
  pub out : List ℕ
  pub appends : Appends before now out
  pub same : pending ++ text ≡ out ++ left

-- A piece was taken: its lines are answered, and of what stands behind them at most so many bytes are kept.
pub record Takes {S : Type 0} (answer_to : S → List ℕ → LineAnswer S) (Shows : S → Type 0) (most : ℕ) (s : S) (part piece kept : List ℕ)
    (before now : Option (List ℕ)) (pending left : List ℕ) (lines bad new_lines new_bad : ℕ) : Type 0 where
  pub ended : List (List ℕ)
  pub open_part : List ℕ
  pub goes : (rest : List ℕ) → lines_from part (piece ++ rest) ≡ ended ++ lines_from open_part rest
  pub shows : Shows (after_of answer_to s ended)
  pub keeps : kept ≡ take most open_part
  pub sends : Sends before now pending (text_of answer_to s ended) left
  pub lines_more : new_lines ≡ lines + length ended
  pub bad_more : new_bad ≡ bad + bad_of answer_to s ended

-- A fault came: some lines were answered, and perhaps one more. What went out, and then what is pending now, is
-- a front of what was pending and then of their answers, in which at most so many bytes are missing before the one more.
pub record Stops {S : Type 0} (answer_to : S → List ℕ → LineAnswer S) (Left : S → S → Type 0) (most : ℕ) (s : S)
    (lines : List (List ℕ)) (before now : Option (List ℕ)) (pending left : List ℕ) : Type 0 where
  pub answered : List (List ℕ)
  pub more : List (List ℕ)
  pub rest : List (List ℕ)
  pub whole : lines ≡ answered ++ (more ++ rest)
  pub one_more : length more ≤ 1
  pub known : Left (after_of answer_to s answered) (after_of answer_to (after_of answer_to s answered) more)
  pub out : List ℕ
  pub lost : List ℕ
  pub appends : Appends before now out
  pub front : pending ++ (text_of answer_to s answered ++ text_of answer_to (after_of answer_to s answered) more) ≡ (out ++ left) ++ lost
  pub missing : length (pending ++ text_of answer_to s answered) ≤ length out + most

-- The last lines were answered, and the answers joined what is pending.
pub record Ends {S : Type 0} (answer_to : S → List ℕ → LineAnswer S) (Shows : S → Type 0) (s : S) (ended : List (List ℕ))
    (pending left : List ℕ) (lines bad new_lines new_bad : ℕ) : Type 0 where
  pub sends : left ≡ pending ++ text_of answer_to s ended
  pub lines_more : new_lines ≡ lines + length ended
  pub bad_more : new_bad ≡ bad + bad_of answer_to s ended
  pub shows : Shows (after_of answer_to s ended)

-- All lines are answered, and the answers have gone out, but for the last one, which is pending.
pub record Tells {S : Type 0} (answer_to : S → List ℕ → LineAnswer S) (Shows : S → Type 0) (s : S) (lines : List (List ℕ))
    (before now : Option (List ℕ)) (pending : List ℕ) (count bad : ℕ) : Type 0 where
  pub sent : List (List ℕ)
  pub last : List (List ℕ)
  pub whole : lines ≡ sent ++ last
  pub one_more : length last ≤ 1
  pub appends : Appends before now (text_of answer_to s sent)
  pub waits : pending ≡ text_of answer_to (after_of answer_to s sent) last
  pub lines_are : count ≡ length lines
  pub bad_are : bad ≡ bad_of answer_to s lines
  pub shows : Shows (after_of answer_to s lines)

-- The same, by how far the run has come.

abbrev pub FromKept : {S : Type 0} → Type 0 → (S → Type 0) → ℕ → Progress → (S → List ℕ → Type 0) → Type 0
FromKept Trusted Shows limit progress Holds = FromEach Trusted Shows (limit + 2) progress.kept.items Holds

module _ {S : Type 0} (limit : ℕ) (answer_to : S → List ℕ → LineAnswer S) (too_long : S → LineAnswer S) where
  abbrev pub TakesPiece : (S → Type 0) → S → List ℕ → List ℕ → Progress → Progress → Option (List ℕ) → Option (List ℕ) → Type 0
  TakesPiece Shows s part piece old new before now =
      Takes (within limit answer_to too_long) Shows (limit + 2) s part piece new.kept.items before now
      old.pending.items new.pending.items old.counts.lines old.counts.bad new.counts.lines new.counts.bad

  -- whatever came behind the piece
  abbrev pub StopsIn : (S → S → Type 0) → ℕ → S → List ℕ → List ℕ → Progress → Progress → Option (List ℕ) → Option (List ℕ) → Type 0
  StopsIn Left most s part piece old new before now =
      (rest : List ℕ) → Stops (within limit answer_to too_long) Left most s (lines_from part (piece ++ rest)) before now old.pending.items new.pending.items

  -- from the first byte of the input
  abbrev pub StopsOn : (S → S → Type 0) → ℕ → S → List ℕ → Progress → Option (List ℕ) → Option (List ℕ) → Type 0
  StopsOn Left most s input new before now = Stops (within limit answer_to too_long) Left most s (lines_of input) before now [] new.pending.items

  abbrev pub EndsIn : (S → Type 0) → S → List (List ℕ) → Progress → Progress → Type 0
  EndsIn Shows s ended old new =
      Ends (within limit answer_to too_long) Shows s ended old.pending.items new.pending.items old.counts.lines old.counts.bad new.counts.lines new.counts.bad

  abbrev pub TellsOf : (S → Type 0) → S → List ℕ → Progress → Option (List ℕ) → Option (List ℕ) → Type 0
  TellsOf Shows s input new before now =
      Tells (within limit answer_to too_long) Shows s (lines_of input) before now new.pending.items new.counts.lines new.counts.bad
