-- What a run over lines leaves at a fault.
use Rattle.std.specs.Prelude.{◌≡◌, ℕ, ◌+◌, ◌≤◌, List, ◌++◌, length, Option}
use Rattle.std.specs.Io.KnownBytes.{Appends}
use Rattle.line_io.specs.declared.ending.LineFault.{LineFault}
use Rattle.line_io.specs.declared.ending.LineFault.TheVariants.{ReadFailed, WriteFailed, NoMemory, Unanswered}
use Rattle.line_io.specs.Report.{LineAnswer, text_of, after_of}

-- What is known of the state after a fault: s is the state that the answered lines left, and t that after
-- perhaps one more. A line whose answer could not be written was done. For one that could not be answered, the
-- answerer states what it left.
abbrev pub Leaves : {E S : Type 0} → (S → Type 0) → (E → S → S → Type 0) → LineFault E → S → S → Type 0
Leaves Shows Fails ReadFailed s t = Shows s
Leaves Shows Fails WriteFailed s t = Shows t
Leaves Shows Fails NoMemory s t = Shows s
Leaves Shows Fails (Unanswered fault) s t = Fails fault s t

-- A run over lines broke off after the lines `answered` and perhaps one more, and Left is what is known of the
-- state. What went out is a front of the answers to these lines. At most so many bytes of the answers to the
-- lines without the one more are missing in it.
pub record BreaksOff {S : Type 0} (answer_to : S → List ℕ → LineAnswer S) (Left : S → S → Type 0) (most : ℕ) (s : S)
    (lines : List (List ℕ)) (old new : Option (List ℕ)) : Type 0 where
  pub answered : List (List ℕ)
  pub more : List (List ℕ)
  pub rest : List (List ℕ)
  pub whole : lines ≡ (answered ++ more) ++ rest
  pub one_more : length more ≤ 1
  pub left : Left (after_of answer_to s answered) (after_of answer_to s (answered ++ more))
  pub out : List ℕ
  pub lost : List ℕ
  pub text : text_of answer_to s (answered ++ more) ≡ out ++ lost
  pub appends : Appends old new out
  pub missing : length (text_of answer_to s answered) ≤ length out + most
