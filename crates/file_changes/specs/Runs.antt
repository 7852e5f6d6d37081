-- What a run over the lines of an input prints, and what it leaves of the docket.
use Rattle.std.specs.Prelude.{◌≡◌, ◌⊎◌, ◌≤◌, ℕ, List, ◌++◌, length, Option, Result, Ok, Err}
use Rattle.std.specs.Io.KnownBytes.{Appends}
use Rattle.docket_scan.specs.declared.fault.AdoptFault.{AdoptFault}
use Rattle.docket_tables.specs.Layouts.{Rows}
use Rattle.docket_applying.specs.declared.fault.Fault.TheVariants.{StoreFailed}
use Rattle.line_io.specs.Ending.{BreaksOff}
use Rattle.line_io.specs.Lines.{lines_of}
use Rattle.line_io.specs.Output.{HasFront}
use Rattle.line_io.specs.Report.{after_of, text_of}
use Rattle.line_io.specs.declared.ending.CountEnd.{CountEnd}
use Rattle.docket_applying.specs.CourtDockets.{CourtDocket as Docket}
use Rattle.command_lines.specs.Lines.{bad_answers, docket_after, answer_to_line, run_text}
use Rattle.command_lines.specs.declared.fault.RunFault.{RunFault}
use Rattle.command_lines.specs.declared.fault.RunFault.TheVariants as run
use Rattle.file_dockets.specs.Keeping.{Keeps, rows_told}
use Rattle.file_dockets.specs.Works.{WorksTo}

-- whatever is left, `Left` says that it has the rows or the next ones
module _ (Left : Rows → Rows → Type 0) where
  -- by the docket that the answered lines left, and the next after at most one line more
  abbrev pub LeftBetween : RunFault → Docket → Docket → Type 0
  LeftBetween run.ReadFailed before next = Keeps Left before
  LeftBetween run.WriteFailed before next = Keeps Left next
  LeftBetween run.NoMemory before next = Keeps Left before ⊎ Keeps Left next
  LeftBetween (run.Store StoreFailed) before next = Left (rows_told before) (rows_told next)
  LeftBetween (run.Store _) before next = ⊥

  -- the answers to all lines went out, and the docket after them is left
  pub record AnswersAll (docket : Docket) (input : List ℕ) (before after : Option (List ℕ)) (end : CountEnd) : Type 0 where
    pub text : Appends before after (run_text docket input)
    pub lines : end.lines ≡ length (lines_of input)
    pub bad : end.bad ≡ bad_answers docket input
    pub left : Keeps Left (docket_after docket input)

  -- a prefix of the answers went out
  pub record AnswersFront (docket : Docket) (input : List ℕ) (before after : Option (List ℕ)) (fault : RunFault) : Type 0 where
    pub text : HasFront before after (run_text docket input)
    pub left : BreaksOff answer_to_line (LeftBetween fault) 0 docket (lines_of input) before after

  abbrev pub Answers : Docket → List ℕ → Option (List ℕ) → Option (List ℕ) → Result CountEnd RunFault → Type 0
  Answers docket input before after (Ok end) = AnswersAll docket input before after end
  Answers docket input before after (Err fault) = AnswersFront docket input before after fault

  -- the same where the docket was adopted
  abbrev pub RunsTo : Docket → List ℕ → Option (List ℕ) → Option (List ℕ) → Result (Result CountEnd RunFault) AdoptFault → Type 0
  RunsTo docket input before after outcome = WorksTo (Answers docket input before after) outcome

  -- The promise over lines: what is left, also past a power failure, is the docket of the lines `answered`, or of them and of one line more;
  -- the whole answers of the former went out, and nothing behind the answer of the latter.
  pub record LeavesPrefix (docket : Docket) (input : List ℕ) (before after : Option (List ℕ)) : Type 0 where
    pub answered : List (List ℕ)
    pub more : List (List ℕ)
    pub rest : List (List ℕ)
    pub whole : lines_of input ≡ (answered ++ more) ++ rest
    pub one_more : length more ≤ 1
    pub out : List ℕ
    pub appends : Appends before after out
    pub begun : List ℕ
    pub acknowledged : out ≡ text_of answer_to_line docket answered ++ begun
    pub lost : List ℕ
    pub no_further : text_of answer_to_line docket (answered ++ more) ≡ out ++ lost
    pub left : Left (rows_told (after_of answer_to_line docket answered)) (rows_told (after_of answer_to_line docket (answered ++ more)))
