-- The outcome of each line of `run`.
use Rattle.std.specs.Prelude.{◌≡◌, ◌⊎◌, ℕ, Bool, true, false, List, [], ◌∷◌, ◌++◌, Result, Ok, Err}
use Rattle.docket_command.specs.declared.command.Command.{Command}
use Rattle.docket_command.specs.declared.refusal.Refusal.{Refusal}
use Rattle.docket_command.specs.declared.refusal.Reply.{Reply}
use Rattle.docket_applying.specs.CourtDockets.{CourtDocket as Docket}
use Rattle.docket_decisions.specs.Outcomes.{Answer, repeated, refused, accepted, outcome, after, after_answer}
use Rattle.docket_wire.specs.Reading.{command_in}
use Rattle.docket_wire.specs.Texts.{reply_text, fault_text}
use Rattle.docket_wire.specs.declared.fault.WireFault.{WireFault}
use Rattle.docket_wire.specs.declared.fault.WireFault.TheVariants.{NotJson}
use Rattle.line_io.specs.Report.{LineAnswer, within, text_of, bad_of, after_of}
use Rattle.line_io.specs.Lines.{lines_of}

-- a repeat gets the reply that the command got at first
abbrev pub answer_text : Answer → List ℕ
answer_text (repeated reply) = reply_text (Ok reply)
answer_text (accepted reply) = reply_text (Ok reply)
answer_text (refused r) = reply_text (Err r)

abbrev pub is_refused : Answer → Bool
is_refused (refused r) = true
is_refused _ = false

-- the docket after a command
abbrev pub docket_with : Docket → Command → Docket
docket_with docket c = record { court = docket.court; history = after docket.court docket.history c }

-- the reply or the refusal is this answer
abbrev pub IsSaid : Result Reply Refusal → Answer → Type 0
IsSaid (Ok reply) answer = (answer ≡ repeated reply) ⊎ (answer ≡ accepted reply)
IsSaid (Err r) answer = answer ≡ refused r

-- a line that spells no command is answered by its fault, and changes nothing
abbrev pub fault_answer : Docket → WireFault → LineAnswer Docket
fault_answer docket fault = record { text = fault_text fault ++ 10 ∷ []; bad = true; after = docket }

-- an answer to a command: only one that is accepted changes the docket
abbrev pub command_answer : Docket → Command → Answer → LineAnswer Docket
command_answer docket c answer = record {
  text = answer_text answer ++ 10 ∷ [];
  bad = is_refused answer;
  after = record { court = docket.court; history = after_answer answer docket.history c };
}

abbrev pub read_answer : Docket → Result Command WireFault → LineAnswer Docket
read_answer docket (Ok c) = command_answer docket c (outcome docket.court docket.history c)
read_answer docket (Err fault) = fault_answer docket fault

-- a line, by the docket that the lines before it left
abbrev pub line_answer : Docket → List ℕ → LineAnswer Docket
line_answer docket line = read_answer docket (command_in line)

-- a line over 1,048,576 bytes is no command either
abbrev pub long_line_answer : Docket → LineAnswer Docket
long_line_answer docket = fault_answer docket NotJson

-- a line of any length
abbrev pub answer_to_line : Docket → List ℕ → LineAnswer Docket
answer_to_line = within 1_048_576 line_answer long_line_answer

-- the answers to the lines in order
abbrev pub run_text : Docket → List ℕ → List ℕ
run_text docket input = text_of answer_to_line docket (lines_of input)

-- how many of them are refusals and faults
abbrev pub bad_answers : Docket → List ℕ → ℕ
bad_answers docket input = bad_of answer_to_line docket (lines_of input)

-- the docket that the lines leave
abbrev pub docket_after : Docket → List ℕ → Docket
docket_after docket input = after_of answer_to_line docket (lines_of input)
