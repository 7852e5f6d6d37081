-- What `count` writes, as one text of its input.
use Rattle.std.specs.Prelude.{ℕ, List}
use Rattle.line_io.specs.Lines.{lines_of}
use Rattle.line_io.specs.Report.{within, text_of, bad_of}
use Rattle.count_lines.specs.Answers.{first_state, line_answer, long_line_answer}

-- the answers to the lines in order, each judged by what the lines before it entered
abbrev pub count_text : List ℕ → List ℕ
count_text input = text_of (within 256 line_answer long_line_answer) first_state (lines_of input)

-- how many of the answers are `bad` or `full`
abbrev pub bad_answers : List ℕ → ℕ
bad_answers input = bad_of (within 256 line_answer long_line_answer) first_state (lines_of input)
