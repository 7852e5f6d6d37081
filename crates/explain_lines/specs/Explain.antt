-- What `explain` writes, as one text of its input.
use Rattle.std.specs.Prelude.{ℕ, List}
use Rattle.count_lines.specs.Answers.{first_state, long_line_answer}
use Rattle.explain_lines.specs.Explained.{explained}
use Rattle.line_io.specs.Lines.{lines_of}
use Rattle.line_io.specs.Report.{within, text_of}

-- the answers to the lines in order, each by what the lines before it entered; a line of over 256 bytes is bad
abbrev pub explain_text : List ℕ → List ℕ
explain_text input = text_of (within 256 explained long_line_answer) first_state (lines_of input)
