use Rattle.std.proofs.Common.{◌≡◌, ◌∙◌, length}
use Rattle.std.specs.Io.KnownBytes.{Appends}
use Rattle.std.proofs.lemmas.Option.{IfSome_then}
use Rattle.line_io.specs.Lines.{lines_of}
use Rattle.count_lines.specs.Answers.{first_state}
use Rattle.count_lines.specs.Count.{bad_answers}
use Rattle.explain_lines.specs.Explain.{explain_text}
use Rattle.explain_lines.proofs.Judging.{same_bad_of}
use Rattle.explain_lines.proofs.explain.explain_run.Goals as goal

pub returns-in-Ok-run_lines-clause-whole : goal.returns-in-Ok-run_lines-clause-whole
returns-in-Ok-run_lines-clause-whole g c =
    IfSome_then (g.R.Read.remaining c.args.reader.now)
    {Q = λ input. Appends (g.W.Write.contents c.args.writer.now) (g.W.Write.contents c.run_lines.new.writer) (explain_text input)
    × (c.in-Ok-run_lines.end.lines ≡ length (lines_of input)) × (c.in-Ok-run_lines.end.bad ≡ bad_answers input)}
    (c.in-Ok-run_lines.ensures.whole first_state c.in-Ok.ensures tt)
    (λ input told. (told.0, told.1, told.2 ∙ same_bad_of first_state (lines_of input)))

pub returns-clause-front : goal.returns-clause-front
returns-clause-front g c = c.in-Err.ensures.front first_state c.in-Ok.ensures tt
