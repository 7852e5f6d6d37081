use Rattle.std.proofs.Common.{sym}
use Rattle.count_lines.proofs.Words.{no-word, word-at}
use Rattle.count_lines.proofs.request.split_word.Goals as goal

pub returns-in_err-at : goal.returns-in_err-at
returns-in_err-at c = rw c.from_residual.ensures (sym (no-word c.args.line.now c.in_err-at.ensures))

pub returns : goal.returns
returns c = sym (word-at c.args.line.now c.in_ok-at.at c.in_ok-at.ensures.0 c.in_ok-at.ensures.1)
