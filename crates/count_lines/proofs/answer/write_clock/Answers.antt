use Rattle.std.proofs.Common.{rules}
use Rattle.count_lines.proofs.answer.write_clock.Goals as goal

pub returns-clause-ok : goal.returns-clause-ok
returns-clause-ok c = rw (← c.copy_from_slice.ensures.after) (search rules)
