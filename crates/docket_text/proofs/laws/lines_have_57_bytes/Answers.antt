use Rattle.docket_text.proofs.LineLemmas.{calendar_line-length, rule_name-length}
use Rattle.docket_text.proofs.laws.lines_have_57_bytes.Goals as goal

pub returns-clause-lines : goal.returns-clause-lines
returns-clause-lines c = calendar_line-length

pub returns-clause-rules : goal.returns-clause-rules
returns-clause-rules c = rule_name-length
