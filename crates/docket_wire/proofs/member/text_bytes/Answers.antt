use Rattle.civil_time.proofs.Written.{day_text-utf8}
use Rattle.docket_wire.proofs.member.text_bytes.Goals as goal

pub returns-clause-text : goal.returns-clause-text
returns-clause-text c = rw c.day_bytes.ensures.value (day_text-utf8 c.args.day)
