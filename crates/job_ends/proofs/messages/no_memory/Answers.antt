use Rattle.line_io.proofs.Sending.{front-sent}
use Rattle.job_ends.proofs.messages.no_memory.Goals as goal

pub returns-clause-told : goal.returns-clause-told
returns-clause-told g c = front-sent c.write_bytes.result _ _ _ c.write_bytes.ensures.whole c.write_bytes.ensures.front
