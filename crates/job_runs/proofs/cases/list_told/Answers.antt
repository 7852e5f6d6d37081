use Rattle.std.proofs.Common.{subst}
use Rattle.line_io.specs.Output.{AppendsFront}
use Rattle.line_io.proofs.Sending.{front-sent}
use Rattle.job_runs.proofs.cases.list_told.Goals as goal

pub returns-in-Ok-eq0-clause-missing : goal.returns-in-Ok-eq0-clause-missing
returns-in-Ok-eq0-clause-missing g c = λ is.
    subst (AppendsFront (g.E.Write.contents c.args.e.now) (g.E.Write.contents c.write_bytes.new.writer)) c.as_bytes.ensures.value
    (front-sent c.write_bytes.result _ _ _ c.write_bytes.ensures.whole c.write_bytes.ensures.front)
