use Rattle.std.proofs.Common.{rules}
use Rattle.sqlite.specs.Held.{state}
use Rattle.docket_calendar.proofs.JoinMeans.{days_write_nothing}
use Rattle.docket_calendar.proofs.gathering.gather_days.Goals as goal

pub returns-clause-cause : goal.returns-clause-cause
returns-clause-cause g c = λ rows holds. c.gather.ensures.cause c.args.from c.args.to rows c.question.ensures (search rules) holds

pub returns-clause-writes_nothing : goal.returns-clause-writes_nothing
returns-clause-writes_nothing g c =
    days_write_nothing _ _ (state g.S.Store c.args.conn.now) (state g.S.Store c.gather.new.conn) c.question.ensures c.gather.ensures.survives
