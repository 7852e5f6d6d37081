use Rattle.std.proofs.Common.{refl, subst, List, ℕ, ◌++◌}
use Rattle.line_io.specs.Output.{HasFront}
use Rattle.docket_calendar.proofs.Fronts.{front_of_first, front_of_second}
use Rattle.docket_calendar.proofs.sending.send.Goals as goal

pub returns-in-Err : goal.returns-in-Err
returns-in-Err g c = (refl, front_of_first _ _ c.args.front.now c.args.text.now c.in-Err.ensures.front)

pub returns-in-Err-write_bytes : goal.returns-in-Err-write_bytes
returns-in-Err-write_bytes g c = (
  refl,
  subst (λ (text : List ℕ). HasFront (g.W.Write.contents c.args.writer.now) (g.W.Write.contents c.write_bytes-2.new.writer) (c.args.front.now ++ text)) c.as_bytes.ensures.value
      (front_of_second _ _ _ c.args.front.now _ c.in-Ok.ensures.whole c.in-Err-write_bytes.ensures.front),
)
