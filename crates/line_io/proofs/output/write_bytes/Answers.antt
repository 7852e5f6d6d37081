use Rattle.std.proofs.Common.{arith}
use Rattle.line_io.proofs.Sending.{Appends-on}
use Rattle.line_io.proofs.output.write_bytes.Goals as goal

pub loop-done-preserved : goal.loop-done-preserved
loop-done-preserved g c = record {
  within = omega (arith, c.in-Ok.ensures.bound);
  out = Appends-on _ _ _ c.args.bytes.now c.loop-done.done c.in-Ok.count c.loop-done.invariant.out c.in-Ok.ensures.bytes;
}
