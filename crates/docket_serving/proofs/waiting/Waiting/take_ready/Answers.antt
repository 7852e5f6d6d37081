use Rattle.std.proofs.Common.{◌∙◌, ap, arith, length-set, slice_set}
use Rattle.std.proofs.Math.Seq.{map-set_same}
use Rattle.http_request.specs.Request.{EndsEarly}
use Rattle.docket_serving.specs.declared.caller.Caller.{Caller}
use Rattle.docket_serving.proofs.WaitingLemmas.{one_more, taken_out}
use Rattle.docket_serving.proofs.waiting.Waiting.take_ready.Goals as goal

pub returns-then-is_ready-clause-some : goal.returns-then-is_ready-clause-some
returns-then-is_ready-clause-some c =
    let now = c.loop-at.self.all.items in
    taken_out (λ (x : Caller). x.stream) c.args.self.now.all.items (slice_set now c.loop-at.at c.is_ready.new.self) c.remove.new.self.items c.loop-at.at c.remove.result (omega (arith, length-set now c.loop-at.at c.is_ready.new.self))
    (map-set_same (λ (x : Caller). x.stream) now c.loop-at.at c.is_ready.new.self c.index_mut.result.now (c.is_ready.ensures.stream ∙ ap (λ (x : Caller). x.stream) c.index_mut.ensures.value) ∙ c.loop-at.invariant.streams)
    c.remove.ensures.value c.remove.ensures.by_index.2

pub loop-at-preserved : goal.loop-at-preserved
loop-at-preserved c =
    let now = c.loop-at.self.all.items in
    record {
      within = omega arith;
      len = c.loop-at.invariant.len;
      streams = map-set_same (λ (x : Caller). x.stream) now c.loop-at.at c.is_ready.new.self c.index_mut.result.now (c.is_ready.ensures.stream ∙ ap (λ (x : Caller). x.stream) c.index_mut.ensures.value) ∙ c.loop-at.invariant.streams;
      unready = one_more (λ (x : Caller). EndsEarly c.args.routes.now x.came.items) now c.loop-at.at c.is_ready.new.self (omega arith) c.loop-at.invariant.unready (c.is_ready.ensures.waits c.if-is_ready.false);
    }

pub returns-clause-unready : goal.returns-clause-unready
returns-clause-unready c = λ k d less. c.loop-at.invariant.unready k d (omega arith)
