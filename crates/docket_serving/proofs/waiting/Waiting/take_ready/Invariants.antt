use Rattle.std.proofs.Common.{◌≡◌, ◌<◌, ◌≤◌, ℕ, vec_len, slice_index_or}
use Rattle.http_request.specs.Request.{EndsEarly}
use Rattle.docket_serving.specs.declared.caller.Caller.{Caller}
use Rattle.docket_serving.specs.Waiting.{streams}
use Rattle.docket_serving.proofs.waiting.Waiting.take_ready.Given as goal

abbrev pub invariant-loop-at : goal.invariant-loop-at
invariant-loop-at l = record {
  within : l.at ≤ l.at-end;
  len : vec_len l.self.all ≡ l.at-end;
  streams : streams l.self.all.items ≡ streams l.fn.self.all.items;
  unready : (k : ℕ) → (d : Caller) → k < l.at → EndsEarly l.fn.routes (slice_index_or l.self.all.items k d).came.items;
}
