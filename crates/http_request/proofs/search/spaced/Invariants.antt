use Rattle.std.proofs.Common.{◌≡◌, ◌++◌, drop, map}
use Rattle.form_urlencoded.specs.Form.{plus_to_space}
use Rattle.http_request.proofs.search.spaced.Given as goal

abbrev pub invariant-loop-byte : goal.invariant-loop-byte
invariant-loop-byte l = l.bytes.items ++ map plus_to_space (drop l.byte-index l.value) ≡ map plus_to_space l.value
