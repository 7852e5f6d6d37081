use Rattle.std.proofs.Common.{◌≡◌, ◌++◌}
use Rattle.form_urlencoded.specs.Form.{decode}
use Rattle.percent_encoding.specs.Iter.{decoded_bytes}
use Rattle.http_request.proofs.search.decoded.Given as goal

abbrev pub invariant-loop-byte : goal.invariant-loop-byte
invariant-loop-byte l = l.bytes.items ++ decoded_bytes l.byte-iterator ≡ decode l.value
