-- An instant as the code holds it.
use Rattle.std.proofs.Common.{◌≡◌, ◌≤◌, ℤ, pos, negsuc, to_z, of_z, to_z-of_z, w64, FitsSigned, arith}
use Rattle.civil_time.specs.LocalTime.{seconds}

pub at_is : (at : ℤ) → FitsSigned w64 at → 1 ≤ seconds at → to_z w64 (of_z w64 at) ≡ pos (seconds at)
at_is (pos n) f h = to_z-of_z f
at_is (negsuc n) f h = absurd (omega arith)
