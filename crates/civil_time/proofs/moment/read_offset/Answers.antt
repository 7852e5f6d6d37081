use Rattle.std.proofs.Common.{ℤ, pos, negsuc, ◌-ℤ◌, to_z, of_z, w64, arith}
use Rattle.std.proofs.lemmas.Int.{ints}
use Rattle.std.proofs.lemmas.Option.{IfSome_then}
use Rattle.jiff_core.specs.Calendar.{IsBetween}
use Rattle.civil_time.proofs.moment.read_offset.Goals as goal

ahead : (hours : ℤ) → IsBetween (pos 0) (pos 13) hours → IsBetween (negsuc 12) (pos 13) hours
ahead hours h = (omega (arith, ints, h), omega (arith, ints, h))

-- the hours behind, as the code negates them
behind : (hours : ℤ) → IsBetween (pos 0) (pos 13) hours → IsBetween (negsuc 12) (pos 13) (to_z w64 (of_z w64 (pos 0 -ℤ to_z w64 (of_z w64 hours))))
behind hours h = (omega (arith, ints, h), omega (arith, ints, h))

pub returns-in-43-clause-hours : goal.returns-in-43-clause-hours
returns-in-43-clause-hours c = IfSome_then c.read_whole_hours.result c.read_whole_hours.ensures.hours (λ p h. ahead p.0 h)

pub returns-in_ok-hours-in-45-clause-hours : goal.returns-in_ok-hours-in-45-clause-hours
returns-in_ok-hours-in-45-clause-hours c = behind _ c.in_ok-hours-in-45.ensures.hours
