use Rattle.std.proofs.Common.{ℤ, pos, negsuc, to_z, of_z, w64, rules, arith}
use Rattle.std.proofs.lemmas.Grind.{common_steps}
use Rattle.std.proofs.lemmas.Int.{ints}
use Rattle.jiff_core.specs.Calendar.{IsBetween}
use Rattle.civil_time.proofs.MomentGrammarLemmas.{moment_read_as_spelled}
use Rattle.civil_time.proofs.moment.read_moment.Goals as goal

pub returns-in_err-day-clause-grammar : goal.returns-in_err-day-clause-grammar
returns-in_err-day-clause-grammar c = moment_read_as_spelled c.args.text.now _ (search rules)

pub returns-in_err-hours_ahead-clause-grammar : goal.returns-in_err-hours_ahead-clause-grammar
returns-in_err-hours_ahead-clause-grammar c = moment_read_as_spelled c.args.text.now _ (grind (arith, common_steps))

-- an offset stays what it is as it is passed
passed : (hours : ℤ) → IsBetween (negsuc 12) (pos 13) hours → IsBetween (negsuc 12) (pos 13) (to_z w64 (of_z w64 hours))
passed hours h = (omega (arith, ints, h), omega (arith, ints, h))

pub instant_at-requires-clause-hours : goal.instant_at-requires-clause-hours
instant_at-requires-clause-hours c = passed _ c.in_ok-hours_ahead.ensures.hours

pub returns-clause-grammar : goal.returns-clause-grammar
returns-clause-grammar c = moment_read_as_spelled c.args.text.now _ (search rules)

pub returns-in_err-after-clause-grammar : goal.returns-in_err-after-clause-grammar
returns-in_err-after-clause-grammar c = moment_read_as_spelled c.args.text.now _ (search rules)

pub returns-in_err-minute-clause-grammar : goal.returns-in_err-minute-clause-grammar
returns-in_err-minute-clause-grammar c = moment_read_as_spelled c.args.text.now _ (search rules)

pub returns-then-not-is_empty-clause-grammar : goal.returns-then-not-is_empty-clause-grammar
returns-then-not-is_empty-clause-grammar c = moment_read_as_spelled c.args.text.now _ (search rules)

pub returns-clause-limits : goal.returns-clause-limits
returns-clause-limits c = c.instant_at.ensures.limits

pub instant_at-requires-clause-day : goal.instant_at-requires-clause-day
instant_at-requires-clause-day c = c.in_ok-day.ensures.limit

pub instant_at-requires-clause-minute : goal.instant_at-requires-clause-minute
instant_at-requires-clause-minute c = c.in_ok-minute.ensures.minutes
