use Rattle.std.proofs.Common.{◌≡◌, to_z, of_z, w64, arith}
use Rattle.std.proofs.lemmas.Int.{ints}
use Rattle.icalendar.proofs.TimeLemmas.{told-early, told-late, told-itself}
use Rattle.icalendar.proofs.time.told.Goals as goal

pub returns-then-at-lt-FIRST_INSTANT-clause-value : goal.returns-then-at-lt-FIRST_INSTANT-clause-value
returns-then-at-lt-FIRST_INSTANT-clause-value c = told-early c.args.at (omega (arith, ints, c.if-at-lt-FIRST_INSTANT.true))

pub returns-then-at-gt-LAST_INSTANT-clause-value : goal.returns-then-at-gt-LAST_INSTANT-clause-value
returns-then-at-gt-LAST_INSTANT-clause-value c = told-late c.args.at (omega (arith, ints, c.if-at-gt-LAST_INSTANT.true))

pub returns-clause-value : goal.returns-clause-value
returns-clause-value c =
    let same : to_z w64 (of_z w64 c.args.at) ≡ c.args.at = omega (arith, ints, c.ranges.at) in
    rw same (told-itself c.args.at (omega (arith, ints, c.if-at-lt-FIRST_INSTANT.false)) (omega (arith, ints, c.if-at-gt-LAST_INSTANT.false)))
