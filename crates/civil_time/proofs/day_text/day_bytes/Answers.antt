use Rattle.std.proofs.Common.{◌≡◌, pos, to_z, of_z, w32, unsigned_abs, arith, sym, ◌∙◌}
use Rattle.std.proofs.lemmas.Int.{ints}
use Rattle.civil_time.proofs.DayTexts.{spelled-is}
use Rattle.civil_time.proofs.day_text.day_bytes.Goals as goal

pub overflow_cast-year : goal.overflow_cast-year
overflow_cast-year c = omega (arith, ints, c.ymd-year.ensures.years)

pub returns-clause-means : goal.returns-clause-means
returns-clause-means c =
    let ymd = c.ymd-year.ensures.date in
    let year = unsigned_abs (to_z w32 (of_z w32 c.ymd-year.result.0)) in
    let same : pos year ≡ c.ymd-year.result.0 = omega (arith, ints, c.ymd-year.ensures.years) in
    (year, c.ymd-year.result.1, c.ymd-year.result.2, (ymd.0, ymd.1, ymd.2 ∙ sym same, ymd.3, ymd.4), cc)

pub returns-clause-value : goal.returns-clause-value
returns-clause-value c = spelled-is _ c.args.day (returns-clause-means c)
