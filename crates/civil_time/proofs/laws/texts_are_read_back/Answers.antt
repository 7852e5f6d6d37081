use Rattle.std.proofs.Common.{arith}
use Rattle.civil_time.specs.DayText.{day_text}
use Rattle.civil_time.proofs.DayTexts.{day_of_text-spelled, day_of_text-means, day_text-length, spells-text}
use Rattle.civil_time.proofs.laws.texts_are_read_back.Goals as goal

pub returns-clause-read_back : goal.returns-clause-read_back
returns-clause-read_back c = λ day limits. day_of_text-spelled (day_text day) day limits (spells-text day (omega (arith, limits)))

pub returns-clause-ten_bytes : goal.returns-clause-ten_bytes
returns-clause-ten_bytes c = day_text-length

pub returns-clause-means : goal.returns-clause-means
returns-clause-means c = day_of_text-means
