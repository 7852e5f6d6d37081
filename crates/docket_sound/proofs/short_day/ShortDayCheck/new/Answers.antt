use Rattle.std.proofs.Common.{refl}
use Rattle.docket_sound.proofs.ShortDayLemmas.{none_short}
use Rattle.docket_sound.proofs.short_day.ShortDayCheck.new.Goals as goal

pub returns-clause-none : goal.returns-clause-none
returns-clause-none c few risen = none_short _ refl c.new.ensures few risen
