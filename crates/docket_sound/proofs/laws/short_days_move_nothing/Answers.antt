use Rattle.docket_sound.proofs.HistoryShortDays.{dues_alike, standings_same}
use Rattle.docket_sound.proofs.laws.short_days_move_nothing.Goals as goal

pub returns : goal.returns
returns c = record { ends = dues_alike; standings = standings_same }
