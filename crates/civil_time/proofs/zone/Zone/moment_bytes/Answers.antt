use Rattle.std.proofs.Common.{◌≡◌, rules}
use Rattle.civil_time.specs.LocalTime.{seconds}
use Rattle.civil_time.specs.MomentText.{moment_text}
use Rattle.civil_time.proofs.Written.{moment_text-spells, moment_text-utf8}
use Rattle.civil_time.proofs.zone.Zone.moment_bytes.Goals as goal

is_text : (c : goal.After-joined) → c.joined.result ≡ moment_text c.args.self.now (seconds c.args.at)
unfolding moment_text
is_text c = search rules

pub returns-clause-means : goal.returns-clause-means
returns-clause-means c = rw (is_text c) (moment_text-spells c.args.self.now c.local-day.ensures.zone (seconds c.args.at) c.requires)

pub returns-clause-text : goal.returns-clause-text
returns-clause-text c = rw (is_text c) (moment_text-utf8 c.args.self.now c.local-day.ensures.zone (seconds c.args.at))
