use Rattle.count_lines.proofs.SpellingLemmas.{read-spelled, spelled-read}
use Rattle.count_lines.proofs.laws.lines_are_read_as_spelled.Goals as goal

pub returns : goal.returns
returns c = λ line request. (read-spelled line request, λ spelled. spelled-read line request spelled.0 spelled.1)
