use Rattle.std.proofs.Common.{◌∙◌}
use Rattle.docket_sound.proofs.SearchLemmas.{among_searched}
use Rattle.docket_sound.proofs.short_day.is_among.Goals as goal

pub returns : goal.returns
returns c rises = c.is_ok.ensures.value ∙ among_searched c.args.numbers.now c.args.number c.binary_search.result rises c.binary_search.ensures.position
