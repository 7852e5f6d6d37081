use Rattle.docket_wire.proofs.CanonicalLemmas.{unique}
use Rattle.docket_wire.proofs.SpelledLemmas.{canonical_spells, canonical_alone}
use Rattle.docket_wire.proofs.laws.canonical_texts_are_read_back.Goals as goal

pub returns : goal.returns
returns c = record { spells = canonical_spells; alone = canonical_alone; unique = unique }
