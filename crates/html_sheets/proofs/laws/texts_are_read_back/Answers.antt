use Rattle.html_sheets.proofs.TextLemmas.{escaped-read}
use Rattle.html_sheets.proofs.laws.texts_are_read_back.Goals as goal

pub returns : goal.returns
returns c = escaped-read
