use Rattle.std.proofs.Common.{Some, ap, ◌∙◌}
use Rattle.http_request.proofs.SearchLemmas.{found, no_text}
use Rattle.http_request.proofs.search.words_in.Goals as goal

pub returns-in_default : goal.returns-in_default
returns-in_default c = no_text c.args.value.now c.as_slice.result.now (c.as_slice.ensures.value ∙ c.in_ok-bytes.ensures) c.in_default.ensures.cases.0

pub returns : goal.returns
returns c =
    ap Some c.new.ensures
    ∙ found c.args.value.now c.as_slice.result.now c.in-Ok.text.now (c.as_slice.ensures.value ∙ c.in_ok-bytes.ensures) c.in-Ok.ensures.cases.0 c.in-Ok.ensures.cases.1 c.as_slice.ensures.fits c.if-is_empty.ensures
