use Rattle.std.proofs.Common.{◌∙◌}
use Rattle.http_request.proofs.SearchLemmas.{kept}
use Rattle.http_request.proofs.search.Words.new.Goals as goal

pub invariant_of-result : goal.invariant_of-result
invariant_of-result c = kept c.args.text.now _ c.requires (c.copy_from_slice.ensures.after ∙ c.as_bytes.ensures.value) c.utf8.text
