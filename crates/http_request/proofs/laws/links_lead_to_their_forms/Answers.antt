use Rattle.http_request.proofs.LinkLemmas.{leads}
use Rattle.http_request.proofs.laws.links_lead_to_their_forms.Goals as goal

pub returns : goal.returns
returns c = leads
