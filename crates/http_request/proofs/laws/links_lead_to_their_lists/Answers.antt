use Rattle.http_request.proofs.LinkLemmas.{list_leads}
use Rattle.http_request.proofs.laws.links_lead_to_their_lists.Goals as goal

pub returns : goal.returns
returns c = list_leads
