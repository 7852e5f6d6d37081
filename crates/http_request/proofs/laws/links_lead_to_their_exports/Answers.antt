use Rattle.http_request.proofs.ExportLemmas.{about_leads, days_lead}
use Rattle.http_request.proofs.laws.links_lead_to_their_exports.Goals as goal

pub returns-clause-days : goal.returns-clause-days
returns-clause-days c = days_lead

pub returns-clause-about : goal.returns-clause-about
returns-clause-about c = about_leads
