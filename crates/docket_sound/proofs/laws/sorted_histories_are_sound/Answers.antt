use Rattle.docket_sound.proofs.SortedActs.{sorted_acts}
use Rattle.docket_sound.proofs.SortedReceipts.{sorted_receipts}
use Rattle.docket_sound.proofs.SortedRows.{sorted_calendar, sorted_short_days, sorted_cases, sorted_parties, party_counts, sorted_entries, sorted_local_rules, sorted_deadlines, deadline_counts}
use Rattle.docket_sound.proofs.laws.sorted_histories_are_sound.Goals as goal

pub returns : goal.returns
returns c = record {
  calendar = λ court h rows is order. sorted_calendar court h is rows order;
  short_days = λ court h days rows is of_days order. sorted_short_days court h is days rows of_days order;
  cases = λ court h rows is order. sorted_cases court h is rows order;
  parties = λ court h rows is order. sorted_parties court h is rows order;
  party_counts = λ court h rows is order. party_counts court h is rows order;
  entries = λ court h rows is order. sorted_entries court h is rows order;
  local_rules = λ court h rules is order. sorted_local_rules court h is rules order;
  deadlines = λ court h rules rows is of_rules order. sorted_deadlines court h is rules rows of_rules order;
  deadline_counts = λ court h rows is order. deadline_counts court h is rows order;
  acts = λ court h rows is order. sorted_acts court h is rows order;
  receipts = λ court later h rows is all known order. sorted_receipts court later h is all known rows order;
}
