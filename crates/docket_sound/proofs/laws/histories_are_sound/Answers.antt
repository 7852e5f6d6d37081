use Rattle.docket_sound.proofs.HistoryCalendar.{sound_calendar}
use Rattle.docket_sound.proofs.HistoryDeadlines.{sound_deadlines}
use Rattle.docket_sound.proofs.HistoryLemmas.{sound_cases, sound_parties, sound_entries}
use Rattle.docket_sound.proofs.HistoryLocalRules.{sound_local_rules}
use Rattle.docket_sound.proofs.HistoryReceipts.{sound_receipts, all_kinds_known, keys_apart}
use Rattle.docket_sound.proofs.laws.histories_are_sound.Goals as goal

pub returns : goal.returns
returns c = record {
  calendar = sound_calendar;
  cases = sound_cases;
  parties = sound_parties;
  entries = sound_entries;
  local_rules = sound_local_rules;
  deadlines = sound_deadlines;
  receipts = λ court later h is all known. sound_receipts later court h is all known;
  kinds = all_kinds_known;
  keys = keys_apart;
}
