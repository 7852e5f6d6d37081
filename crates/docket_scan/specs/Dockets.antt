-- What the check reports of a docket of this program.
use Rattle.std.specs.Prelude.{◌≡◌, false, List, map, length, Result, Ok, Err}
use Rattle.court_days.specs.Court.{CourtSettings, zone_of}
use Rattle.court_rules.specs.Standings.{standing}
use Rattle.court_rules.specs.declared.act.Standing.{Standing}
use Rattle.docket_history.specs.CalendarItems.{calendar_of}
use Rattle.docket_history.specs.Histories.{History, items_of, standing_rows, case_rows, party_rows, entry_rows, deadline_rows, act_rows, acts_of_deadline, local_rule_rows}
use Rattle.docket_columns.specs.declared.version.Version.{Version}
use Rattle.docket_columns.specs.declared.version.Version.TheVariants.{First, Second}
use Rattle.docket_sound.specs.Receipts.{AreOfKnownKinds}
use Rattle.docket_sound.specs.Standings.{counts_of_standings}
use Rattle.docket_scan.specs.declared.fault.AdoptFault.{AdoptFault}
use Rattle.docket_scan.specs.declared.fault.AdoptFault.TheVariants.{NoMemory, StoreFailed}
use Rattle.docket_scan.specs.declared.finding.FoundDocket.{FoundDocket}
use Rattle.docket_scan.specs.declared.holdings.Holdings.{Holdings}

-- the tables of the version can hold what the history has: the first was written before the last three kinds of commands came
abbrev pub MayHold : Version → History → Type 0
MayHold First h = AreOfKnownKinds false h
MayHold Second h = Unit {0}

-- where each deadline of a history stands, by the whole calendar
abbrev pub standings_in : CourtSettings → History → List Standing
standings_in court h =
    map (λ d. standing (zone_of court) (calendar_of (items_of (standing_rows h))) (acts_of_deadline d.case d.number (act_rows h))) (deadline_rows h)

-- what a history has, counted; each command has its receipt
abbrev pub holdings_in : CourtSettings → History → Holdings
holdings_in court h = record {
  calendar_rows = length (standing_rows h);
  local_rules = length (local_rule_rows h);
  cases = length (case_rows h);
  parties = length (party_rows h);
  entries = length (entry_rows h);
  deadlines = length (deadline_rows h);
  standings = counts_of_standings (standings_in court h);
  receipts = length h;
}

-- what the check reports of a history's docket: what the history has, or that memory or the database failed; no table is unsound
abbrev pub IsToldOfDocket : CourtSettings → History → Result Holdings AdoptFault → Type 0
IsToldOfDocket court h (Ok held) = held ≡ holdings_in court h
IsToldOfDocket court h (Err NoMemory) = Unit {0}
IsToldOfDocket court h (Err StoreFailed) = Unit {0}
IsToldOfDocket court h (Err _) = ⊥

-- the same, with the court whose docket it is
abbrev pub IsFoundOfDocket : CourtSettings → History → Result FoundDocket AdoptFault → Type 0
IsFoundOfDocket court h (Ok found) = (found.court ≡ court) × (found.held ≡ holdings_in court h)
IsFoundOfDocket court h (Err NoMemory) = Unit {0}
IsFoundOfDocket court h (Err StoreFailed) = Unit {0}
IsFoundOfDocket court h (Err _) = ⊥
